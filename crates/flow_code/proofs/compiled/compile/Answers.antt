use Rattle.std.proofs.Common.{◌++◌, ◌∷◌, [], length, slice_get, refl, ap, ◌∙◌}
use Rattle.c_core.specs.View.{program_view}
use Rattle.flow_code.specs.declared.code.Action.TheVariants.{End}
use Rattle.flow_code.specs.Preparing.{op}
use Rattle.flow_code.specs.Programs.{functions_code, bodies, entry_of}
use Rattle.flow_code.proofs.Objects.{small_objects}
use Rattle.flow_code.proofs.compiled.compile.Goals as goal

pub returns : goal.returns
returns c =
    let p = program_view c.args.program.now in
    let first = c.in_ok-emit.ensures ∙ ap (λ l. l ++ op 0 End ∷ []) c.new-ops.ensures in
    let found = c.in_ok-functions.ensures.found ∙ ap (λ l. bodies p (length l) p.functions) first in
    record {
      model = refl;
      property = refl;
      ops = c.in_ok-functions.ensures.code ∙ ap (λ l. l ++ functions_code p (length l) p.functions) first;
      functions = found;
      first = c.in_ok-first.ensures;
      sizes = c.in_ok-sizes.ensures;
      main = c.entry_of-main.ensures ∙ ap (λ bs. entry_of (slice_get bs p.main)) found;
      checked = c.args.program.now.checked;
      small = small_objects p c.args.program.now.checked;
    }
