use Rattle.std.proofs.Common.{rules, ◌∙◌, refl, ap, arith}
use Rattle.std.specs.Prelude.{Some, length}
use Rattle.c_core.specs.View.{program_view}
use Rattle.sym_eval.proofs.Wholly.{recursive_within, named_at}
use Rattle.sym_eval.proofs.programs.recursive.Goals as goal

pub bounds-as_slice-function : goal.bounds-as_slice-function
bounds-as_slice-function c =
    let within = recursive_within (program_view c.args.program.now) c.args.program.now.functions c.args.function refl c.requires in
    omega (arith, within, ap length c.as_slice.ensures)

pub returns : goal.returns
returns c =
    let within = recursive_within (program_view c.args.program.now) c.args.program.now.functions c.args.function refl c.requires in
    record {
      number = c.args.function;
      first = c.requires;
      named = named_at c.args.program.now.functions c.args.function c.index-as_slice-function.result within (search rules) ∙ ap Some (search rules);
    }
