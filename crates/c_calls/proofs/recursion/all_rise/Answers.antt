use Rattle.std.proofs.Common.{◌≡◌, ◌<◌, List, true, length, get_or, nat_le, refl, sym, ap, ◌∙◌, subst, arith}
use Rattle.std.specs.Prelude.{IsTrue}
use Rattle.std.proofs.lemmas.Option.{slice_get_read}
use Rattle.c_core.specs.View.{program_view}
use Rattle.c_core.specs.declared.tree.Function.{Function}
use Rattle.c_calls.specs.Levels.{each_call, level_of}
use Rattle.c_calls.specs.Uses.{uses_of_function}
use Rattle.c_calls.proofs.RecursionLaws.{one_more_ruled_out}
use Rattle.c_calls.proofs.UsesLaws.{as_many, body_of}
use Rattle.c_calls.proofs.recursion.all_rise.Goals as goal

pub loop-number-preserved : goal.loop-number-preserved
loop-number-preserved c =
    let p = program_view c.args.program.now in
    let fs = c.args.program.now.functions in
    let n = c.loop-number.number in
    let levels = c.args.levels.now in
    let function = c.function-item.result in
    let same = ap length c.as_slice-function-items.ensures in
    let inside : n < length fs = omega arith in
    let at : function ≡ get_or fs n function = subst (λ (xs : List Function). function ≡ get_or xs n function) c.as_slice-function-items.ensures c.function-item.is in
    let listed = body_of fs n function (sym (slice_get_read fs (length fs) n function refl inside at)) in
    let true_here : c.in_ok-rises.field-0 ≡ true = grind arith in
    one_more_ruled_out (λ f. IsTrue (each_call (λ g. nat_le (level_of levels f) (level_of levels g)) (uses_of_function p f))) n c.loop-number.invariant
    (sym (ap (each_call (λ g. nat_le (level_of levels n) (level_of levels g))) listed) ∙ sym c.in_ok-rises.ensures ∙ true_here)

pub returns : goal.returns
returns c _ f below = let same = ap length c.as_slice-function-items.ensures in let many = as_many c.args.program.now.functions in c.loop-number.invariant f (omega arith)
