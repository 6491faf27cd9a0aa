use Rattle.std.proofs.Common.{◌≡◌, ◌∙◌, Some, arith, refl, subst}
use Rattle.std.specs.Prelude.{slice_get}
use Rattle.std.proofs.lemmas.Option.{same_Some}
use Rattle.circuits.specs.declared.net.Bit.{Bit}
use Rattle.bit_answers.specs.Deciding.{IsNeverTrue}
use Rattle.c_core.specs.View.{program_view}
use Rattle.c_meaning.specs.Placing.{placed_view}
use Rattle.judge_obligations.specs.Logged.{IsPassedAs}
use Rattle.judge_obligations.proofs.Kept.{never_passed}
use Rattle.judge_obligations.proofs.Verdicted.{all_hold}
use Rattle.judge_obligations.proofs.judging.decide.Goals as goal

pub loop-at-preserved-then-is_false : goal.loop-at-preserved-then-is_false
loop-at-preserved-then-is_false c =
    let o = c.args.obligations.now in
    let never : (b : Bit) → slice_get o.failing c.loop-at.at ≡ Some b → IsNeverTrue o.net b = λ b at. subst (IsNeverTrue o.net) (same_Some c.failing_at.result b (c.failing_at.ensures ∙ at)) (c.if-is_false.ensures refl) in
    record { never = never_passed c.args.conflicts o c.loop-at.at c.loop-at.invariant.never never; follows = c.loop-at.invariant.follows }

pub loop-at-preserved : goal.loop-at-preserved
loop-at-preserved c =
    let o = c.args.obligations.now in
    let n = c.loop-at.at in
    let passed = subst (IsPassedAs c.args.conflicts (program_view c.args.program.now) (placed_view c.args.invariants.now) o n) c.in-None.is c.in_ok-pass.ensures.passed in
    record { never = never_passed c.args.conflicts o n c.loop-at.invariant.never passed; follows = c.in_ok-pass.ensures.follows }

pub returns-clause-right : goal.returns-clause-right
returns-clause-right c =
    all_hold (program_view c.args.program.now) (placed_view c.args.invariants.now) c.args.obligations.now c.requires.promised c.len-many.result c.len-many.ensures
    (λ i b lt at. c.loop-at.invariant.never i b (omega (arith, lt, c.loop-at-test.false)) at)
