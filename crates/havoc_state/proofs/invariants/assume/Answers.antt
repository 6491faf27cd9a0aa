use Rattle.std.proofs.Common.{◌≡◌, ◌+◌, ◌∷◌, ◌∙◌, suc, drop, drop-cons, ap, sym, arith}
use Rattle.c_core.specs.View.{program_view}
use Rattle.c_meaning.specs.Placing.{placed_view}
use Rattle.havoc_state.specs.Havocking.{left_of}
use Rattle.havoc_state.proofs.Testing.{assumed_not, assume_on}
use Rattle.havoc_state.proofs.invariants.assume.Goals as goal

pub returns-then-is_broken : goal.returns-then-is_broken
returns-then-is_broken c =
    let d = drop-cons c.args.invariants.now c.loop-invariant.invariant-index c.invariant-item.result c.loop-invariant-test.true ∙ ap (λ x. x ∷ drop (suc c.loop-invariant.invariant-index) c.args.invariants.now) (sym c.invariant-item.is) in
    assumed_not (program_view c.args.program.now) (placed_view c.args.invariants.now) c.args.spot c.args.invariants.now c.loop-invariant.invariant-index c.invariant-item.result d (left_of c.args.machine.now) _ c.loop-invariant.invariant
    (sym c.is_broken.ensures ∙ c.if-is_broken.true)

pub loop-invariant-preserved : goal.loop-invariant-preserved
loop-invariant-preserved c =
    let e : c.loop-invariant.invariant-index + 1 ≡ suc c.loop-invariant.invariant-index = omega arith in
    let d = drop-cons c.args.invariants.now c.loop-invariant.invariant-index c.invariant-item.result c.loop-invariant-test.true ∙ ap (λ x. x ∷ drop (suc c.loop-invariant.invariant-index) c.args.invariants.now) (sym c.invariant-item.is) in
    rw e (assume_on (program_view c.args.program.now) (placed_view c.args.invariants.now) c.args.spot c.args.invariants.now c.loop-invariant.invariant-index c.invariant-item.result d (left_of c.args.machine.now) _ c.loop-invariant.invariant
    (sym c.is_broken.ensures ∙ c.if-is_broken.false))
