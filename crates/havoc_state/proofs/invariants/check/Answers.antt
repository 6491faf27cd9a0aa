use Rattle.std.proofs.Common.{◌≡◌, ◌+◌, ◌∷◌, ◌∙◌, suc, drop, drop-cons, ap, sym, arith}
use Rattle.c_core.specs.View.{program_view}
use Rattle.c_meaning.specs.Placing.{placed_view}
use Rattle.havoc_state.specs.Havocking.{left_of}
use Rattle.havoc_state.proofs.Testing.{test_on}
use Rattle.havoc_state.proofs.invariants.check.Goals as goal

pub loop-index-preserved : goal.loop-index-preserved
loop-index-preserved c =
    let e : c.loop-index.index + 1 ≡ suc c.loop-index.index = omega arith in
    let d = drop-cons c.args.invariants.now c.loop-index.index c.index-invariants-index.result c.loop-index-test.true ∙ ap (λ x. x ∷ drop (suc c.loop-index.index) c.args.invariants.now) (sym c.index-invariants-index.is) in
    rw e (test_on (program_view c.args.program.now) (placed_view c.args.invariants.now) c.args.spot c.args.invariants.now c.loop-index.index c.index-invariants-index.result d (left_of c.args.machine.now) _ c.args.at_loop c.args.kind c.loop-index.invariant
    (sym c.is_broken.ensures ∙ c.if-is_broken.false))
