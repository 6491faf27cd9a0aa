use Rattle.std.proofs.Common.{◌≡◌, ◌∙◌, ◌+◌, ◌∷◌, suc, drop, drop-cons, ap, sym, refl, arith}
use Rattle.run_state.specs.declared.machine.LeftAt.{LeftAt}
use Rattle.run_state.proofs.Starting.{givens_more, turned_round}
use Rattle.run_state.proofs.choices.left_of_givens.Goals as goal

pub loop-given-preserved : goal.loop-given-preserved
loop-given-preserved c =
    let gs = c.args.givens.now in
    let i = c.loop-given.given-index in
    let g = c.given-item.result in
    let d = drop-cons gs i g c.loop-given-test.true ∙ ap (λ x. x ∷ drop (suc i) gs) (sym c.given-item.is) in
    let l : LeftAt = record { spot = g.spot; values = c.in_ok-values.values } in
    let e : i + 1 ≡ suc i = omega arith in
    rw e (givens_more c.loop-given.left.items _ l gs i g d c.loop-given.invariant c.in_ok-push.ensures.items (turned_round g.spot g.values l refl (rw c.as_slice.ensures at c.in_ok-values.ensures)))
