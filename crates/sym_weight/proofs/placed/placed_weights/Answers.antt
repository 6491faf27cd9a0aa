use Rattle.std.proofs.Common.{◌≡◌, ◌+◌, suc, ◌∷◌, drop, drop-cons, ap, sym, ◌∙◌, arith}
use Rattle.c_core.specs.View.{program_view}
use Rattle.sym_weight.specs.Tally.{weight_at}
use Rattle.c_meaning.specs.Placing.{placed, placed_view}
use Rattle.sym_weight.proofs.Placing.{placed_on, settled_on}
use Rattle.sym_weight.proofs.placed.placed_weights.Goals as goal

pub loop-x-preserved : goal.loop-x-preserved
loop-x-preserved c =
    let p = program_view c.args.program.now in
    let i : c.loop-x.x-index + 1 ≡ suc c.loop-x.x-index = omega arith in
    let e : placed_view (drop c.loop-x.x-index c.args.invariants.now) ≡ placed c.x-item.result ∷ placed_view (drop (suc c.loop-x.x-index) c.args.invariants.now) =
    ap placed_view (drop-cons c.args.invariants.now c.loop-x.x-index c.x-item.result c.loop-x-test.true
    ∙ ap (λ x. x ∷ drop (suc c.loop-x.x-index) c.args.invariants.now) (sym c.x-item.is)) in
    record {
      settled = λ q. settled_on p c.args.at_loop q (placed c.x-item.result) (weight_at c.add_placed.new.weights q) (weight_at c.loop-x.weights q) (c.in_ok-add_placed.ensures q) (c.loop-x.invariant.settled q);
      value = λ q. rw i (placed_on p c.args.at_loop q (placed c.x-item.result) (placed_view (drop c.loop-x.x-index c.args.invariants.now)) (placed_view (drop (suc c.loop-x.x-index) c.args.invariants.now))
          (weight_at c.add_placed.new.weights q) (weight_at c.loop-x.weights q) _ e (c.in_ok-add_placed.ensures q) (c.loop-x.invariant.value q));
    }
