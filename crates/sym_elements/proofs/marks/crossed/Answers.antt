use Rattle.std.proofs.Common.{arith, refl, subst}
use Rattle.sym_elements.specs.Marks.{AreCrossed}
use Rattle.sym_elements.proofs.Crossing.{crossed_none, crossed_next}
use Rattle.sym_elements.proofs.marks.crossed.Goals as goal

pub loop-i-init : goal.loop-i-init
loop-i-init c = crossed_none c.args.rows.now c.args.columns.now c.new-out.ensures.items

pub loop-i-preserved : goal.loop-i-preserved
loop-i-preserved c =
    crossed_next c.args.rows.now c.args.columns.now _ c.loop-i.invariant c.requires.rows_in c.requires.columns_in c.requires.some c.loop-i-test.true refl refl c.in_ok-place.ensures.grown c.in_ok-place.ensures.value
    c.in_ok-push.ensures.items

pub returns : goal.returns
returns c = subst (λ k. AreCrossed c.args.net.now c.loop-i.net c.args.rows.now c.args.columns.now k c.loop-i.out.items) (omega arith) c.loop-i.invariant
