use Rattle.std.proofs.Common.{false, refl}
use Rattle.circuits.proofs.Nets.{opp}
use Rattle.sym_choices.proofs.ArmLaws.{entering_none, entering_on}
use Rattle.sym_choices.proofs.choosing.entries.Goals as goal

pub loop-index-init : goal.loop-index-init
loop-index-init c = entering_none _ _ c.args.cases.now c.args.cases.now c.args.none c.not-entered.result c.args.net.now _ refl refl c.new-out.ensures.items (opp c.not-entered.ensures c.yes.ensures)

pub loop-index-preserved : goal.loop-index-preserved
loop-index-preserved c =
    entering_on c.args.arms.now c.args.cases.now c.loop-index.index c.index-arms-index.result (record { node = 0; negated = false }) _ c.requires.many c.loop-index-test.true c.index-arms-index.is refl c.args.none c.loop-index.entered c.in_ok-entered.entered c.entry.result
    c.args.net.now c.loop-index.net c.together.new.self c.loop-index.out.items _ c.requires.cases_in c.requires.none_in c.loop-index.invariant c.entry.ensures c.in_ok-entered.ensures.grown c.in_ok-entered.ensures.value c.in_ok-push.ensures.items
