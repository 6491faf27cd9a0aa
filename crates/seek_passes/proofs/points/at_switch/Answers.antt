use Rattle.std.proofs.Common.{sym}
use Rattle.c_core.specs.Typing.{labels_in}
use Rattle.c_core.specs.View.{switch_view}
use Rattle.c_meaning.specs.Run.{way_for}
use Rattle.circuits.proofs.Nets.{means_by, opp}
use Rattle.seek_passes.proofs.points.at_switch.Goals as goal

pub returns-in-Some : goal.returns-in-Some
returns-in-Some c = λ z are none p cells. means_by _ _ _ _ (c.arm_way.ensures z are none) (λ v. sym (c.in-Some.ensures p (way_for (z v) (labels_in (switch_view c.args.arms.now))) (cells v)))

pub returns-in-None : goal.returns-in-None
returns-in-None c = λ z are none p cells. means_by _ _ _ _ (opp c.not.ensures c.yes.ensures) (λ v. sym (c.in-None.ensures p (way_for (z v) (labels_in (switch_view c.args.arms.now))) (cells v)))
