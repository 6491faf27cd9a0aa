use Rattle.std.proofs.Common.{sym}
use Rattle.c_meaning.specs.declared.run.Way.TheVariants.{Truth}
use Rattle.circuits.specs.Net.{holds}
use Rattle.circuits.proofs.Nets.{means_by, opp}
use Rattle.seek_passes.proofs.points.at_branch.Goals as goal

pub returns-in-Some : goal.returns-in-Some
returns-in-Some c = λ p cells. means_by _ _ _ _ c.truth_way.ensures (λ v. sym (c.in-Some.ensures p (Truth (holds v c.args.net.now c.args.truth)) (cells v)))

pub returns-in-None : goal.returns-in-None
returns-in-None c = λ p cells. means_by _ _ _ _ (opp c.not.ensures c.yes.ensures) (λ v. sym (c.in-None.ensures p (Truth (holds v c.args.net.now c.args.truth)) (cells v)))
