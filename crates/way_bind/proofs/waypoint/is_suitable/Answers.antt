use Rattle.way_bind.specs.Binding.{is_suitable}
use Rattle.way_bind.proofs.waypoint.is_suitable.Goals as goal

pub returns : goal.returns
unfolding is_suitable
returns c = c.aim_fits.ensures
