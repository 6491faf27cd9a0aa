use Rattle.way_bind.specs.Binding.{place_named}
use Rattle.way_bind.proofs.waypoint.place_named.Goals as goal

pub returns : goal.returns
unfolding place_named
returns c = c.place_at.ensures
