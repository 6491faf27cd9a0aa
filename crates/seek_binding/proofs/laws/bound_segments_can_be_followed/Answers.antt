use Rattle.seek_binding.proofs.BoundSegments.{can_be_followed}
use Rattle.seek_binding.proofs.laws.bound_segments_can_be_followed.Goals as goal

pub returns : goal.returns
returns c p w bound h = can_be_followed p w bound h
