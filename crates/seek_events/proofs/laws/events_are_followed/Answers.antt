use Rattle.seek_events.proofs.Segments.{followed}
use Rattle.seek_events.proofs.laws.events_are_followed.Goals as goal

pub returns : goal.returns
returns c = followed
