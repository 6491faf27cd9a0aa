use Rattle.circuits.proofs.Nets.{own, opp, and_of}
use Rattle.seek_events.proofs.segment.stays.Goals as goal

pub returns-clause-value : goal.returns-clause-value
returns-clause-value c = and_of c.in_ok-stays.ensures.value (own _ _ c.requires.completed_in) (opp c.not.ensures (own _ _ c.requires.here.avoided))
