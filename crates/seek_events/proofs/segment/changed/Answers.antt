use Rattle.circuits.proofs.Nets.{grown_not}
use Rattle.seek_events.proofs.Bits.{same_picked}
use Rattle.seek_events.proofs.segment.changed.Goals as goal

pub returns-then-same-clause-grown : goal.returns-then-same-clause-grown
returns-then-same-clause-grown c = grown_not 3 _

pub returns-then-same-clause-value : goal.returns-then-same-clause-value
returns-then-same-clause-value c = same_picked _ c.args.here c.args.now c.args.before (c.is_same-same.ensures c.if-same.true) c.requires.before_in
