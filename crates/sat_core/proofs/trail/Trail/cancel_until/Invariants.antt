use Rattle.std.proofs.Common.{length}
use Rattle.sat_core.specs.Values.{IsCut}
use Rattle.sat_core.proofs.trail.Trail.cancel_until.Given as goal

abbrev pub invariant-loop : goal.invariant-loop
invariant-loop l = IsCut l.initial.self.entries.items (length l.initial.self.values.items) l.kept l.counter l.self.values.items l.self.entries.items
