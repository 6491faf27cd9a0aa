-- The front stays, and one declaration less is behind it each time.
use Rattle.std.proofs.Common.{◌≡◌, take, length}
use Rattle.check_scope.proofs.log.Log.cut.Given as goal

abbrev pub invariant-loop-self : goal.invariant-loop-self
invariant-loop-self l = take l.count l.self.lines.items ≡ take l.count l.initial.self.lines.items

abbrev pub decreases-loop-self : goal.decreases-loop-self
decreases-loop-self l = length l.self.lines.items
