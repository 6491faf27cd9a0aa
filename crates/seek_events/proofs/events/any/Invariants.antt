use Rattle.std.proofs.Common.{take}
use Rattle.seek_events.proofs.Following.{IsSome}
use Rattle.seek_events.proofs.events.any.Given as goal

abbrev pub invariant-loop-i : goal.invariant-loop-i
invariant-loop-i l = IsSome l.fn.net l.net (take l.i l.bits) l.some l.i
