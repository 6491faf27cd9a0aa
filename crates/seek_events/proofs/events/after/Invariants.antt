use Rattle.std.proofs.Common.{◌*◌, drop}
use Rattle.seek_events.proofs.Following.{IsSoFar, whole_after}
use Rattle.seek_events.proofs.events.after.Given as goal

-- with what is left it becomes what the whole gives
abbrev pub invariant-loop-i : goal.invariant-loop-i
invariant-loop-i l = IsSoFar l.fn.net l.net l.here (drop l.i l.passings) (drop l.i l.completed) l.all.items l.came l.assumes (8 * l.i) (whole_after l.fn.net l.here l.passings l.completed)
