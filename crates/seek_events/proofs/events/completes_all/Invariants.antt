use Rattle.std.proofs.Common.{◌*◌, drop}
use Rattle.seek_events.proofs.Following.{IsAllSoFar, whole_all}
use Rattle.seek_events.proofs.events.completes_all.Given as goal

-- with what is left it becomes what the whole gives
abbrev pub invariant-loop-i : goal.invariant-loop-i
invariant-loop-i l = IsAllSoFar l.fn.net l.net (drop l.i l.passings) (drop l.i l.completed) l.came l.assumes (3 * l.i) (whole_all l.fn.net l.passings l.completed)
