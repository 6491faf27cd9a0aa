use Rattle.judge_obligations.specs.Logged.{AreKept}
use Rattle.judge_obligations.proofs.logged.judge_logged.Given as goal

abbrev pub invariant-loop-at : goal.invariant-loop-at
invariant-loop-at l = AreKept l.conflicts l.obligations l.at l.logs
