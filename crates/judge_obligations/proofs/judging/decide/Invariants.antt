use Rattle.folded_nets.specs.Following.{Follows}
use Rattle.judge_obligations.specs.Deciding.{AreNeverTrue}
use Rattle.judge_obligations.proofs.judging.decide.Given as goal

abbrev pub invariant-loop-at : goal.invariant-loop-at
invariant-loop-at l = record {
  never : AreNeverTrue l.obligations.net l.obligations.failing l.at;
  follows : Follows l.obligations.net l.folding.folded;
}
