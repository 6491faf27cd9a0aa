use Rattle.wv_weed.specs.Rounds.{IsRoundOf}
use Rattle.wv_weed.proofs.rounds.judge.Given as goal

abbrev pub invariant-loop-at : goal.invariant-loop-at
invariant-loop-at l = IsRoundOf l.trial l.at l.round
