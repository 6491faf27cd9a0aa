use Rattle.c_core.specs.View.{program_view}
use Rattle.judge.proofs.Judged.{judged}
use Rattle.judge.proofs.violation.judge_violation.Goals as goal
use Rattle.way_match.specs.View.{segments_view}

pub returns : goal.returns
returns c =
    judged (program_view c.args.index.now) (segments_view c.args.bound.now) c.args.steps c.in_ok-choices.choices c.in_ok-watched.watched c.verdict.result
    c.in_ok-choices.ensures c.in_ok-watched.ensures c.verdict.ensures
