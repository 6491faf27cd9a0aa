use Rattle.c_core.specs.View.{program_view}
use Rattle.c_meaning.specs.Placing.{placed_view}
use Rattle.judge_correctness.proofs.Lifting.{confirmed, decided_beyond}
use Rattle.judge_correctness.proofs.correctness.judge_correctness.Goals as goal

pub decide-requires-clause-promised : goal.decide-requires-clause-promised
decide-requires-clause-promised c = c.in_ok-found.ensures.1

pub returns-in-Ok-clause-confirmed : goal.returns-in-Ok-clause-confirmed
returns-in-Ok-clause-confirmed c =
    let p = program_view c.args.program.now in
    let I = placed_view c.args.invariants.now in
    confirmed c.args.conflicts p I c.in-Ok.judged.verdict (λ h. c.runs_are_lifted.ensures p c.args.program.now.checked c.in_ok-found.ensures.0.straight I h) c.in-Ok.ensures.right

pub returns-in-Ok-clause-kept : goal.returns-in-Ok-clause-kept
returns-in-Ok-clause-kept c =
    record { obligations = c.in_ok-found.found; promised = c.in_ok-found.ensures.1; kept = c.in-Ok.ensures.kept }

pub returns-in-Ok-clause-decided : goal.returns-in-Ok-clause-decided
returns-in-Ok-clause-decided c = λ h. c.in-Ok.ensures.decided (decided_beyond (program_view c.args.program.now) c.in_ok-found.ensures.1.feeds h)
