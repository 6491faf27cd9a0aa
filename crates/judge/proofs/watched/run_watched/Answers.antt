use Rattle.std.proofs.Common.{subst}
use Rattle.c_core.specs.View.{program_view}
use Rattle.c_core.specs.declared.program.Program.{Program}
use Rattle.way_match.specs.View.{segments_view}
use Rattle.judge.specs.Watching.{IsWatched}
use Rattle.judge.proofs.watched.run_watched.Goals as goal

pub returns : goal.returns
returns c =
    subst (λ (p : Program). IsWatched (program_view p) (segments_view c.args.bound.now) c.args.choices.now c.args.steps c.in_ok-watched.watched) c.in_ok-index.ensures c.in_ok-watched.ensures
