use Rattle.std.proofs.Common.{◌∙◌, ap}
use Rattle.c_core.specs.View.{program_view}
use Rattle.c_core.specs.declared.program.Program.{Program}
use Rattle.c_meaning.specs.Run.{Run, Moments}
use Rattle.c_meaning.specs.Watching.{seen_after}
use Rattle.way_match.specs.inside.Steps.{after}
use Rattle.judge.proofs.Judged.{found_in}
use Rattle.judge.proofs.watched.watched_over.Goals as goal

pub returns : goal.returns
returns c = record {
  run = c.in_ok-run.ensures.run ∙ ap (λ (p : Program). Run (program_view p) c.args.choices.now c.args.steps) c.program.ensures;
  found =
      found_in c.args.index.now c.args.bound.now c.args.steps c.args.choices.now c.in_ok-matcher.matcher c.run_machine.new.watcher c.done-found.result
      c.in_ok-matcher.ensures
      (c.in_ok-run.ensures.seen ∙ ap (λ (p : Program). seen_after after c.in_ok-matcher.matcher (Moments (program_view p) c.args.choices.now c.args.steps)) c.program.ensures)
      c.done-found.ensures.exact;
}
