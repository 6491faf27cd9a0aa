use Rattle.std.proofs.Common.{sym, subst, ◌∙◌, ap, ap₂}
use Rattle.std.specs.List.{All}
use Rattle.bit_answers.specs.Deciding.{IsWide, inputs_of}
use Rattle.c_core.specs.View.{program_view}
use Rattle.c_meaning.specs.declared.run.Choices.TheVariants.{InTurn}
use Rattle.c_meaning.specs.Replay.{values_of}
use Rattle.judge.specs.Watching.{IsWatched}
use Rattle.seek_answer.proofs.answering.run_under.Goals as goal
use Rattle.seek_answer.specs.Answering.{step_budget}
use Rattle.sym_state.specs.Standing.{draws_at}
use Rattle.way_match.specs.View.{segments_view}

pub draws_under-requires : goal.draws_under-requires
draws_under-requires c = record {
  wide = subst (All (IsWide c.args.program.now.model)) (sym c.as_slice-sites.ensures) c.requires;
}

pub returns : goal.returns
returns c =
    let p = program_view c.args.program.now in
    let drawn = c.as_slice.ensures ∙ c.in_ok-draws.ensures ∙ ap (draws_at p (inputs_of c.args.inputs.now) c.args.reach.now.net) c.as_slice-sites.ensures in
    subst (λ x. IsWatched p (segments_view c.args.bound.now) x step_budget c.in_ok-watched.watched)
    (c.in_ok-choices.ensures ∙ ap (λ ds. InTurn (values_of ds)) drawn) c.in_ok-watched.ensures
