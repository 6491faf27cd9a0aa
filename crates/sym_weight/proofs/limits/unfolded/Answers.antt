use Rattle.std.proofs.Common.{ap, ◌∙◌}
use Rattle.sym_weight.specs.Tally.{tallies_view}
use Rattle.sym_weight.specs.Totals.{total_at, totals_after}
use Rattle.sym_weight.proofs.limits.unfolded.Goals as goal

pub returns : goal.returns
returns c =
    c.total_at.ensures
    ∙ ap (λ x. total_at x c.args.main)
    (c.as_slice.ensures.value ∙ c.in_ok-all.ensures ∙ ap (totals_after (tallies_view c.args.tallies.now)) c.depth-rounds.ensures)
