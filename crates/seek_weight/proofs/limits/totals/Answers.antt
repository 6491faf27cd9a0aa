use Rattle.std.proofs.Common.{map, ap, ◌∙◌}
use Rattle.c_core.specs.TreeView.{functions_view}
use Rattle.seek_weight.specs.inside.Weighing.{comes_to}
use Rattle.seek_weight.proofs.Rounds.{are_totals}
use Rattle.seek_weight.proofs.limits.totals.Goals as goal

pub returns : goal.returns
returns c =
    are_totals c.args.walk c.in_ok-all.all.items
    (c.in_ok-all.ensures ∙ ap (λ fs. map (comes_to c.args.walk) (functions_view fs)) c.as_slice-functions.ensures)
