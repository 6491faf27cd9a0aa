use Rattle.std.proofs.Common.{suc, min, length, ap, sym, ◌∙◌, subst}
use Rattle.c_core.specs.TreeView.{functions_view}
use Rattle.c_core.specs.View.{program_view}
use Rattle.sym_weight.specs.Reached.{is_wanted}
use Rattle.sym_weight.specs.Tally.{AreTallied, all_tallies, placed_of, tallies_of, tallies_view}
use Rattle.sym_weight.specs.Totals.{total_at, totals_after}
use Rattle.sym_weight.proofs.Reaching.{main_same}
use Rattle.sym_weight.proofs.Viewed.{functions_counted}
use Rattle.sym_weight.proofs.limits.whole.Goals as goal

pub returns : goal.returns
returns c =
    let w = c.args.weigher in
    let p = program_view w.program.now in
    let main = w.program.now.main in
    let marks = c.in_ok-marks.marks.items in
    let got = tallies_view c.in_ok-all.all.items in
    let tallied =
    subst (λ fs. AreTallied (is_wanted marks) got (tallies_of p (placed_of w) (functions_view fs))) c.as_slice-functions.ensures
    (subst (λ m. AreTallied (is_wanted m) got (tallies_of p (placed_of w) (functions_view c.as_slice-functions.result.now))) c.as_slice.ensures.value c.in_ok-all.ensures.tallied) in
    c.in_ok-total.ensures
    ∙ ap (λ xs. total_at (totals_after (tallies_view xs) (min (suc (length xs)) 33)) main) c.as_slice-2.ensures.value
    ∙ ap (λ n. total_at (totals_after got (min (suc n) 33)) main) (c.in_ok-all.ensures.count ∙ ap length c.as_slice-functions.ensures ∙ sym (functions_counted w.program.now.functions))
    ∙ main_same marks main (tallies_view c.args.tallies.now) got (all_tallies p (placed_of w)) c.requires c.in_ok-marks.ensures tallied (min (suc (length p.functions)) 33)
