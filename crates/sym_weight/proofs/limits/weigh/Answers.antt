use Rattle.std.proofs.Common.{◌≡◌, suc, min, true, false, None, length, subst, ap, sym, ◌∙◌}
use Rattle.c_core.specs.View.{program_view}
use Rattle.c_core.specs.TreeView.{functions_view}
use Rattle.sym_weight.specs.Reached.{is_wanted}
use Rattle.sym_weight.specs.Tally.{AreTallied, all_tallies, capped, placed_by, tallies_of, tallies_view}
use Rattle.c_meaning.specs.Placing.{placed_view}
use Rattle.sym_weight.specs.Totals.{total_at, totals_after}
use Rattle.sym_weight.specs.Weight.{placed_weight}
use Rattle.sym_weight.specs.Weighed.{Weighs, judged}
use Rattle.sym_weight.proofs.Deciding.{decided, depth, maps_are_weights}
use Rattle.sym_weight.proofs.Reaching.{all_weaker, below_after, still_too_big}
use Rattle.sym_weight.proofs.Rounds.{after_rounds}
use Rattle.sym_weight.proofs.Viewed.{functions_counted}
use Rattle.sym_weight.proofs.limits.weigh.Goals as goal

pub returns-then-big : goal.returns-then-big
returns-then-big c =
    let p = program_view c.args.program.now in
    let I = placed_view c.args.invariants.now in
    let main = c.args.program.now.main in
    let loops = c.in_ok-at_loops.at_loops in
    let statements = c.in_ok-at_statements.at_statements in
    let whole = all_tallies p (placed_by loops statements) in
    let light = tallies_view c.in_ok-light.light.items in
    let q = is_wanted c.as_slice.result.now in
    let told = subst (λ fs. AreTallied q light (tallies_of p (placed_by loops statements) (functions_view fs))) c.as_slice-functions.ensures c.in_ok-light.ensures.tallied in
    let counted = c.in_ok-light.ensures.count ∙ ap length c.as_slice-functions.ensures ∙ sym (functions_counted c.args.program.now.functions) in
    let too_big : judged (total_at (totals_after light (depth p)) main) ≡ None =
    sym (ap (λ n. judged (total_at (totals_after light (min (suc n) 33)) main)) counted)
    ∙ sym (ap (λ xs. judged (total_at (totals_after (tallies_view xs) (min (suc (length xs)) 33)) main)) c.as_slice-2.ensures.value)
    ∙ c.in_ok-big.ensures c.if-big.true in
    subst (Weighs p I) (still_too_big (total_at (totals_after light (depth p)) main) (total_at (totals_after whole (depth p)) main) (below_after q light whole told (depth p) main) too_big)
    (decided p I (total_at (totals_after whole (depth p)) main)
    (after_rounds p I (placed_by loops statements)
    (maps_are_weights p I loops statements
    (λ q. c.in_ok-at_loops.ensures q ∙ ap (λ xs. capped (placed_weight p (placed_view xs) true q)) c.as_slice-listed.ensures)
    (λ q. c.in_ok-at_statements.ensures q ∙ ap (λ xs. capped (placed_weight p (placed_view xs) false q)) c.as_slice-listed.ensures))
    (depth p) main))

pub whole-requires : goal.whole-requires
whole-requires c =
    let p = program_view c.args.program.now in
    let P = placed_by c.in_ok-at_loops.at_loops c.in_ok-at_statements.at_statements in
    let light = tallies_view c.in_ok-light.light.items in
    let q = is_wanted c.as_slice.result.now in
    let told = subst (λ fs. AreTallied q light (tallies_of p P (functions_view fs))) c.as_slice-functions.ensures c.in_ok-light.ensures.tallied in
    subst (λ xs. AreTallied (λ f. false) (tallies_view xs) (all_tallies p P)) (sym c.as_slice-3.ensures.value) (all_weaker q light (all_tallies p P) told)

pub returns : goal.returns
returns c =
    let p = program_view c.args.program.now in
    let I = placed_view c.args.invariants.now in
    let loops = c.in_ok-at_loops.at_loops in
    let statements = c.in_ok-at_statements.at_statements in
    subst (Weighs p I) (sym c.judged.ensures)
    (decided p I c.in_ok-total.total
    (c.in_ok-total.ensures
    ∙ after_rounds p I (placed_by loops statements)
    (maps_are_weights p I loops statements
    (λ q. c.in_ok-at_loops.ensures q ∙ ap (λ xs. capped (placed_weight p (placed_view xs) true q)) c.as_slice-listed.ensures)
    (λ q. c.in_ok-at_statements.ensures q ∙ ap (λ xs. capped (placed_weight p (placed_view xs) false q)) c.as_slice-listed.ensures))
    (depth p) p.main))
