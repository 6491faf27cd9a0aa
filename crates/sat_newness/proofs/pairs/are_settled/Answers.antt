use Rattle.std.proofs.Common.{◌<◌, sym, subst, arith, length, List}
use Rattle.std.proofs.lemmas.Option.{slice_get-get_or}
use Rattle.sat_newness.specs.declared.pairs.Pair.{Pair}
use Rattle.sat_newness.specs.Clauses.{clauses_of}
use Rattle.sat_newness.specs.Pairs.{ArePairs}
use Rattle.sat_newness.proofs.Settled.{pairs_set, settled_next, settled_kept}
use Rattle.sat_newness.proofs.pairs.are_settled.Goals as goal
use Rattle.sat_newness.proofs.pairs.are_settled.Goals.{then-not-settles+in-Some, else-not-settles}

pub loop-place-preserved : goal.loop-place-preserved
loop-place-preserved c =
    let F = clauses_of c.args.given.now c.args.chains.now in
    let n = c.loop-place.place in
    let h = c.loop-place.invariant in
    let lt : n < length c.loop-place.pairs = omega arith in
    elim c.if-not-settles.branch [
      | then-not-settles+in-Some w ↦ record {
        held = subst (λ (ps : List Pair). ArePairs F ps) (sym w.pairs-is) (pairs_set F c.loop-place.pairs n w.clause_at.result.now w.in-Some.pair lt w.clause_at.ensures w.in-Some.ensures.held h.held);
        settled = settled_next c.args.table.now F n w.clause_at.result.now w.clause_at.ensures w.in-Some.ensures.settled h.settled;
      }
      | else-not-settles w ↦ record {
        held = subst (λ (ps : List Pair). ArePairs F ps) (sym w.pairs-is) h.held;
        settled = settled_kept c.args.table.now F c.loop-place.pairs n _ (slice_get-get_or c.loop-place.pairs n _ lt) (c.settles.ensures w.if-not-settles.false) h.held h.settled;
      }
    ]
