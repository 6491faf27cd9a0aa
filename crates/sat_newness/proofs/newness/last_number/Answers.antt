use Rattle.std.proofs.Common.{◌≡◌, ℕ, ◌+◌, ◌≤◌, ◌<◌, sym, ◌∙◌, ap, subst, arith, length, Option, Some, None, ℤ, pos, neg_ℤ, w32, FitsSigned}
use Rattle.std.specs.Prelude.{slice_get, slice_index, slice_index_or}
use Rattle.std.proofs.lemmas.Int.{to_z-of_z, fits_signed_from_abs}
use Rattle.std.proofs.lemmas.List.Elements.{All-contains}
use Rattle.clauses.specs.Clause.{IsNumber}
use Rattle.sat_newness.specs.Weights.{code, weight, Makes}
use Rattle.sat_newness.proofs.Lists.{contains_at, item_at}
use Rattle.sat_newness.proofs.Left.{AreLeft, left_none, left_false, left_last, left_result}
use Rattle.sat_newness.proofs.newness.last_number.Goals as goal
use Rattle.sat_newness.proofs.newness.last_number.Goals.{then-at-lt2+in-None+else-at-ge2, else-at-lt2}

pub loop-number-init : goal.loop-number-init
loop-number-init c = left_none _ _

pub loop-number-preserved : goal.loop-number-preserved
loop-number-preserved c =
    let table = c.args.table.now in
    let items = c.numbers-number-items.result.now in
    let n = c.loop-number.number-index in
    let same : items ≡ c.args.clause.now = c.numbers-number-items.ensures.same in
    let y = slice_index_or items n (pos 0) in
    let at : slice_get c.args.clause.now n ≡ Some y = item_at c.args.clause.now items n same c.loop-number-test.true in
    let real : IsNumber y = All-contains IsNumber c.args.clause.now y c.numbers-number-items.ensures.fine.real (contains_at c.args.clause.now n y at) in
    let f : FitsSigned w32 y = fits_signed_from_abs w32 y real.1 in
    elim c.if-at-lt2.branch [
      | then-at-lt2+in-None+else-at-ge2 w ↦
          let weighs : w.at-then-at-lt2.result ≡ weight table y = w.at-then-at-lt2.ensures ∙ ap (slice_index table) (w.code.ensures ∙ ap code (to_z-of_z w32 y f)) in
          let before : AreLeft table c.args.clause.now n None = subst (λ (o : Option ℤ). AreLeft table c.args.clause.now n o) w.in-None.is c.loop-number.invariant in
          subst (λ (o : Option ℤ). AreLeft table c.args.clause.now (n + 1) o) (sym (w.last-is ∙ ap Some (to_z-of_z w32 y f))) (left_last table c.args.clause.now n y at (subst (λ (k : ℕ). k < 2) weighs w.if-at-ge2.false) before)
      | else-at-lt2 w ↦
          let weighs : c.at.result ≡ weight table (neg_ℤ y) = c.at.ensures ∙ ap (slice_index table) (c.opposite_code.ensures ∙ ap (λ (z : ℤ). code (neg_ℤ z)) (to_z-of_z w32 y f)) in
          let opposite : Makes table (neg_ℤ y) = record { enough = subst (λ (k : ℕ). 2 ≤ k) weighs w.if-at-lt2.false } in
          subst (λ (o : Option ℤ). AreLeft table c.args.clause.now (n + 1) o) (sym w.last-is) (left_false table c.args.clause.now n y c.loop-number.last at opposite c.loop-number.invariant)
    ]

pub returns : goal.returns
returns c =
    let same : c.numbers-number-items.result.now ≡ c.args.clause.now = c.numbers-number-items.ensures.same in
    left_result c.args.table.now c.args.clause.now c.loop-number.number-index c.loop-number.last (omega (arith, ap length same)) c.loop-number.invariant
