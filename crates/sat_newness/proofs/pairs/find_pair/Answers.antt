use Rattle.std.proofs.Common.{◌≡◌, ℕ, ◌≤◌, sym, ◌∙◌, ap, refl, subst, arith, Some, pos, w32, FitsSigned}
use Rattle.std.specs.Prelude.{slice_get, slice_index_or}
use Rattle.std.proofs.lemmas.Int.{to_z-of_z, fits_signed_from_abs}
use Rattle.std.proofs.lemmas.List.Elements.{All-contains}
use Rattle.clauses.specs.Clause.{IsNumber}
use Rattle.sat_newness.specs.Weights.{code}
use Rattle.sat_newness.specs.Pairs.{HoldsAt}
use Rattle.sat_newness.proofs.Lists.{contains_at, item_at}
use Rattle.sat_newness.proofs.Settled.{found_two, found_one}
use Rattle.sat_newness.proofs.pairs.find_pair.Goals as goal

pub returns-then-settles : goal.returns-then-settles
returns-then-settles c =
    let items = c.numbers-number-items.result.now in
    let n = c.loop-number.number-index in
    let same : items ≡ c.args.clause.now = c.numbers-number-items.ensures.same in
    let y = slice_index_or items n (pos 0) in
    let at : slice_get c.args.clause.now n ≡ Some y = item_at c.args.clause.now items n same (omega arith) in
    let real : IsNumber y = All-contains IsNumber c.args.clause.now y c.numbers-number-items.ensures.fine.real (contains_at c.args.clause.now n y at) in
    let f : FitsSigned w32 y = fits_signed_from_abs w32 y real.1 in
    let is : code y ≡ c.code-other.result = sym (c.code-other.ensures ∙ ap code (to_z-of_z w32 y f)) in
    let other : HoldsAt c.args.clause.now c.code-other.result = record { number = y; held = contains_at c.args.clause.now n y at; is = is } in
    found_two c.args.table.now c.args.clause.now _ (c.loop-number.invariant c.in-Some.one c.in-Some.is) other (c.settles.ensures c.if-settles.true)

pub returns-then-at-ge2 : goal.returns-then-at-ge2
returns-then-at-ge2 c = found_one c.args.table.now c.args.clause.now _ (c.loop-number.invariant c.in-Some-open.one c.in-Some-open.is) refl (subst (λ (n : ℕ). 2 ≤ n) c.at-2.ensures c.if-at-ge2.true)
