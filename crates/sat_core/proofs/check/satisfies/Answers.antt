use Rattle.std.proofs.Common.{◌≡◌, subst, arith, pos, w32, FitsSigned, true, ℤ}
use Rattle.std.specs.Prelude.{slice_get, slice_index_or, Some}
use Rattle.std.proofs.lemmas.Int.{to_z-of_z, fits_signed_from_abs}
use Rattle.std.proofs.lemmas.List.Elements.{All-contains}
use Rattle.clauses.specs.Clause.{IsNumber}
use Rattle.clauses.specs.Assignment.{number_holds}
use Rattle.sat_core.specs.Answers.{value_at}
use Rattle.sat_newness.proofs.Lists.{contains_at, item_at}
use Rattle.sat_core.proofs.Models.{clause_true}
use Rattle.sat_core.proofs.check.satisfies.Goals as goal

pub returns-then-is_true : goal.returns-then-is_true
returns-then-is_true c = λ _.
    let items = c.numbers-number-items.result.now in
    let n = c.loop-number.number-index in
    let same : items ≡ c.args.clause.now = c.numbers-number-items.ensures.same in
    let y = slice_index_or items n (pos 0) in
    let at : slice_get c.args.clause.now n ≡ Some y = item_at c.args.clause.now items n same (omega arith) in
    let real : IsNumber y = All-contains IsNumber c.args.clause.now y c.numbers-number-items.ensures.fine.real (contains_at c.args.clause.now n y at) in
    let f : FitsSigned w32 y = fits_signed_from_abs w32 y real.1 in
    clause_true (value_at c.args.values.now) c.args.clause.now y (contains_at c.args.clause.now n y at)
    (subst (λ (z : ℤ). number_holds (value_at c.args.values.now) z ≡ true) (to_z-of_z w32 y f) (c.is_true.ensures c.if-is_true.true))
