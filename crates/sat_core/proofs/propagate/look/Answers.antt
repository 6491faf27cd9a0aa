use Rattle.std.proofs.Common.{◌≡◌, ◌<◌, ◌+◌, sym, ◌∙◌, ap, subst, arith, inr, length, Option, Some, [], ℤ, pos, w32, FitsSigned}
use Rattle.std.specs.Prelude.{slice_get, slice_index_or, unsigned_abs}
use Rattle.std.proofs.lemmas.Int.{to_z-of_z, fits_signed_from_abs}
use Rattle.sat_core.specs.Found.{IsUnit, AreSeen}
use Rattle.sat_newness.proofs.Lists.{contains_at, cons_here, item_at}
use Rattle.sat_core.proofs.Seen.{seen_false, seen_open, seen_two, seen_all, seen_unit}
use Rattle.sat_core.proofs.Scans.{false_of_value, open_of_value}
use Rattle.sat_core.proofs.propagate.look.Goals as goal
use Rattle.sat_core.proofs.propagate.look.Goals.{in-Some-false, in-None+in-None-open}

pub value-requires-clause-within : goal.value-requires-clause-within
value-requires-clause-within c =
    let items = c.numbers-number-items.result.now in
    let n = c.loop-number.number-index in
    let same : items ≡ c.args.clause.now = c.numbers-number-items.ensures.same in
    let y = slice_index_or items n (pos 0) in
    let f : FitsSigned w32 y = fits_signed_from_abs w32 y (c.requires.numbers.each c.args.clause.now y (cons_here c.args.clause.now []) (contains_at _ n y (item_at c.args.clause.now items n same (omega arith)))).small in
    subst (λ (z : ℤ). unsigned_abs z < length c.args.trail.now.values.items) (sym (to_z-of_z w32 y f))
    (c.requires.numbers.each c.args.clause.now y (cons_here c.args.clause.now []) (contains_at _ n y (item_at c.args.clause.now items n same (omega arith)))).within

pub returns-in-Some : goal.returns-in-Some
returns-in-Some c =
    let t = c.args.trail.now.entries.items in
    let items = c.numbers-number-items.result.now in
    let n = c.loop-number.number-index in
    let same : items ≡ c.args.clause.now = c.numbers-number-items.ensures.same in
    let y = slice_index_or items n (pos 0) in
    let f : FitsSigned w32 y = fits_signed_from_abs w32 y (c.requires.numbers.each c.args.clause.now y (cons_here c.args.clause.now []) (contains_at _ n y (item_at c.args.clause.now items n same (c.loop-number-test.true)))).small in
    inr (seen_two t c.args.clause.now n _ y c.numbers-number-items.ensures.fine.rising (item_at c.args.clause.now items n same (c.loop-number-test.true))
    (open_of_value t _ y c.value.result c.value.ensures c.in-None.is (to_z-of_z w32 y f))
    (subst (λ (o : Option ℤ). AreSeen t c.args.clause.now n o) c.in-Some.is c.loop-number.invariant))

pub loop-number-preserved : goal.loop-number-preserved
loop-number-preserved c =
    let t = c.args.trail.now.entries.items in
    let items = c.numbers-number-items.result.now in
    let n = c.loop-number.number-index in
    let same : items ≡ c.args.clause.now = c.numbers-number-items.ensures.same in
    let y = slice_index_or items n (pos 0) in
    let f : FitsSigned w32 y = fits_signed_from_abs w32 y (c.requires.numbers.each c.args.clause.now y (cons_here c.args.clause.now []) (contains_at _ n y (item_at c.args.clause.now items n same (omega arith)))).small in
    let at : slice_get c.args.clause.now n ≡ Some y = item_at c.args.clause.now items n same (omega arith) in
    elim c.match-value.branch [
      | in-Some-false w ↦ subst (λ (o : Option ℤ). AreSeen t c.args.clause.now (n + 1) o) (sym w.open-is) (seen_false t c.args.clause.now n c.loop-number.open y at (false_of_value t _ y c.value.result c.value.ensures (w.in-Some-false.is ∙ ap Some w.in-Some-false.field-0-test) (to_z-of_z w32 y f)) c.loop-number.invariant)
      | in-None+in-None-open w ↦ subst (λ (o : Option ℤ). AreSeen t c.args.clause.now (n + 1) o) (sym (w.open-is ∙ ap Some (to_z-of_z w32 y f))) (seen_open t c.args.clause.now n y at (open_of_value t _ y c.value.result c.value.ensures w.in-None.is (to_z-of_z w32 y f)) (subst (λ (o : Option ℤ). AreSeen t c.args.clause.now n o) w.in-None-open.is c.loop-number.invariant))
    ]

pub returns-in-None-open-2 : goal.returns-in-None-open-2
returns-in-None-open-2 c =
    let same : c.numbers-number-items.result.now ≡ c.args.clause.now = c.numbers-number-items.ensures.same in
    seen_all c.args.trail.now.entries.items c.args.clause.now c.loop-number.number-index (omega (arith, ap length same)) (subst (λ (o : Option ℤ). AreSeen c.args.trail.now.entries.items c.args.clause.now c.loop-number.number-index o) c.in-None-open-2.is c.loop-number.invariant)

pub returns-in-Some-open : goal.returns-in-Some-open
returns-in-Some-open c =
    let same : c.numbers-number-items.result.now ≡ c.args.clause.now = c.numbers-number-items.ensures.same in
    let u : IsUnit c.args.trail.now.entries.items c.args.clause.now c.in-Some-open.number = seen_unit c.args.trail.now.entries.items c.args.clause.now c.loop-number.number-index c.in-Some-open.number (omega (arith, ap length same)) (subst (λ (o : Option ℤ). AreSeen c.args.trail.now.entries.items c.args.clause.now c.loop-number.number-index o) c.in-Some-open.is c.loop-number.invariant) in
    subst (λ (z : ℤ). IsUnit c.args.trail.now.entries.items c.args.clause.now z) (sym (to_z-of_z w32 c.in-Some-open.number (fits_signed_from_abs w32 c.in-Some-open.number (c.requires.numbers.each c.args.clause.now c.in-Some-open.number (cons_here c.args.clause.now []) u.held).small))) u
