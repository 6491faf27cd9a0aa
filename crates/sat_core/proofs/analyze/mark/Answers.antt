use Rattle.std.proofs.Common.{◌≡◌, ℕ, ◌<◌, ◌+◌, sym, ◌∙◌, ap, subst, true, arith, length, Some, [], pos, w32}
use Rattle.std.specs.Prelude.{slice_get, slice_set, slice_index_or, unsigned_abs}
use Rattle.std.proofs.lemmas.Int.{to_z-of_z, fits_signed_from_abs}
use Rattle.sat_core.specs.Derived.{AreMarkedUpTo}
use Rattle.sat_newness.proofs.Lists.{contains_at, cons_here, item_at}
use Rattle.sat_core.proofs.Flags.{marked_more, marked_all}
use Rattle.sat_core.proofs.analyze.mark.Goals as goal

pub bounds-seen-unsigned_abs : goal.bounds-seen-unsigned_abs
bounds-seen-unsigned_abs c =
    let items = c.numbers-number-items.result.now in
    let n = c.loop-number.number-index in
    let same : items ≡ c.args.clause.now = c.numbers-number-items.ensures.same in
    let y = slice_index_or items n (pos 0) in
    let o = c.requires.each c.args.clause.now y (cons_here c.args.clause.now []) (contains_at _ n y (item_at c.args.clause.now items n same (c.loop-number-test.true))) in
    let is : c.unsigned_abs.result ≡ unsigned_abs y = c.unsigned_abs.ensures.value ∙ ap unsigned_abs (to_z-of_z w32 y (fits_signed_from_abs w32 y o.small)) in
    let lt : unsigned_abs y < length c.args.seen.now = o.within in
    let long : length c.loop-number.seen ≡ length c.args.seen.now = c.loop-number.auto.seen in
    omega arith

pub loop-number-preserved : goal.loop-number-preserved
loop-number-preserved c =
    let items = c.numbers-number-items.result.now in
    let n = c.loop-number.number-index in
    let same : items ≡ c.args.clause.now = c.numbers-number-items.ensures.same in
    let y = slice_index_or items n (pos 0) in
    let at : slice_get c.args.clause.now n ≡ Some y = item_at c.args.clause.now items n same (c.loop-number-test.true) in
    let o = c.requires.each c.args.clause.now y (cons_here c.args.clause.now []) (contains_at _ n y at) in
    let is : c.unsigned_abs.result ≡ unsigned_abs y = c.unsigned_abs.ensures.value ∙ ap unsigned_abs (to_z-of_z w32 y (fits_signed_from_abs w32 y o.small)) in
    let lt : unsigned_abs y < length c.args.seen.now = o.within in
    let long : length c.loop-number.seen ≡ length c.args.seen.now = c.loop-number.auto.seen in
    subst (λ (v : ℕ). AreMarkedUpTo c.args.seen.now c.args.clause.now (n + 1) (slice_set c.loop-number.seen v true)) (sym is)
    (marked_more c.args.seen.now c.args.clause.now n c.loop-number.seen y at (omega arith) c.loop-number.invariant)

pub returns : goal.returns
returns c =
    let same : c.numbers-number-items.result.now ≡ c.args.clause.now = c.numbers-number-items.ensures.same in
    marked_all c.args.seen.now c.args.clause.now c.loop-number.number-index c.loop-number.seen (omega (arith, ap length same, c.loop-number-test.false)) c.loop-number.invariant
