use Rattle.std.proofs.Common.{◌≡◌, ℕ, ◌<◌, ◌≤◌, ◌-◌, sym, ◌∙◌, ap, subst, arith, length, Some, pos, w32, FitsSigned}
use Rattle.std.specs.Prelude.{slice_get, slice_index_or, unsigned_abs}
use Rattle.std.proofs.lemmas.Int.{to_z-of_z, fits_signed_from_abs}
use Rattle.sat_newness.proofs.Lists.{contains_at, item_at}
use Rattle.sat_core.proofs.Flags.{two_of}
use Rattle.sat_core.proofs.analyze.last_but_one.Goals as goal

pub returns-else-count-lt2 : goal.returns-else-count-lt2
returns-else-count-lt2 c = λ _.
    let xs = c.args.numbers.now in
    let items = c.as_slice.result.now in
    let same : items ≡ xs = c.as_slice.ensures in
    let long : c.len-count.result ≡ length xs = c.len-count.ensures in
    let two : 2 ≤ c.len-count.result = c.if-count-lt2.false in
    let i = c.len-count.result - 2 in
    let j = c.len-count.result - 1 in
    let x = slice_index_or items i (pos 0) in
    let y = slice_index_or items j (pos 0) in
    let many : length items ≡ length xs = ap length same in
    let at_i : slice_get xs i ≡ Some x = item_at xs items i same (omega arith) in
    let at_j : slice_get xs j ≡ Some y = item_at xs items j same (omega arith) in
    let p = c.requires.positive x (contains_at xs i x at_i) in
    let f : FitsSigned w32 x = fits_signed_from_abs w32 x (subst (λ (k : ℕ). k < 2147483648) (sym (ap unsigned_abs p.2)) p.1) in
    two_of xs i j x y c.unsigned_abs.result c.requires.rising c.requires.positive (omega arith) at_i at_j (c.unsigned_abs.ensures.value ∙ ap unsigned_abs (to_z-of_z w32 x f))
