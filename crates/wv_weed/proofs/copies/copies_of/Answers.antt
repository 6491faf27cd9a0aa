use Rattle.std.proofs.Common.{rules, arith, refl, ap, subst, ◌≡◌, ◌∙◌, ℕ, List, length, get_or, ◌<◌, ◌≤◌, ◌++◌, [], ◌∷◌, ◌-◌, Some}
use Rattle.std.specs.Prelude.{slice_get}
use Rattle.std.proofs.lemmas.Option.{slice_get_read}
use Rattle.c_meaning.specs.declared.run.PlacedInvariant.{PlacedInvariant}
use Rattle.wv_weed.proofs.Copied.{one_more_copy, all_copied}
use Rattle.wv_weed.proofs.Picked.{within_at}
use Rattle.wv_weed.proofs.copies.copies_of.Goals as goal

pub overflow_sub-number : goal.overflow_sub-number
overflow_sub-number c =
    let ns = c.args.numbers.now in
    let i = c.loop-number.number-index in
    let same : c.as_slice-number-items.result.now ≡ ns = search rules in
    let lt : i < length ns = subst (λ (xs : List ℕ). i < length xs) same c.loop-number-test.true in
    let w = within_at (length c.args.invariants.now) ns i (get_or c.as_slice-number-items.result.now i 0) c.requires lt
    (ap (λ (xs : List ℕ). get_or xs i 0) same) in
    omega (arith, w.0)

pub bounds-all-number : goal.bounds-all-number
bounds-all-number c =
    let ns = c.args.numbers.now in
    let i = c.loop-number.number-index in
    let same : c.as_slice-number-items.result.now ≡ ns = search rules in
    let all : c.as_slice-all.result.now ≡ c.args.invariants.now = search rules in
    let lt : i < length ns = subst (λ (xs : List ℕ). i < length xs) same c.loop-number-test.true in
    let w = within_at (length c.args.invariants.now) ns i (get_or c.as_slice-number-items.result.now i 0) c.requires lt
    (ap (λ (xs : List ℕ). get_or xs i 0) same) in
    let long : length c.as_slice-all.result.now ≡ length c.args.invariants.now = ap length all in
    omega (arith, w.0, w.1, long)

pub loop-number-preserved : goal.loop-number-preserved
loop-number-preserved c =
    let ns = c.args.numbers.now in
    let I = c.args.invariants.now in
    let i = c.loop-number.number-index in
    let items = c.as_slice-number-items.result.now in
    let n = get_or items i 0 in
    let x = c.index-all-number.result in
    let same : items ≡ ns = search rules in
    let all : c.as_slice-all.result.now ≡ I = search rules in
    let lt : i < length ns = subst (λ (xs : List ℕ). i < length xs) same c.loop-number-test.true in
    let item : n ≡ get_or ns i 0 = ap (λ (xs : List ℕ). get_or xs i 0) same in
    let w = within_at (length I) ns i n c.requires lt item in
    let here : x ≡ get_or I (n - 1) x =
    c.index-all-number.is ∙ ap (λ (xs : List PlacedInvariant). get_or xs (n - 1) x) all in
    let inside : n - 1 < length I = omega (arith, w.0, w.1) in
    let at : slice_get I (n - 1) ≡ Some x = slice_get_read I (length I) (n - 1) x refl inside here in
    let pushed : c.push.new.self ≡ c.loop-number.copies ++ c.in_ok-copy.copy ∷ [] = search rules in
    one_more_copy ns I c.loop-number.copies c.push.new.self i n x c.in_ok-copy.copy c.requires lt item at
    c.in_ok-copy.ensures pushed c.loop-number.invariant

pub returns : goal.returns
returns c =
    let ns = c.args.numbers.now in
    let i = c.loop-number.number-index in
    let same : c.as_slice-number-items.result.now ≡ ns = search rules in
    let le : length ns ≤ i = subst (λ (xs : List ℕ). length xs ≤ i) same c.loop-number-test.false in
    all_copied ns c.args.invariants.now c.loop-number.copies i le c.loop-number.invariant
