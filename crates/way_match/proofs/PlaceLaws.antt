-- Numbers of segments by place, with one more.
use Rattle.std.proofs.Common.{◌≡◌, ℕ, ◌<◌, Bool, true, false, cond, nat_eq, nat_lt, ◌&&◌, ◌||◌, List, [], ◌∷◌, ◌++◌, Option, Some, None, refl, sym, ◌∙◌, ap, arith}
use Rattle.std.proofs.lemmas.List.{append-nil}
use Rattle.std.proofs.lemmas.Bool.{eqb-true, ltb-true, and_parts as both, or_parts as or_each}
use Rattle.std.specs.Ordering.{is_eq, nat_cmp, ordering_then}
use Rattle.std.specs.declared.cmp.Ordering.{Ordering}
use Rattle.std.specs.declared.cmp.Ordering.TheVariants.{Less, Equal, Greater}
use Rattle.std.specs.BTreeMap.{BTreeMap, get, is_at}
use Rattle.std.specs.declared.vec.Vec.{Vec}
use Rattle.std.specs.declared.alloc.Global.{Global}
use Rattle.c_core.specs.declared.number.Spot.{Spot}
use Rattle.c_core.specs.Parts.{same_spot}
use Rattle.way_match.specs.inside.ByPlace.{spot_cmp, items_if, is_marked, IsClear, same_place, numbers_in}
use Rattle.way_match.specs.declared.by_place.ByPlace.{ByPlace}

equal_numbers : (x y : ℕ) → is_eq (nat_cmp x y) ≡ nat_eq x y
equal_numbers x y = by_less (nat_lt x y) refl
  where
    by_equal : (b : Bool) → is_eq (cond b Equal Greater) ≡ b
    by_equal true = refl
    by_equal false = refl

    apart : (b : Bool) → nat_eq x y ≡ b → x < y → false ≡ b
    apart true e h = let same : x ≡ y = eqb-true x y e in absurd (omega (arith, same))
    apart false e h = refl

    by_less : (b : Bool) → nat_lt x y ≡ b → is_eq (cond b Less (cond (nat_eq x y) Equal Greater)) ≡ nat_eq x y
    by_less true e = apart (nat_eq x y) refl (ltb-true x y e)
    by_less false e = by_equal (nat_eq x y)

equal_parts : (a b : Ordering) → is_eq (ordering_then a b) ≡ (is_eq a && is_eq b)
equal_parts Less b = refl
equal_parts Equal b = refl
equal_parts Greater b = refl

pub equal_places : (a b : Spot) → is_eq (spot_cmp (a.line, a.column) (b.line, b.column)) ≡ same_spot a b
equal_places a b =
    equal_parts (nat_cmp a.line b.line) (nat_cmp a.column b.column) ∙
    ap (λ (x : Bool). x && is_eq (nat_cmp a.column b.column)) (equal_numbers a.line b.line) ∙
    ap (λ (x : Bool). nat_eq a.line b.line && x) (equal_numbers a.column b.column)

pub same_spots : (a b : Spot) → same_spot a b ≡ true → a ≡ b
same_spots a b e =
    let p = both _ _ e in
    let l : a.line ≡ b.line = eqb-true a.line b.line p.0 in
    let c : a.column ≡ b.column = eqb-true a.column b.column p.1 in
    ap (λ (k : ℕ). record { line = k; column = a.column }) l ∙ ap (λ (k : ℕ). record { line = b.line; column = k }) c

-- the numbers of a place with one more behind, those of other places as they were
pub added : (old between new : BTreeMap (ℕ × ℕ) (Vec ℕ Global)) (targets : Vec ℕ Global) (lines more : Vec Bool Global) (spot : Spot) (k : ℕ) (before : List ℕ) (numbers : Vec ℕ Global) (at : Option Spot) →
    before ≡ items_if (get spot_cmp old (spot.line, spot.column)) → numbers.items ≡ before ++ k ∷ [] →
    ((q : ℕ × ℕ) → get spot_cmp between q ≡ cond (is_at (spot_cmp (spot.line, spot.column)) q) None (get spot_cmp old q)) →
    ((q : ℕ × ℕ) → get spot_cmp new q ≡ cond (is_at (spot_cmp (spot.line, spot.column)) q) (Some numbers) (get spot_cmp between q)) →
    numbers_in (record { placed = new; targets = targets; lines = more }) at ≡ numbers_in (record { placed = old; targets = targets; lines = lines }) at ++ cond (same_place (Some spot) at) (k ∷ []) []
added old between new targets lines more spot k before numbers None b i u v = sym (append-nil targets.items)
added old between new targets lines more spot k before numbers (Some q) b i u v = by_same (same_spot spot q) refl
  where
    place : ℕ × ℕ
    place = (q.line, q.column)

    here : is_at (spot_cmp (spot.line, spot.column)) place ≡ same_spot spot q
    here = equal_places spot q

    by_same : (s : Bool) → same_spot spot q ≡ s → items_if (get spot_cmp new place) ≡ items_if (get spot_cmp old place) ++ cond s (k ∷ []) []
    by_same true e =
        let there : get spot_cmp new place ≡ Some numbers = v place ∙ ap (λ (x : Bool). cond x (Some numbers) (get spot_cmp between place)) (here ∙ e) in
        let one : spot ≡ q = same_spots spot q e in
        let was : before ≡ items_if (get spot_cmp old place) = b ∙ ap (λ (x : Spot). items_if (get spot_cmp old (x.line, x.column))) one in
        ap items_if there ∙ i ∙ ap (λ (xs : List ℕ). xs ++ k ∷ []) was
    by_same false e =
        let there : get spot_cmp new place ≡ get spot_cmp old place =
        v place ∙ ap (λ (x : Bool). cond x (Some numbers) (get spot_cmp between place)) (here ∙ e) ∙
        u place ∙ ap (λ (x : Bool). cond x None (get spot_cmp old place)) (here ∙ e) in
        ap items_if there ∙ sym (append-nil (items_if (get spot_cmp old place)))

-- with one more line marked, that of the place
pub clear_added : (old new : ByPlace) (spot : Spot) (k : ℕ) → IsClear old →
    ((line : ℕ) → is_marked new.lines.items line ≡ (nat_eq spot.line line || is_marked old.lines.items line)) →
    ((at : Option Spot) → numbers_in new at ≡ numbers_in old at ++ cond (same_place (Some spot) at) (k ∷ []) []) → IsClear new
clear_added old new spot k h m u q f =
    let o = or_each _ _ (sym (m q.line) ∙ f) in
    let away : same_spot spot q ≡ false = ap (λ (x : Bool). x && nat_eq spot.column q.column) o.0 in
    u (Some q) ∙ ap (λ (x : Bool). numbers_in old (Some q) ++ cond x (k ∷ []) []) away ∙ append-nil (numbers_in old (Some q)) ∙ h q o.1
