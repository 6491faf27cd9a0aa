-- Static objects that are declared before a place are a front of all, since objects are numbered in the order of the text.
use Rattle.std.proofs.Common.{◌≡◌, ◌<◌, ◌≤◌, ℕ, zero, suc, refl, sym, ap, ◌∙◌, Bool, true, false, cond, ◌&&◌, List, [], ◌∷◌, length, take, get_or, arith}
use Rattle.std.specs.List.Sorted.{IsPartitionPoint, IsPartitionedBy}
use Rattle.std.proofs.lemmas.Bool.{false≢true}
use Rattle.c_core.specs.Tree.{Program}
use Rattle.c_core.specs.Program.{IsProgram}
use Rattle.c_core.specs.TextOrder.{is_before, is_before_first, rises, spots_of_objects}
use Rattle.c_core.specs.declared.number.Spot.{Spot}
use Rattle.c_core.specs.declared.tree.Object.{Object}
use Rattle.c_core.proofs.TextOrderLaws.{left, right, is_before-then}
use Rattle.way_names.specs.Scopes.{front_before, statics_from}
use Rattle.way_names.specs.Versions.{numbers_of}
use Rattle.way_names.specs.Visible.{fixed_before, fixed_from}

not_both : (b c : Bool) → c ≡ false → (b && c) ≡ false
not_both true c h = h
not_both false c h = refl

later_by : (b : Bool) (a o spot : Spot) → is_before o spot ≡ b → is_before a o ≡ true → is_before a spot ≡ false → is_before o spot ≡ false
later_by true a o spot e h late = absurd (false≢true (sym late ∙ is_before-then a o spot h e))
later_by false a o spot e h late = e

-- behind an object that isn't declared before a place none is
none_behind : (n : ℕ) (spot a : Spot) (os : List Object) → is_before_first a (spots_of_objects os) ≡ true → rises (spots_of_objects os) ≡ true → is_before a spot ≡ false → fixed_from n spot os ≡ []
none_behind n spot a [] first up late = refl
none_behind n spot a (o ∷ os) first up late =
    let later : is_before o.spot spot ≡ false = later_by (is_before o.spot spot) a o.spot spot refl first late in
    ap (λ b. cond b (n ∷ fixed_from (suc n) spot os) (fixed_from (suc n) spot os)) (not_both o.fixed (is_before o.spot spot) later)
    ∙ none_behind (suc n) spot o.spot os (left (is_before_first o.spot (spots_of_objects os)) (rises (spots_of_objects os)) up) (right (is_before_first o.spot (spots_of_objects os)) (rises (spots_of_objects os)) up) later

by_place : (b : Bool) (n : ℕ) (front rest : List ℕ) → front ≡ rest → (b ≡ false → rest ≡ []) → cond b (n ∷ front) [] ≡ cond b (n ∷ rest) rest
by_place true n front rest h none = ap (λ l. n ∷ l) h
by_place false n front rest h none = sym (none refl)

by_storage : (fixed : Bool) (n : ℕ) (spot : Spot) (o : Object) (os : List Object) → o.fixed ≡ fixed → front_before spot (statics_from (suc n) os) ≡ fixed_from (suc n) spot os
    → (is_before o.spot spot ≡ false → fixed_from (suc n) spot os ≡ []) → front_before spot (statics_from n (o ∷ os)) ≡ fixed_from n spot (o ∷ os)
by_storage true n spot o os e h none =
    ap (λ b. front_before spot (cond b ((o.spot, n) ∷ statics_from (suc n) os) (statics_from (suc n) os))) e
    ∙ by_place (is_before o.spot spot) n (front_before spot (statics_from (suc n) os)) (fixed_from (suc n) spot os) h none
    ∙ sym (ap (λ b. cond (b && is_before o.spot spot) (n ∷ fixed_from (suc n) spot os) (fixed_from (suc n) spot os)) e)
by_storage false n spot o os e h none =
    ap (λ b. front_before spot (cond b ((o.spot, n) ∷ statics_from (suc n) os) (statics_from (suc n) os))) e
    ∙ h
    ∙ sym (ap (λ b. cond (b && is_before o.spot spot) (n ∷ fixed_from (suc n) spot os) (fixed_from (suc n) spot os)) e)

front_fixed : (n : ℕ) (spot : Spot) (os : List Object) → rises (spots_of_objects os) ≡ true → front_before spot (statics_from n os) ≡ fixed_from n spot os
front_fixed n spot [] up = refl
front_fixed n spot (o ∷ os) up =
    let first = left (is_before_first o.spot (spots_of_objects os)) (rises (spots_of_objects os)) up in
    let rest = right (is_before_first o.spot (spots_of_objects os)) (rises (spots_of_objects os)) up in
    by_storage o.fixed n spot o os refl (front_fixed (suc n) spot os rest) (none_behind (suc n) spot o.spot os first rest)

pub front_is_fixed : (p : Program) (spot : Spot) → IsProgram p → front_before spot (statics_from 0 p.objects) ≡ fixed_before p spot
front_is_fixed p spot h = front_fixed 0 spot p.objects h.numbered

-- ---- where they end

-- all of these are declared later than a place
later_by_storage : (a o : Spot) (n : ℕ) (rest : List (Spot × ℕ)) → is_before a o ≡ true → ((j : ℕ) (d : Spot × ℕ) → j < length rest → is_before a (get_or rest j d).0 ≡ true)
    → (fixed : Bool) (j : ℕ) (d : Spot × ℕ) → j < length (cond fixed ((o, n) ∷ rest) rest) → is_before a (get_or (cond fixed ((o, n) ∷ rest) rest) j d).0 ≡ true
later_by_storage a o n rest first later true zero d l = first
later_by_storage a o n rest first later true (suc j) d l = later j d (omega (arith, l))
later_by_storage a o n rest first later false j d l = later j d l

later_all : (a : Spot) (n : ℕ) (os : List Object) → is_before_first a (spots_of_objects os) ≡ true → rises (spots_of_objects os) ≡ true
    → (j : ℕ) (d : Spot × ℕ) → j < length (statics_from n os) → is_before a (get_or (statics_from n os) j d).0 ≡ true
later_all a n [] first up j d l = absurd (omega (arith, l))
later_all a n (o ∷ os) first up j d l =
    let next = left (is_before_first o.spot (spots_of_objects os)) (rises (spots_of_objects os)) up in
    let after = right (is_before_first o.spot (spots_of_objects os)) (rises (spots_of_objects os)) up in
    later_by_storage a o.spot n (statics_from (suc n) os) first
    (λ i e k. is_before-then a o.spot (get_or (statics_from (suc n) os) i e).0 first (later_all o.spot (suc n) os next after i e k)) o.fixed j d l

-- what stands before a place stands before all that doesn't
parted_more : {X : Type 0} (test : X → Bool) (x : X) (xs : List X) → ((j : ℕ) (d : X) → j < length xs → test (get_or xs j d) ≡ true → test x ≡ true) → IsPartitionedBy test xs
    → IsPartitionedBy test (x ∷ xs)
parted_more test x xs first rest zero zero d low l h = h
parted_more test x xs first rest zero (suc j) d low l h = first j d (omega (arith, l)) h
parted_more test x xs first rest (suc i) zero d low l h = absurd (omega (arith, low))
parted_more test x xs first rest (suc i) (suc j) d low l h = rest i j d (omega (arith, low)) (omega (arith, l)) h

parted_by_storage : (spot o : Spot) (n : ℕ) (rest : List (Spot × ℕ)) → ((j : ℕ) (d : Spot × ℕ) → j < length rest → is_before o (get_or rest j d).0 ≡ true)
    → IsPartitionedBy (λ (s : Spot × ℕ). is_before s.0 spot) rest → (fixed : Bool) → IsPartitionedBy (λ (s : Spot × ℕ). is_before s.0 spot) (cond fixed ((o, n) ∷ rest) rest)
parted_by_storage spot o n rest later h true =
    parted_more (λ (s : Spot × ℕ). is_before s.0 spot) (o, n) rest (λ j d l e. is_before-then o (get_or rest j d).0 spot (later j d l) e) h
parted_by_storage spot o n rest later h false = h

pub statics_parted : (spot : Spot) (n : ℕ) (os : List Object) → rises (spots_of_objects os) ≡ true → IsPartitionedBy (λ (s : Spot × ℕ). is_before s.0 spot) (statics_from n os)
statics_parted spot n [] up = λ i j d low l h. absurd (omega (arith, l))
statics_parted spot n (o ∷ os) up =
    let next = left (is_before_first o.spot (spots_of_objects os)) (rises (spots_of_objects os)) up in
    let after = right (is_before_first o.spot (spots_of_objects os)) (rises (spots_of_objects os)) up in
    parted_by_storage spot o.spot n (statics_from (suc n) os) (later_all o.spot (suc n) os next after) (statics_parted spot (suc n) os after) o.fixed

-- the first of them, up to the point where they end
pub front_to_point : (spot : Spot) (statics : List (Spot × ℕ)) (count : ℕ) → count ≤ length statics
    → IsPartitionPoint (λ (s : Spot × ℕ). is_before s.0 spot ≡ true) (λ s. is_before s.0 spot ≡ false) statics count → numbers_of (take count statics) ≡ front_before spot statics
front_to_point spot [] zero l h = refl
front_to_point spot [] (suc count) l h = absurd (omega (arith, l))
front_to_point spot (s ∷ statics) zero l h = sym (ap (λ b. cond b (s.1 ∷ front_before spot statics) []) (h.1 0 s (omega arith) (omega arith)))
front_to_point spot (s ∷ statics) (suc count) l h =
    ap (λ ns. s.1 ∷ ns) (front_to_point spot statics count (omega (arith, l)) (λ k d low high. h.0 (suc k) d (omega arith) (omega (arith, high)), λ k d low high. h.1 (suc k) d (omega (arith, low)) (omega (arith, high))))
    ∙ sym (ap (λ b. cond b (s.1 ∷ front_before spot statics) []) (h.0 0 s (omega arith) (omega arith)))
