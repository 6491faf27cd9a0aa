-- Names of a layout: their numbers differ, and each number holds the place of its name's innermost cell.
use Rattle.std.proofs.Common.{◌≡◌, ℕ, suc, ◌+◌, ◌-◌, ◌<◌, ◌≤◌, ◌⊎◌, inl, inr, List, [], ◌∷◌, length, Bool, true, false, ◌&&◌, cond, nat_lt, ltb-true, Option, Some, None, is_none, replicate, refl, sym, ap, subst, ◌∙◌, arith, slice_set, get_or-set_same, get_or-set_other, length-set}
use Rattle.std.specs.Prelude.{slice_index_or}
use Rattle.std.proofs.lemmas.Bool.{true≢false, lt-ltb, le-ltb, cases_order}
use Rattle.std.proofs.lemmas.Option.{none-some, same_Some}
use Rattle.std.proofs.lemmas.List.{get_or-replicate, length-replicate}
use Rattle.c_meaning.specs.Cells.{Key, same_key}
use Rattle.c_meaning.specs.Layout.{start, size_in, Rising, count_of, number_of}
use Rattle.c_meaning.specs.Slots.{Named, place_of, entry_of, place_among, outside, IsPlaced}
use Rattle.c_meaning.proofs.Innermost.{keys_same, same_key_is, same_key_self}

-- a name's number lies between those of its object's first name and of the next object's
pub record IsNumber (starts : List ℕ) (k : Key) (n : ℕ) : Type 0 where
  pub object : k.object + 1 < length starts
  pub is : start starts k.object + k.index ≡ n
  pub below : n < start starts (k.object + 1)

chosen : (a b : Bool) (m n : ℕ) → cond (a && b) (Some m) None ≡ Some n → (a ≡ true) × (b ≡ true) × (m ≡ n)
chosen true true m n h = (refl, refl, same_Some m n h)
chosen true false m n h = absurd (none-some n h)
chosen false b m n h = absurd (none-some n h)

-- each number lies there
pub number_is : (starts : List ℕ) (k : Key) (n : ℕ) → number_of starts k ≡ Some n → IsNumber starts k n
unfolding number_of
number_is starts k n h =
    let m = start starts k.object + k.index in
    let c = chosen (nat_lt (k.object + 1) (length starts)) (nat_lt k.index (size_in starts k.object)) m n h in
    let b : k.index < size_in starts k.object = ltb-true k.index (size_in starts k.object) c.1 in
    record {
      object = ltb-true (k.object + 1) (length starts) c.0;
      is = c.2;
      below = omega (arith, c.2, b);
    }

-- an index below the object's size has a number
pub has_number : (starts : List ℕ) (k : Key) → k.object + 1 < length starts → k.index < size_in starts k.object → number_of starts k ≡ Some (start starts k.object + k.index)
unfolding number_of
has_number starts k g h = rw (lt-ltb (k.object + 1) (length starts) g, lt-ltb k.index (size_in starts k.object) h) refl

-- no name of an object behind the last one has a number
pub no_object : (starts : List ℕ) (k : Key) → length starts ≤ k.object + 1 → number_of starts k ≡ None
unfolding number_of
no_object starts k h = rw (le-ltb (k.object + 1) (length starts) h) refl

-- no name has one whose index isn't below its object's size
pub beyond_object : (starts : List ℕ) (k : Key) → k.object + 1 < length starts → size_in starts k.object ≤ k.index → number_of starts k ≡ None
unfolding number_of
beyond_object starts k g h = rw (lt-ltb (k.object + 1) (length starts) g, le-ltb k.index (size_in starts k.object) h) refl

-- no two names have one number
number_once : (starts : List ℕ) → Rising starts → (k l : Key) (n : ℕ) → IsNumber starts k n → IsNumber starts l n → k ≡ l
number_once starts rising k l n a b = by_order (cases_order k.object l.object)
  where
    by_order : (k.object ≡ l.object) ⊎ ((k.object < l.object) ⊎ (l.object < k.object)) → k ≡ l
    by_order (inl e) = keys_same k l e (let f : start starts k.object ≡ start starts l.object = ap (start starts) e in omega (arith, f, a.is, b.is))
    by_order (inr (inl h)) = let r = rising (k.object + 1) l.object (omega (arith, h)) (omega (arith, b.object)) in absurd (omega (arith, r, a.below, b.is))
    by_order (inr (inr h)) = let r = rising (l.object + 1) k.object (omega (arith, h)) (omega (arith, a.object)) in absurd (omega (arith, r, b.below, a.is))

-- a number is below the number of names
number_below : (starts : List ℕ) → Rising starts → (k : Key) (n : ℕ) → IsNumber starts k n → n < count_of starts
number_below starts rising k n a =
    let r = rising (k.object + 1) (length starts - 1) (omega (arith, a.object)) (omega (arith, a.object)) in
    omega (arith, r, a.below)

-- no place at all while no cell lives
pub placed_none : (starts : List ℕ) (names : ℕ) → Rising starts → names ≡ count_of starts → IsPlaced starts [] (replicate names None)
placed_none starts names rising e k n h =
    let b = number_below starts rising k n (number_is starts k n h) in
    let below : n < names = omega (arith, b, e) in
    (rw (length-replicate {A = Option ℕ} names None) below, get_or-replicate {A = Option ℕ} names n None None below)

other_number : (starts : List ℕ) → Rising starts → (k l : Key) (m n : ℕ) → number_of starts k ≡ Some m → number_of starts l ≡ Some n → (k ≡ l → ⊥) → n ≡ m → ⊥
other_number starts rising k l m n a b d e = d (number_once starts rising k l m (number_is starts k m a) (subst (IsNumber starts l) e (number_is starts l n b)))

differ : (k l : Key) → same_key k l ≡ false → k ≡ l → ⊥
differ k l h e = true≢false (sym (same_key_self k) ∙ ap (same_key k) e ∙ h)

same_number : (starts : List ℕ) (k l : Key) (m n : ℕ) → number_of starts k ≡ Some m → number_of starts l ≡ Some n → same_key k l ≡ true → n ≡ m
same_number starts k l m n a b e = same_Some n m (sym b ∙ ap (number_of starts) (sym (same_key_is k l e)) ∙ a)

not_numbered : (starts : List ℕ) (k l : Key) (n : ℕ) → number_of starts k ≡ None → number_of starts l ≡ Some n → same_key k l ≡ true → ⊥
not_numbered starts k l n a b e = none-some n (sym a ∙ ap (number_of starts) (same_key_is k l e) ∙ b)

-- with one cell more of a numbered name
pub placed_more : (starts : List ℕ) → Rising starts → (places : List (Option ℕ)) (c : Named) (cs : List Named) (m p : ℕ) → number_of starts c.key ≡ Some m → p ≡ length cs → IsPlaced starts cs places
    → IsPlaced starts (c ∷ cs) (slice_set places m (Some p))
placed_more starts rising places c cs m p numbered e h l n a = (omega (arith, (h l n a).0, length-set places m (Some p)), by_name (same_key c.key l) refl)
  where
    by_name : (b : Bool) → same_key c.key l ≡ b → slice_index_or (slice_set places m (Some p)) n None ≡ cond (same_key c.key l) (Some (length cs)) (place_of l cs)
    by_name true q = rw q
        (ap (λ i. slice_index_or (slice_set places m (Some p)) i None) (same_number starts c.key l m n numbered a q) ∙ get_or-set_same places m (Some p) None (h c.key m numbered).0 ∙ ap Some e)
    by_name false q = rw q (get_or-set_other places m n (Some p) None (other_number starts rising c.key l m n numbered a (differ c.key l q)) ∙ (h l n a).1)

-- with one cell more of another name
pub placed_beside : (starts : List ℕ) (places : List (Option ℕ)) (c : Named) (cs : List Named) → number_of starts c.key ≡ None → IsPlaced starts cs places → IsPlaced starts (c ∷ cs) places
placed_beside starts places c cs none h l n a = ((h l n a).0, by_name (same_key c.key l) refl)
  where
    by_name : (b : Bool) → same_key c.key l ≡ b → slice_index_or places n None ≡ cond (same_key c.key l) (Some (length cs)) (place_of l cs)
    by_name true q = absurd (not_numbered starts c.key l n none a q)
    by_name false q = rw q (h l n a).1

-- with one cell less of a numbered name
pub placed_fewer : (starts : List ℕ) → Rising starts → (places : List (Option ℕ)) (c : Named) (cs : List Named) (m : ℕ) → number_of starts c.key ≡ Some m → c.hides ≡ place_of c.key cs → IsPlaced starts (c ∷ cs) places
    → IsPlaced starts cs (slice_set places m c.hides)
placed_fewer starts rising places c cs m numbered e h l n a = (omega (arith, (h l n a).0, length-set places m c.hides), by_name (same_key c.key l) refl (h l n a).1)
  where
    by_name : (b : Bool) → same_key c.key l ≡ b → slice_index_or places n None ≡ cond (same_key c.key l) (Some (length cs)) (place_of l cs) → slice_index_or (slice_set places m c.hides) n None ≡ place_of l cs
    by_name true q older = ap (λ i. slice_index_or (slice_set places m c.hides) i None) (same_number starts c.key l m n numbered a q)
        ∙ get_or-set_same places m c.hides None (h c.key m numbered).0 ∙ e ∙ ap (λ k. place_of k cs) (same_key_is c.key l q)
    by_name false q older = get_or-set_other places m n c.hides None (other_number starts rising c.key l m n numbered a (differ c.key l q)) ∙ rw q at older

-- with one cell less of another name
pub placed_left : (starts : List ℕ) (places : List (Option ℕ)) (c : Named) (cs : List Named) → number_of starts c.key ≡ None → IsPlaced starts (c ∷ cs) places → IsPlaced starts cs places
placed_left starts places c cs none h l n a = ((h l n a).0, by_name (same_key c.key l) refl (h l n a).1)
  where
    by_name : (b : Bool) → same_key c.key l ≡ b → slice_index_or places n None ≡ cond (same_key c.key l) (Some (length cs)) (place_of l cs) → slice_index_or places n None ≡ place_of l cs
    by_name true q older = absurd (not_numbered starts c.key l n none a q)
    by_name false q older = rw q at older

-- a numbered name has no entry
pub outside_numbered : (starts : List ℕ) (c : Named) (cs : List Named) (n : ℕ) → number_of starts c.key ≡ Some n → outside starts (c ∷ cs) ≡ outside starts cs
outside_numbered starts c cs n e = rw e refl

-- another name has one
pub outside_unnumbered : (starts : List ℕ) (c : Named) (cs : List Named) → number_of starts c.key ≡ None → outside starts (c ∷ cs) ≡ entry_of c.key (length cs) ∷ outside starts cs
outside_unnumbered starts c cs e = rw e refl

-- no more entries than cells
pub outside_length : (starts : List ℕ) (cs : List Named) → length (outside starts cs) ≤ length cs
outside_length starts [] = omega arith
outside_length starts (c ∷ cs) = by_number (is_none (number_of starts c.key)) (outside_length starts cs)
  where
    by_number : (b : Bool) → length (outside starts cs) ≤ length cs → length (cond b (entry_of c.key (length cs) ∷ outside starts cs) (outside starts cs)) ≤ suc (length cs)
    by_number true h = omega arith
    by_number false h = omega arith

-- the newest entry of a name outside of the layout is that of its innermost cell
pub outside_place : (starts : List ℕ) (k : Key) → number_of starts k ≡ None → (cs : List Named) → place_among k (outside starts cs) ≡ place_of k cs
outside_place starts k none [] = refl
outside_place starts k none (c ∷ cs) = by_number (number_of starts c.key) refl (outside_place starts k none cs)
  where
    by_name : (n : ℕ) → number_of starts c.key ≡ Some n → (b : Bool) → same_key c.key k ≡ b → place_among k (outside starts cs) ≡ place_of k cs
        → place_among k (outside starts cs) ≡ cond (same_key c.key k) (Some (length cs)) (place_of k cs)
    by_name n e true q older = absurd (none-some n (sym none ∙ ap (number_of starts) (sym (same_key_is c.key k q)) ∙ e))
    by_name n e false q older = rw q older

    by_number : (r : Option ℕ) → number_of starts c.key ≡ r → place_among k (outside starts cs) ≡ place_of k cs
        → place_among k (outside starts (c ∷ cs)) ≡ cond (same_key c.key k) (Some (length cs)) (place_of k cs)
    by_number None e older = ap (place_among k) (outside_unnumbered starts c cs e) ∙ ap (cond (same_key c.key k) (Some (length cs))) older
    by_number (Some n) e older = ap (place_among k) (outside_numbered starts c cs n e) ∙ by_name n e (same_key c.key k) refl older
