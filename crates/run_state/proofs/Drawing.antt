-- What a pop takes, and the first entry at a place.
use Rattle.std.proofs.Common.{◌≡◌, ℕ, zero, suc, ◌+◌, ◌<◌, ℤ, true, false, List, [], ◌∷◌, ◌++◌, length, reverse, take, get_or, slice_set, Option, Some, None, MatchOption, option_to_list, Vec, refl, sym, ap, subst, ◌∙◌, rules, arith}
use Rattle.std.proofs.lemmas.Bool.{or_parts as neither}
use Rattle.std.specs.Vec.{vec_len}
use Rattle.std.specs.declared.alloc.Global.{Global}
use Rattle.std.proofs.lemmas.List.{reverse-append}
use Rattle.c_core.specs.declared.number.Spot.{Spot}
use Rattle.c_core.specs.Parts.{same_spot}
use Rattle.c_meaning.specs.Run.{first_value, other_values, given_at, given_after}
use Rattle.run_state.specs.Drawing.{any_at, IsFirst}
use Rattle.run_state.specs.Interpreting.{given_left, givens_left}
use Rattle.run_state.specs.declared.machine.LeftAt.{LeftAt}

-- what a pop takes is the last item, and none where there are none
popped_first : (o : Option ℤ) (xs ys : List ℤ) → xs ≡ ys ++ option_to_list o → (o ≡ None → length xs ≡ 0) → o ≡ first_value (reverse xs)
popped_first None [] ys e m = refl
popped_first None (x ∷ xs) ys e m = absurd (omega (arith, m refl))
popped_first (Some v) xs ys e m = rw (e, reverse-append) refl

popped_others : (o : Option ℤ) (xs ys : List ℤ) → xs ≡ ys ++ option_to_list o → (o ≡ None → length xs ≡ 0) → reverse ys ≡ other_values (reverse xs)
popped_others None [] [] e m = refl
popped_others None [] (y ∷ ys) e m = absurd (cc)
popped_others None (x ∷ xs) ys e m = absurd (omega (arith, m refl))
popped_others (Some v) xs ys e m = rw (e, reverse-append) refl

module _ (o : Option ℤ) (v w : Vec ℤ Global) (popped : v.items ≡ w.items ++ option_to_list o)
    (shorter : MatchOption o ((vec_len v ≡ 0) × (vec_len w ≡ 0)) (λ x. vec_len w + 1 ≡ vec_len v)) where
  none_left : o ≡ None → length v.items ≡ 0
  none_left e =
      let n : vec_len v ≡ length v.items = search rules in
      let m = rw e at shorter in
      omega (arith, m.0)

  pub pop_first : o ≡ first_value (reverse v.items)
  pop_first = popped_first o v.items w.items popped none_left

  pub pop_others : reverse w.items ≡ other_values (reverse v.items)
  pop_others = popped_others o v.items w.items popped none_left

module _ (spot : Spot) where
  none_until : (ls : List LeftAt) (i : ℕ) (d : LeftAt) → any_at spot (take i ls) ≡ false → i < length ls
      → same_spot (get_or ls i d).spot spot ≡ false → any_at spot (take (suc i) ls) ≡ false
  none_until [] i d none h differs = absurd (omega arith)
  none_until (l ∷ ls) zero d none h differs = rw differs refl
  none_until (l ∷ ls) (suc i) d none h differs =
      let n = neither (same_spot l.spot spot) (any_at spot (take i ls)) none in
      let k : i < length ls = omega arith in
      rw n.0 (none_until ls i d n.1 k differs)

  -- one entry more that lies elsewhere
  pub none_more : (ls : List LeftAt) (i : ℕ) (x : LeftAt) → any_at spot (take i ls) ≡ false → i < length ls
      → x ≡ get_or ls i x → same_spot x.spot spot ≡ false → any_at spot (take (i + 1) ls) ≡ false
  none_more ls i x none h e differs =
      let s : suc i ≡ i + 1 = omega arith in
      subst (λ n. any_at spot (take n ls) ≡ false) s
      (none_until ls i x none h (subst (λ (y : LeftAt). same_spot y.spot spot ≡ false) e differs))

  pub at_none : (ls : List LeftAt) → any_at spot ls ≡ false → None ≡ given_at spot (givens_left ls)
  at_none [] none = refl
  at_none (l ∷ ls) none =
      let n = neither (same_spot l.spot spot) (any_at spot ls) none in
      rw n.0 (at_none ls n.1)

  pub after_none : (ls : List LeftAt) → any_at spot ls ≡ false → givens_left ls ≡ given_after spot (givens_left ls)
  after_none [] none = refl
  after_none (l ∷ ls) none =
      let n = neither (same_spot l.spot spot) (any_at spot ls) none in
      rw n.0 (ap (λ gs. given_left l ∷ gs) (after_none ls n.1))

  at_index : (ls : List LeftAt) (i : ℕ) (d : LeftAt) → i < length ls → any_at spot (take i ls) ≡ false
      → same_spot (get_or ls i d).spot spot ≡ true → given_at spot (givens_left ls) ≡ first_value (reverse (get_or ls i d).values.items)
  at_index [] i d h none here = absurd (omega arith)
  at_index (l ∷ ls) zero d h none here = rw here refl
  at_index (l ∷ ls) (suc i) d h none here =
      let n = neither (same_spot l.spot spot) (any_at spot (take i ls)) none in
      let k : i < length ls = omega arith in
      rw n.0 (at_index ls i d k n.1 here)

  after_index : (ls : List LeftAt) (i : ℕ) (d l : LeftAt) → i < length ls → any_at spot (take i ls) ≡ false
      → same_spot (get_or ls i d).spot spot ≡ true → l.spot ≡ (get_or ls i d).spot
      → reverse l.values.items ≡ other_values (reverse (get_or ls i d).values.items)
      → givens_left (slice_set ls i l) ≡ given_after spot (givens_left ls)
  after_index [] i d l h none here s v = absurd (omega arith)
  after_index (x ∷ ls) zero d l h none here s v = rw (here, s, v) refl
  after_index (x ∷ ls) (suc i) d l h none here s v =
      let n = neither (same_spot x.spot spot) (any_at spot (take i ls)) none in
      let k : i < length ls = omega arith in
      rw n.0 (ap (λ gs. given_left x ∷ gs) (after_index ls i d l k n.1 here s v))

  -- what is taken from the first entry at the spot
  module _ (ls : List LeftAt) (i : ℕ) (x l : LeftAt) (o : Option ℤ) (first : IsFirst spot ls i) (there : x ≡ get_or ls i x)
      (popped : x.values.items ≡ l.values.items ++ option_to_list o)
      (shorter : MatchOption o ((vec_len x.values ≡ 0) × (vec_len l.values ≡ 0)) (λ v. vec_len l.values + 1 ≡ vec_len x.values)) where
    pub at_first : o ≡ given_at spot (givens_left ls)
    at_first =
        pop_first o x.values l.values popped shorter
        ∙ ap (λ (y : LeftAt). first_value (reverse y.values.items)) there
        ∙ sym (at_index ls i x first.within first.none_before (first.here x))

    pub after_first : l.spot ≡ x.spot → givens_left (slice_set ls i l) ≡ given_after spot (givens_left ls)
    after_first s =
        after_index ls i x l first.within first.none_before (first.here x)
        (s ∙ ap (λ (y : LeftAt). y.spot) there)
        (pop_others o x.values l.values popped shorter ∙ ap (λ (y : LeftAt). other_values (reverse y.values.items)) there)
