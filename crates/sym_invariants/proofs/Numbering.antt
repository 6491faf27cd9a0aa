-- The number of an obligation, found in a list that rises by place and kind.
use Rattle.std.proofs.Common.{◌≡◌, ℕ, zero, suc, ◌+◌, ◌<◌, ◌≤◌, Bool, true, false, cond, List, [], ◌∷◌, length, get_or, drop, refl, sym, ◌∙◌, ap, subst, arith, true≢false, length-drop}
use Rattle.std.specs.List.{AllWithin}
use Rattle.std.specs.List.Sorted.{IsPartitionedBy, IsSortedBy}
use Rattle.std.proofs.lemmas.List.{get_or-drop, get_or_default}
use Rattle.std.proofs.lemmas.List.Sorted.{sorted_far}
use Rattle.c_meaning.specs.declared.run.Duty.{Duty}
use Rattle.c_meaning.specs.Duties.{is_less, same_duty, number_among}
use Rattle.c_duties.specs.Ordered.{AreInOrder}
use Rattle.c_duties.proofs.Order.{duties_ordered}
use Rattle.c_duties.proofs.Numbers.{same_duties}
use Rattle.sym_invariants.specs.Obliged.{program_of, invariants_of, IsObliged}
use Rattle.sym_invariants.specs.declared.obliged.Obliged.{Obliged}

pub either : (b : Bool) → (b ≡ true → ⊥) → b ≡ false
either true f = absurd (f refl)
either false f = refl

otherwise : (b : Bool) → (b ≡ false → ⊥) → b ≡ true
otherwise true f = refl
otherwise false f = absurd (f refl)

pub not_itself : (d : Duty) → is_less d d ≡ true → ⊥
not_itself d h = true≢false (sym h ∙ duties_ordered.one_way d d h)

-- an obligation at an earlier place or of an earlier kind is another one
less_differs : (x d : Duty) → is_less x d ≡ true → same_duty x d ≡ false
less_differs x d h = either (same_duty x d) (λ e. not_itself d (ap (λ y. is_less y d) (sym (same_duties x d e)) ∙ h))

-- and so is one behind a later one
past_differs : (x y d : Duty) → is_less d y ≡ true → is_less x y ≡ false → same_duty x d ≡ false
past_differs x y d h g = either (same_duty x d) (λ e. true≢false (sym h ∙ ap (λ z. is_less z y) (sym (same_duties x d e)) ∙ g))

-- what stands at or before an earlier one is earlier
pub earlier : (x y d : Duty) → is_less y d ≡ true → is_less y x ≡ false → is_less x d ≡ true
earlier x y d h g = otherwise (is_less x d) (λ e. true≢false (sym h ∙ duties_ordered.chain y x d g e))

-- the first n are others
number_skips : (d : Duty) (xs : List Duty) (n : ℕ) → n ≤ length xs → ((k : ℕ) (z : Duty) → k < n → same_duty (get_or xs k z) d ≡ false) → number_among d xs ≡ n + number_among d (drop n xs)
number_skips d xs zero l h = omega arith
number_skips d [] (suc n) l h = absurd (omega (arith, l))
number_skips d (x ∷ xs) (suc n) l h =
    let e = number_skips d xs n (omega (arith, l)) (λ k z p. h (suc k) z (omega (arith, p))) in
    ap (λ b. cond b 1 (suc (number_among d xs))) (h 0 d (omega arith)) ∙ ap suc e ∙ (let q : suc (n + number_among d (drop n xs)) ≡ suc n + number_among d (drop n xs) = omega arith in q)

-- all are others
number_missing : (d : Duty) (xs : List Duty) → ((k : ℕ) (z : Duty) → k < length xs → same_duty (get_or xs k z) d ≡ false) → number_among d xs ≡ suc (length xs)
number_missing d [] h = refl
number_missing d (x ∷ xs) h = ap (λ b. cond b 1 (suc (number_among d xs))) (h 0 d (omega arith)) ∙ ap suc (number_missing d xs (λ k z p. h (suc k) z (omega (arith, p))))

-- those before a point are earlier
pub number_behind : (ds : List Duty) (d : Duty) (n : ℕ) → n ≤ length ds → AllWithin (λ x. is_less x d ≡ true) ds 0 n → number_among d ds ≡ n + number_among d (drop n ds)
number_behind ds d n l h = number_skips d ds n l (λ k z p. less_differs (get_or ds k z) d (h k z (omega arith) p))

module _ (ds : List Duty) (rise : IsSortedBy is_less ds) where
  -- what is earlier stands before what isn't
  pub parted : (d : Duty) → IsPartitionedBy (λ x. is_less x d) ds
  parted d i j z l h e = earlier (get_or ds i z) (get_or ds j z) d e (sorted_far is_less duties_ordered ds rise i j z l h)

  pub rise_behind : (n : ℕ) → n ≤ length ds → IsSortedBy is_less (drop n ds)
  rise_behind n l k d a b =
      ap (λ y. is_less y (get_or (drop n ds) k d)) (get_or-drop n ds (k + 1) d) ∙ ap (is_less (get_or ds (n + (k + 1)) d)) (get_or-drop n ds k d)
      ∙ sorted_far is_less duties_ordered ds rise (n + k) (n + (k + 1)) d (omega arith) (omega (arith, b, length-drop n ds))

  -- where a later one stands, none from there on is the obligation
  pub number_past : (d x : Duty) (i : ℕ) → i < length ds → is_less d (get_or ds i x) ≡ true → number_among d (drop i ds) ≡ suc (length (drop i ds))
  number_past d x i l h =
      number_missing d (drop i ds)
      (λ k z q.
      let below : i + k < length ds = omega (arith, q, length-drop i ds) in
      let far = sorted_far is_less duties_ordered ds rise i (i + k) x (omega arith) below in
      let same : get_or ds (i + k) x ≡ get_or (drop i ds) k z = get_or_default ds (i + k) x z below ∙ sym (get_or-drop i ds k z) in
      past_differs (get_or (drop i ds) k z) (get_or ds i x) d h (subst (λ y. is_less y (get_or ds i x) ≡ false) same far))

-- the obligations rise
pub rises : (w : Obliged) → IsObliged w → AreInOrder (program_of w) (invariants_of w) → IsSortedBy is_less w.mode.duties.now
rises w h order = subst (IsSortedBy is_less) (sym h.duties) order.rise
