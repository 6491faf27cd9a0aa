-- What adding called functions to a list does to it.
use Rattle.std.proofs.Common.{◌≡◌, ◌⊎◌, ℕ, ◌<◌, Bool, true, false, cond, not, nat_eq, nat_lt, ◌&&◌, List, [], ◌∷◌, ◌++◌, refl, sym, ap, ◌∙◌, subst, inl, inr, ⊎_elim, eqb-true, eq-eqb, append_assoc}
use Rattle.std.specs.Prelude.{IsTrue}
use Rattle.std.proofs.lemmas.Bool.{ltb-true, lt-ltb, or_left, or_right, or_cases}
use Rattle.std.proofs.lemmas.List.{append-nil}
use Rattle.c_meaning.specs.Parts.{some_of, is_in}
use Rattle.c_calls.specs.Marks.{added, all_added}
use Rattle.c_calls.specs.Uses.{is_call}
use Rattle.c_calls.specs.declared.uses.Use.{Use}
use Rattle.c_calls.specs.declared.uses.Use.TheVariants.{Changes, Calls}
use Rattle.c_calls.proofs.Listing.{some_append, in_head, in_cons, not_both}

pub in_back : (x f : ℕ) (fs : List ℕ) → IsTrue (is_in x (fs ++ f ∷ [])) → IsTrue (is_in x fs) ⊎ (x ≡ f)
in_back x f fs m = ⊎_elim inl (λ n. ⊎_elim inr (λ k. not_both false refl k) (in_cons x f [] n)) (or_cases _ _ (sym (some_append (nat_eq x) fs (f ∷ [])) ∙ m))

in_front : (x f : ℕ) (fs : List ℕ) → IsTrue (is_in x fs) → IsTrue (is_in x (fs ++ f ∷ []))
in_front x f fs m = some_append (nat_eq x) fs (f ∷ []) ∙ or_left _ _ m

at_back : (f : ℕ) (fs : List ℕ) → IsTrue (is_in f (fs ++ f ∷ []))
at_back f fs = some_append (nat_eq f) fs (f ∷ []) ∙ or_right (is_in f fs) _ (in_head f [])

module _ (count : ℕ) where
  by_added : (fs : List ℕ) (f : ℕ) (P : List ℕ → Type 0) → P fs → (f < count → P (fs ++ f ∷ [])) → P (added count fs f)
  by_added fs f P old new = by_test (nat_lt f count) (not (is_in f fs)) refl
    where
      by_test : (a b : Bool) → nat_lt f count ≡ a → P (cond (a && b) (fs ++ f ∷ []) fs)
      by_test true true e = new (ltb-true f count e)
      by_test true false e = old
      by_test false b e = old

  still_in : (fs : List ℕ) (f x : ℕ) → IsTrue (is_in x fs) → IsTrue (is_in x (added count fs f))
  still_in fs f x m = by_added fs f (λ l. IsTrue (is_in x l)) m (λ _. in_front x f fs m)

  now_in : (fs : List ℕ) (f : ℕ) → f < count → IsTrue (is_in f (added count fs f))
  now_in fs f h = by_test (is_in f fs) refl
    where
      by_test : (b : Bool) → is_in f fs ≡ b → IsTrue (is_in f (cond (nat_lt f count && not b) (fs ++ f ∷ []) fs))
      by_test true e = ap (λ t. is_in f (cond t (fs ++ f ∷ []) fs)) (and_false (nat_lt f count)) ∙ e
        where
          and_false : (t : Bool) → (t && false) ≡ false
          and_false true = refl
          and_false false = refl
      by_test false e = ap (λ t. is_in f (cond (t && true) (fs ++ f ∷ []) fs)) (lt-ltb f count h) ∙ at_back f fs

  was_in : (fs : List ℕ) (f x : ℕ) → IsTrue (is_in x (added count fs f)) → IsTrue (is_in x fs) ⊎ ((x < count) × (x ≡ f))
  was_in fs f x = by_added fs f (λ l. IsTrue (is_in x l) → IsTrue (is_in x fs) ⊎ ((x < count) × (x ≡ f))) inl (λ h m. ⊎_elim inl (λ e. inr (subst (λ n. n < count) (sym e) h, e)) (in_back x f fs m))

  more_behind : (fs : List ℕ) (f : ℕ) → (more : List ℕ) × (added count fs f ≡ fs ++ more)
  more_behind fs f = by_added fs f (λ l. (more : List ℕ) × (l ≡ fs ++ more)) ([], sym (append-nil fs)) (λ _. (f ∷ [], refl))

  -- what was there stays
  pub all_still_in : (us : List Use) (fs : List ℕ) (x : ℕ) → IsTrue (is_in x fs) → IsTrue (is_in x (all_added count fs us))
  all_still_in [] fs x m = m
  all_still_in (Changes o ∷ us) fs x m = all_still_in us fs x m
  all_still_in (Calls f ∷ us) fs x m = all_still_in us (added count fs f) x (still_in fs f x m)

  -- each function that is called is there
  pub all_now_in : (us : List Use) (fs : List ℕ) (x : ℕ) → x < count → IsTrue (some_of (is_call x) us) → IsTrue (is_in x (all_added count fs us))
  all_now_in [] fs x h m = not_both false refl m
  all_now_in (Changes o ∷ us) fs x h m = all_now_in us fs x h m
  all_now_in (Calls f ∷ us) fs x h m =
      ⊎_elim (λ e. all_still_in us (added count fs f) x (subst (λ n. IsTrue (is_in x (added count fs n))) (sym (eqb-true f x e)) (now_in fs x h))) (all_now_in us (added count fs f) x h) (or_cases _ _ m)

  -- and no other
  pub all_was_in : (us : List Use) (fs : List ℕ) (x : ℕ) → IsTrue (is_in x (all_added count fs us)) → IsTrue (is_in x fs) ⊎ ((x < count) × IsTrue (some_of (is_call x) us))
  all_was_in [] fs x m = inl m
  all_was_in (Changes o ∷ us) fs x m = all_was_in us fs x m
  all_was_in (Calls f ∷ us) fs x m =
      ⊎_elim (λ k. ⊎_elim inl (λ e. inr (e.0, or_left _ _ (eq-eqb f x (sym e.1)))) (was_in fs f x k)) (λ e. inr (e.0, or_right (nat_eq f x) _ e.1)) (all_was_in us (added count fs f) x m)

  -- behind what was there
  pub all_behind : (us : List Use) (fs : List ℕ) → (more : List ℕ) × (all_added count fs us ≡ fs ++ more)
  all_behind [] fs = ([], sym (append-nil fs))
  all_behind (Changes o ∷ us) fs = all_behind us fs
  all_behind (Calls f ∷ us) fs =
      let a = more_behind fs f in let b = all_behind us (added count fs f) in
      (a.0 ++ b.0, b.1 ∙ ap (λ l. l ++ b.0) a.1 ∙ append_assoc fs a.0 b.0)
