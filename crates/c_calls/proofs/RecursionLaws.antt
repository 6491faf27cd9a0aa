-- Functions that lie on a cycle of calls, and those that can't.
use Rattle.std.proofs.Common.{◌≡◌, ℕ, zero, suc, ◌+◌, ◌<◌, Bool, true, nat_le, ◌&&◌, cond, Option, Some, None, slice_get, List, [], ◌∷◌, length, get_or, refl, sym, ap, ◌∙◌, subst, inl, inr, ⊎_elim, arith, eqb-true}
use Rattle.std.specs.Prelude.{IsTrue, ◌↔◌}
use Rattle.std.proofs.lemmas.Bool.{and_parts, cases_lt, leb-true, lt-ltb, or_cases}
use Rattle.std.proofs.lemmas.Option.{slice_get_within}
use Rattle.c_core.specs.Program.{has_main, is_main}
use Rattle.c_core.specs.Tree.{Exp, Function, Program}
use Rattle.c_meaning.specs.Parts.{some_of, is_in, fulls_of_function}
use Rattle.c_calls.specs.Calling.{IsCalledIn, IsCalledFrom, directly, further, Reaches, IsReached, IsFirstOnCycle, IsFirstRecursion, ComesFrom, itself, calling, HasCalled, HasReached}
use Rattle.c_calls.specs.Marks.{added, is_marked}
use Rattle.c_calls.specs.Levels.{each_call, level_of, IsLevelled}
use Rattle.c_calls.specs.Uses.{is_call, uses_of_function}
use Rattle.c_calls.specs.declared.uses.Use.{Use}
use Rattle.c_calls.specs.declared.uses.Use.TheVariants.{Changes, Calls}
use Rattle.c_calls.proofs.Listing.{not_both, in_head, in_cons}
use Rattle.c_calls.proofs.SpreadLaws.{listed_call}

pub of_each_call : (q : ℕ → Bool) (us : List Use) (f : ℕ) → IsTrue (each_call q us) → IsTrue (some_of (is_call f) us) → IsTrue (q f)
of_each_call q [] f h m = not_both _ refl m
of_each_call q (Changes o ∷ us) f h m = of_each_call q us f h m
of_each_call q (Calls g ∷ us) f h m =
    let parts = and_parts _ _ h in
    ⊎_elim (λ e. subst (λ x. IsTrue (q x)) (eqb-true g f e) parts.0) (of_each_call q us f parts.1) (or_cases _ _ m)

pub marked_within : (marks : List Bool) (f : ℕ) → IsTrue (is_marked marks f) → f < length marks
marked_within [] f m = not_both _ refl m
marked_within (b ∷ marks) zero m = omega arith
marked_within (b ∷ marks) (suc f) m = let h = marked_within marks f m in omega arith

module _ (p : Program) where
  pub is_function : (es : List Exp) (f : ℕ) → IsCalledFrom p es f → f < length p.functions
  is_function es _ (directly f c) = c.0
  is_function es _ (further f g c d) = d.0

  module _ (levels : List ℕ) (levelled : IsLevelled p levels) where
    higher : (f : ℕ) → IsTrue (each_call (λ g. nat_le (level_of levels f + 1) (level_of levels g)) (uses_of_function p f)) → (g : ℕ) → Reaches p f g → level_of levels f < level_of levels g
    higher f above _ (directly g c) = let l = leb-true (level_of levels f + 1) (level_of levels g) (of_each_call (λ g. nat_le (level_of levels f + 1) (level_of levels g)) (uses_of_function p f) g above (listed_call p f g c.1)) in omega arith
    higher f above _ (further g h c d) =
        let l = leb-true (level_of levels g) (level_of levels h) (of_each_call (λ x. nat_le (level_of levels g) (level_of levels x)) (uses_of_function p g) h (levelled g (is_function (fulls_of_function p f) g c)) (listed_call p g h d.1)) in
        let ih = higher f above g c in omega arith

    -- a function whose calls all lead to higher levels lies on no cycle
    pub no_cycle : (f : ℕ) → IsTrue (each_call (λ g. nat_le (level_of levels f + 1) (level_of levels g)) (uses_of_function p f)) → Reaches p f f → ⊥
    no_cycle f above c = let l = higher f above f c in omega arith

  pub reached_comes : (f : ℕ) → IsReached p f → ComesFrom p (p.main ∷ []) f
  reached_comes f r = ⊎_elim (λ e. itself f (subst (λ x. IsTrue (is_in x (p.main ∷ []))) (sym e) (in_head p.main []))) (from f) r
    where
      from : (f : ℕ) → Reaches p p.main f → ComesFrom p (p.main ∷ []) f
      from _ (directly f c) = calling p.main f (itself p.main (in_head p.main [])) c
      from _ (further f g c d) = calling f g (from f c) d

  pub comes_reached : (f : ℕ) → ComesFrom p (p.main ∷ []) f → IsReached p f
  comes_reached _ (itself f m) = ⊎_elim inl (λ n. not_both _ refl n) (in_cons f p.main [] m)
  comes_reached _ (calling f g c d) = inr (⊎_elim (λ e. directly g (subst (λ x. IsCalledIn p (fulls_of_function p x) g) e d)) (λ r. further f g r d) (comes_reached f c))

  pub main_within : IsTrue (has_main p) → p.main < length p.functions
  main_within h = by_main (slice_get p.functions p.main) refl h
    where
      by_main : (o : Option Function) → slice_get p.functions p.main ≡ o → IsTrue (is_main o) → p.main < length p.functions
      by_main None at m = not_both _ refl m
      by_main (Some f) at m = slice_get_within p.functions p.main f at

  -- a search that marks what it finds tells whether a function comes back to itself
  pub marked_on_cycle : (f : ℕ) (order : List ℕ) (marks : List Bool) → ((g : ℕ) → g < length marks → is_marked marks g ≡ is_in g order) → length marks ≡ length p.functions → HasCalled p (fulls_of_function p f) order → IsTrue (is_marked marks f) ↔ Reaches p f f
  marked_on_cycle f order marks agree count h = (
    λ m. (h.members f).0 (sym (agree f (marked_within marks f m)) ∙ m),
    λ r. let inside = is_function (fulls_of_function p f) f r in agree f (omega arith) ∙ (h.members f).1 r,
  )

  -- the first marked function on a cycle is the first recursion, where those are marked that main reaches
  pub first_recursion : (order : List ℕ) (marks : List Bool) → IsTrue (has_main p) → ((g : ℕ) → g < length marks → is_marked marks g ≡ is_in g order) → length marks ≡ length p.functions → HasReached p (p.main ∷ []) order → (first : Option ℕ) → IsFirstOnCycle p (is_marked marks) first → IsFirstRecursion p first
  first_recursion order marks main agree count h first r = by_first first r
    where
      inside : (f : ℕ) → IsReached p f → f < length p.functions
      inside f r = ⊎_elim (λ e. subst (λ n. n < length p.functions) (sym e) (main_within main)) (is_function (fulls_of_function p p.main) f) r

      marked : (f : ℕ) → IsReached p f → IsTrue (is_marked marks f)
      marked f r = let i = inside f r in agree f (omega arith) ∙ (h.members f).1 (reached_comes f r)

      reached : (f : ℕ) → IsTrue (is_marked marks f) → IsReached p f
      reached f m = comes_reached f ((h.members f).0 (sym (agree f (marked_within marks f m)) ∙ m))

      by_first : (first : Option ℕ) → IsFirstOnCycle p (is_marked marks) first → IsFirstRecursion p first
      by_first None r = λ f c. r f (marked f c.reached) c.cycle
      by_first (Some f) r = (record { reached = reached f r.0; cycle = r.1 }, λ g below c. r.2 g below (marked g c.reached) c.cycle)

pub main_added : (count main : ℕ) → main < count → added count [] main ≡ main ∷ []
main_added count main h = ap (λ t. cond (t && true) (main ∷ []) []) (lt-ltb main count h)

-- what holds of each item of a list holds of its members
pub each_member : (P : ℕ → Type 0) (xs : List ℕ) → ((i : ℕ) → P (get_or xs i 0)) → (f : ℕ) → IsTrue (is_in f xs) → P f
each_member P [] h f m = not_both _ refl m
each_member P (x ∷ xs) h f m = ⊎_elim (λ e. subst P (sym e) (h 0)) (each_member P xs (λ i. h (suc i)) f) (in_cons f x xs m)

-- one number more is ruled out
pub one_more_ruled_out : (P : ℕ → Type 0) (n : ℕ) → ((f : ℕ) → f < n → P f) → P n → (f : ℕ) → f < n + 1 → P f
one_more_ruled_out P n below here f l = ⊎_elim (below f) (λ g. let e : n ≡ f = omega arith in subst P e here) (cases_lt f n)
