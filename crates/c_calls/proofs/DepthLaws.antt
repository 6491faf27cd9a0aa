-- Where main reaches no cycle of calls, calls go no deeper than there are functions.
use Rattle.std.proofs.Common.{◌≡◌, ◌⊎◌, ℕ, zero, suc, ◌+◌, ◌<◌, ◌≤◌, Bool, true, false, cond, nat_eq, not, List, [], ◌∷◌, length, Option, Some, None, slice_get, refl, sym, ap, ◌∙◌, subst, inl, inr, ⊎_elim, arith, true≢false, eqb-true}
use Rattle.std.specs.Prelude.{IsTrue}
use Rattle.std.proofs.lemmas.Bool.{cases_Bool, eqb-false, or_parts, not_from_true}
use Rattle.std.proofs.lemmas.Option.{slice_get_within}
use Rattle.c_core.specs.Tree.{Function, Program}
use Rattle.c_core.specs.declared.number.IntType.{IntType}
use Rattle.c_meaning.specs.Meaning.{Meaning, Site}
use Rattle.c_meaning.specs.Exec.{call_of, run_in, run_if, run_main}
use Rattle.c_meaning.specs.Parts.{some_of, some_node, those, is_in, calls, fulls_of_function, fulls_if}
use Rattle.c_calls.specs.Calling.{IsCalledIn, directly, further, Reaches, IsReached, IsFirstRecursion}
use Rattle.c_calls.specs.Depth.{IsChainFrom}
use Rattle.c_calls.proofs.Listing.{not_both, in_head, in_cons, those_in}
use Rattle.c_calls.proofs.Agreeing.{same_body}

abbrev pub Distinct : List ℕ → Type 0
Distinct [] = Unit {0}
Distinct (x ∷ xs) = (is_in x xs ≡ false) × Distinct xs

-- the others than a number
abbrev without : ℕ → List ℕ → List ℕ
without k xs = those (λ x. not (nat_eq x k)) xs

without_none : (k : ℕ) (xs : List ℕ) → is_in k xs ≡ false → length xs ≤ length (without k xs)
without_none k [] e = omega arith
without_none k (x ∷ xs) e = let r = or_parts (nat_eq k x) (is_in k xs) e in by_test (nat_eq x k) refl r.0 (without_none k xs r.1)
  where
    by_test : (b : Bool) → nat_eq x k ≡ b → nat_eq k x ≡ false → length xs ≤ length (without k xs) → length (x ∷ xs) ≤ length (cond (not b) (x ∷ without k xs) (without k xs))
    by_test true e f ih = absurd (eqb-false k x f (sym (eqb-true x k e)))
    by_test false e f ih = omega arith

without_one : (k : ℕ) (xs : List ℕ) → Distinct xs → length xs ≤ length (without k xs) + 1
without_one k [] d = omega arith
without_one k (x ∷ xs) d = by_test (nat_eq x k) refl d.0 (without_none k xs) (without_one k xs d.1)
  where
    by_test : (b : Bool) → nat_eq x k ≡ b → is_in x xs ≡ false → (is_in k xs ≡ false → length xs ≤ length (without k xs)) → length xs ≤ length (without k xs) + 1 → length (x ∷ xs) ≤ length (cond (not b) (x ∷ without k xs) (without k xs)) + 1
    by_test true e new none ih = let low = none (ap (λ n. is_in n xs) (sym (eqb-true x k e)) ∙ new) in omega arith
    by_test false e new none ih = omega arith

not_in_part : (q : ℕ → Bool) (xs : List ℕ) (x : ℕ) → is_in x xs ≡ false → is_in x (those q xs) ≡ false
not_in_part q xs x e = ⊎_elim (λ t. not_both (is_in x xs) e (those_in q xs x t).0) (λ f. f) (cases_Bool (is_in x (those q xs)))

part_distinct : (q : ℕ → Bool) (xs : List ℕ) → Distinct xs → Distinct (those q xs)
part_distinct q [] d = tt
part_distinct q (x ∷ xs) d = by_test (q x) (not_in_part q xs x d.0) (part_distinct q xs d.1)
  where
    by_test : (b : Bool) → is_in x (those q xs) ≡ false → Distinct (those q xs) → Distinct (cond b (x ∷ those q xs) (those q xs))
    by_test true new ih = (new, ih)
    by_test false new ih = ih

-- distinct numbers below n are at most n
pub few : (n : ℕ) (xs : List ℕ) → Distinct xs → ((x : ℕ) → IsTrue (is_in x xs) → x < n) → length xs ≤ n
few zero [] d w = omega arith
few zero (x ∷ xs) d w = absurd (let h = w x (in_head x xs) in omega arith)
few (suc n) xs d w =
    let ih = few n (without n xs) (part_distinct _ xs d) (λ x m. below x (those_in (λ x. not (nat_eq x n)) xs x m)) in let one = without_one n xs d in omega arith
  where
    below : (x : ℕ) → IsTrue (is_in x xs) × IsTrue (not (nat_eq x n)) → x < n
    below x r = ⊎_elim (λ t. absurd (true≢false (sym r.1 ∙ not_from_true _ t))) (λ f. let h = w x r.0 in let ne = eqb-false x n f in omega arith) (cases_Bool (nat_eq x n))

module _ (p : Program) where
  next_reached : (f g : ℕ) → IsReached p f → IsCalledIn p (fulls_of_function p f) g → IsReached p g
  next_reached f g r h = inr (⊎_elim (λ e. directly g (subst (λ x. IsCalledIn p (fulls_of_function p x) g) e h)) (λ c. further f g c h) r)

  -- the functions of a chain of calls that ends at f: each comes to f, or is it
  abbrev pub LeadTo : ℕ → List ℕ → Type 0
  LeadTo f path = (x : ℕ) → IsTrue (is_in x path) → (x ≡ f) ⊎ Reaches p x f

  pub record IsPath (f : ℕ) (path : List ℕ) : Type 0 where
    pub reached : IsReached p f
    pub distinct : Distinct path
    pub within : (x : ℕ) → IsTrue (is_in x path) → x < length p.functions
    pub lead : LeadTo f path

  module _ (none : IsFirstRecursion p None) where
    new_function : (f g : ℕ) (path : List ℕ) → IsPath f path → IsCalledIn p (fulls_of_function p f) g → is_in g path ≡ false
    new_function f g path is h =
        ⊎_elim
        (λ t. absurd (none g (record {
          reached = next_reached f g is.reached h;
          cycle = ⊎_elim (λ e. directly g (subst (λ x. IsCalledIn p (fulls_of_function p x) g) (sym e) h)) (λ r. further f g r h) (is.lead g t);
        })))
        (λ f. f)
        (cases_Bool (is_in g path))

    next_path : (f g : ℕ) (path : List ℕ) → IsPath f path → IsCalledIn p (fulls_of_function p f) g → IsPath g (g ∷ path)
    next_path f g path is h = record {
      reached = next_reached f g is.reached h;
      distinct = (new_function f g path is h, is.distinct);
      within = λ x m. ⊎_elim (λ e. subst (λ n. n < length p.functions) (sym e) h.0) (is.within x) (in_cons x g path m);
      lead = λ x m. ⊎_elim inl (λ n. inr (⊎_elim (λ e. directly g (subst (λ y. IsCalledIn p (fulls_of_function p y) g) (sym e) h)) (λ r. further f g r h) (is.lead x n))) (in_cons x g path m);
    }

    pub chain_is_short : (f : ℕ) (path gs : List ℕ) → IsPath f path → IsChainFrom p f gs → length path + length gs ≤ length p.functions
    chain_is_short f path [] is h = let l = few (length p.functions) path is.distinct is.within in omega arith
    chain_is_short f path (g ∷ gs) is h = let l = chain_is_short g (g ∷ path) gs (next_path f g path is h.0) h.1 in omega arith

    pub main_path : p.main < length p.functions → IsPath p.main (p.main ∷ [])
    main_path inside = record {
      reached = inl refl;
      distinct = (refl, tt);
      within = λ x m. ⊎_elim (λ e. subst (λ n. n < length p.functions) (sym e) inside) (λ n. absurd (true≢false (sym n))) (in_cons x p.main [] m);
      lead = λ x m. ⊎_elim inl (λ n. absurd (true≢false (sym n))) (in_cons x p.main [] m);
    }

    -- whatever a meaning gives to calls that are too deep
    module _ (M : Meaning) (deep : M.Done) where
      abbrev pub Other : Meaning
      Other = record M { deep = deep }

      same_callee : (m n : ℕ) (site : Site) (o : Option Function) (vs : List (M.Value × IntType)) → ((fn : Function) → o ≡ Some fn → run_in p M m fn ≡ run_in p Other n fn) → call_of p M (run_in p M m) site o vs ≡ call_of p M (run_in p Other n) site o vs
      same_callee m n site None vs h = refl
      same_callee m n site (Some fn) vs h = ap (λ k. call_of p M (λ _. k) site (Some fn) vs) (h fn refl)

      below : (m n f : ℕ) (path : List ℕ) (fn : Function) → slice_get p.functions f ≡ Some fn → IsPath f path → length p.functions < m + length path → length p.functions < n + length path → run_in p M m fn ≡ run_in p Other n fn
      below zero n f path fn at is a b = absurd (let l = few (length p.functions) path is.distinct is.within in omega arith)
      below (suc m) zero f path fn at is a b = absurd (let l = few (length p.functions) path is.distinct is.within in omega arith)
      below (suc m) (suc n) f path fn at is a b =
          same_body p M (λ site g vs. call_of p M (run_in p M m) site (slice_get p.functions g) vs) (λ site g vs. call_of p M (run_in p Other n) site (slice_get p.functions g) vs) fn.result fn.body
          (λ g h site vs. same_callee m n site (slice_get p.functions g) vs (λ gn at_g. let called : IsCalledIn p (fulls_of_function p f) g = (slice_get_within p.functions g gn at_g, ap (λ o. some_of (some_node (calls g)) (fulls_if o)) at ∙ h) in below m n g (g ∷ path) gn at_g (next_path f g path is called) (omega arith) (omega arith)))

      same_main : (m n : ℕ) (o : Option Function) → slice_get p.functions p.main ≡ o → length p.functions < m → length p.functions < n → run_if p M m o ≡ run_if p Other n o
      same_main m n None at a b = refl
      same_main m n (Some fn) at a b = below m n p.main (p.main ∷ []) fn at (main_path (slice_get_within p.functions p.main fn at)) (omega arith) (omega arith)

      pub depth_is_free : (m n : ℕ) → length p.functions < m → length p.functions < n → run_main p M m ≡ run_main p Other n
      depth_is_free m n a b = same_main m n (slice_get p.functions p.main) refl a b
