-- The rounds of `called_from` find the functions that are called, and no others.
use Rattle.std.proofs.Common.{◌≡◌, ◌⊎◌, ℕ, zero, suc, ◌+◌, ◌<◌, ◌≤◌, Bool, ◌||◌, List, length, refl, sym, ap, ◌∙◌, subst, inl, inr, ⊎_elim, arith}
use Rattle.std.specs.Prelude.{IsTrue}
use Rattle.std.proofs.lemmas.Bool.{cases_lt, or_left, or_right, or_cases}
use Rattle.c_core.specs.Tree.{Exp, Program}
use Rattle.c_meaning.specs.Parts.{some_of, some_node, those, is_in, calls, fulls_of_function, function_numbers}
use Rattle.c_meaning.specs.Changed.{and_called, and_called_often, called_from}
use Rattle.c_calls.specs.Calling.{IsCalledFrom, directly, further, HasCalled}
use Rattle.c_calls.proofs.Listing.{some_from, some_member, those_in, in_those, those_again, those_stay, those_within, length_numbers, in_numbers, numbers_in}

module _ (p : Program) where
  -- a round picks these functions
  abbrev called_by_round : List ℕ → ℕ → Bool
  called_by_round fs f = is_in f fs || some_of (λ g. some_of (some_node (calls f)) (fulls_of_function p g)) fs

  abbrev starts : List Exp → ℕ → Bool
  starts es f = some_of (some_node (calls f)) es

  is_function : (f : ℕ) → f < length p.functions → IsTrue (is_in f (function_numbers p))
  is_function f h = in_numbers 0 (length p.functions) f (omega arith) (omega arith)

  function_is : (f : ℕ) → IsTrue (is_in f (function_numbers p)) → f < length p.functions
  function_is f m = let r = numbers_in 0 (length p.functions) f m in omega arith

  -- a round adds a function, or changes nothing
  round_grows : (q : ℕ → Bool) → (length (those q (function_numbers p)) < length (and_called p (those q (function_numbers p)))) ⊎ (and_called p (those q (function_numbers p)) ≡ those q (function_numbers p))
  round_grows q =
      let nums = function_numbers p in let fs = those q nums in
      ⊎_elim inl (λ l. inr (those_stay (λ f. is_in f fs) (called_by_round fs) nums (λ f m. or_left _ _ m) (subst (λ k. length (and_called p fs) ≤ length k) (sym (those_again q nums)) l) ∙ those_again q nums)) (cases_lt (length fs) (length (and_called p fs)))

  round_stays : (n : ℕ) (fs : List ℕ) → and_called p fs ≡ fs → and_called_often p n fs ≡ fs
  round_stays zero fs e = refl
  round_stays (suc n) fs e = ap (and_called_often p n) e ∙ round_stays n fs e

  -- what many rounds give is picked by a test
  picked : (n : ℕ) (q : ℕ → Bool) → (r : ℕ → Bool) × (and_called_often p n (those q (function_numbers p)) ≡ those r (function_numbers p))
  picked zero q = (q, refl)
  picked (suc n) q = picked n (called_by_round (those q (function_numbers p)))

  rounds_grow : (n : ℕ) (q : ℕ → Bool) → (n + length (those q (function_numbers p)) ≤ length (and_called_often p n (those q (function_numbers p)))) ⊎ (and_called p (and_called_often p n (those q (function_numbers p))) ≡ and_called_often p n (those q (function_numbers p)))
  rounds_grow zero q = inl (omega arith)
  rounds_grow (suc n) q =
      let fs = those q (function_numbers p) in
      ⊎_elim
      (λ l. ⊎_elim (λ k. inl (omega arith)) inr (rounds_grow n (called_by_round fs)))
      (λ e. inr (ap (λ x. and_called p (and_called_often p n x)) e ∙ ap (and_called p) (round_stays n fs e) ∙ e ∙ sym (round_stays n fs e) ∙ ap (and_called_often p n) (sym e)))
      (round_grows q)

  -- after as many rounds as there are functions nothing is added
  rounds_end : (q : ℕ → Bool) → and_called p (and_called_often p (length p.functions) (those q (function_numbers p))) ≡ and_called_often p (length p.functions) (those q (function_numbers p))
  rounds_end q =
      let r = picked (length p.functions) q in
      ⊎_elim
      (λ l. ⊎_elim
      (λ more. absurd (let few = those_within (called_by_round (those r.0 (function_numbers p))) (function_numbers p) in let all = length_numbers 0 (length p.functions) in let same = ap length r.1 in omega arith))
      (λ e. ap (and_called p) r.1 ∙ e ∙ sym r.1)
      (round_grows r.0))
      (λ e. e)
      (rounds_grow (length p.functions) q)

  kept : (n : ℕ) (fs : List ℕ) (f : ℕ) → f < length p.functions → IsTrue (is_in f fs) → IsTrue (is_in f (and_called_often p n fs))
  kept zero fs f h m = m
  kept (suc n) fs f h m = kept n (and_called p fs) f h (in_those (called_by_round fs) (function_numbers p) f (is_function f h) (or_left _ _ m))

  found : (es : List Exp) (f : ℕ) → IsCalledFrom p es f → IsTrue (is_in f (called_from p es))
  found es _ (directly f c) = kept (length p.functions) (those (starts es) (function_numbers p)) f c.0 (in_those (starts es) (function_numbers p) f (is_function f c.0) c.1)
  found es _ (further f g c d) =
      subst (λ fs. IsTrue (is_in g fs)) (rounds_end (starts es))
      (in_those (called_by_round (called_from p es)) (function_numbers p) g (is_function g d.0) (or_right (is_in g (called_from p es)) _ (some_from (λ h. some_of (some_node (calls g)) (fulls_of_function p h)) (called_from p es) f (found es f c) d.1)))

  called_once : (es : List Exp) (fs : List ℕ) → ((f : ℕ) → IsTrue (is_in f fs) → IsCalledFrom p es f) → (f : ℕ) → IsTrue (is_in f (and_called p fs)) → IsCalledFrom p es f
  called_once es fs h f m =
      let r = those_in (called_by_round fs) (function_numbers p) f m in
      ⊎_elim (h f) (λ s. let g = some_member (λ x. some_of (some_node (calls f)) (fulls_of_function p x)) fs s in further g.0 f (h g.0 g.1) (function_is f r.0, g.2)) (or_cases _ _ r.1)

  called_often : (es : List Exp) (n : ℕ) (fs : List ℕ) → ((f : ℕ) → IsTrue (is_in f fs) → IsCalledFrom p es f) → (f : ℕ) → IsTrue (is_in f (and_called_often p n fs)) → IsCalledFrom p es f
  called_often es zero fs h f m = h f m
  called_often es (suc n) fs h f m = called_often es n (and_called p fs) (called_once es fs h) f m

  pub all_called : (es : List Exp) → HasCalled p es (called_from p es)
  all_called es = record {
    members = λ f. (called_often es (length p.functions) (those (starts es) (function_numbers p)) (λ g m. let r = those_in (starts es) (function_numbers p) g m in directly g (function_is g r.0, r.1)) f, found es f);
  }
