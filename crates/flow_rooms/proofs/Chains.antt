-- Where main reaches no cycle of calls, the functions of a chain of calls are distinct: so they are few, and the code of all of them stands in
-- the program's.
use Rattle.std.proofs.Common.{◌≡◌, ◌⊎◌, ◌≤◌, ◌<◌, IsTrue, ℕ, zero, suc, ◌+◌, Bool, false, nat_eq, List, [], ◌∷◌, length, Option, Some, None, slice_get, refl, sym, ap, ap₂, ◌∙◌, subst, inl, inr, ⊎_elim, arith, true≢false, eqb-true, eq-eqb, length-append}
use Rattle.std.proofs.lemmas.Bool.{cases_Bool, or_left, or_right, or_cases, or_parts}
use Rattle.std.proofs.lemmas.Option.{slice_get_within}
use Rattle.c_core.specs.Program.{is_main}
use Rattle.c_core.specs.Tree.{Function, Program}
use Rattle.c_meaning.specs.Parts.{some_of, some_node, is_in, calls, fulls_of, fulls_if, fulls_of_function}
use Rattle.c_calls.specs.Calling.{IsFirstRecursion, IsReached, Reaches, directly, further}
use Rattle.c_calls.specs.Calling as calling
use Rattle.c_calls.specs.Depth.{IsChainFrom}
use Rattle.c_calls.proofs.DepthLaws.{Distinct, IsPath, chain_is_short, main_path}
use Rattle.flow_code.specs.declared.code.Action.TheVariants.{Call}
use Rattle.flow_code.specs.declared.code.Code.{Code}
use Rattle.flow_code.specs.Preparing.{op}
use Rattle.flow_code.specs.Programs.{function_code, functions_code, IsCodeOf}
use Rattle.flow_rooms.specs.Rooms.{length_of_code, length_of_codes, IsCalledIn, CallsOn, IsChain, IsBounded}
use Rattle.flow_rooms.proofs.Called.{only_at, function_only}
use Rattle.flow_rooms.proofs.Functions.{function_size}

not_both : {A : Type 0} → (b : Bool) → b ≡ false → IsTrue b → A
not_both b f t = absurd (true≢false (sym t ∙ f))

in_head : (x : ℕ) (xs : List ℕ) → IsTrue (is_in x (x ∷ xs))
in_head x xs = or_left (nat_eq x x) (is_in x xs) (eq-eqb x x refl)

in_tail : (x y : ℕ) (xs : List ℕ) → IsTrue (is_in x xs) → IsTrue (is_in x (y ∷ xs))
in_tail x y xs m = or_right (nat_eq x y) (is_in x xs) m

in_cons : (x y : ℕ) (xs : List ℕ) → IsTrue (is_in x (y ∷ xs)) → (x ≡ y) ⊎ IsTrue (is_in x xs)
in_cons x y xs m = ⊎_elim (λ e. inl (eqb-true x y e)) inr (or_cases (nat_eq x y) (is_in x xs) m)

-- the numbers behind the first, counted from there
behind_first : List ℕ → List ℕ
behind_first [] = []
behind_first (zero ∷ xs) = behind_first xs
behind_first (suc x ∷ xs) = x ∷ behind_first xs

in_behind : (x : ℕ) (xs : List ℕ) → IsTrue (is_in x (behind_first xs)) → IsTrue (is_in (suc x) xs)
unfolding behind_first
in_behind x [] m = absurd (true≢false (sym m))
in_behind x (zero ∷ xs) m = in_tail (suc x) zero xs (in_behind x xs m)
in_behind x (suc y ∷ xs) m =
    ⊎_elim (λ e. subst (λ n. IsTrue (is_in (suc x) (suc n ∷ xs))) e (in_head (suc x) xs)) (λ n. in_tail (suc x) (suc y) xs (in_behind x xs n)) (in_cons x y (behind_first xs) m)

behind_distinct : (xs : List ℕ) → Distinct xs → Distinct (behind_first xs)
unfolding behind_first
behind_distinct [] d = tt
behind_distinct (zero ∷ xs) d = behind_distinct xs d.1
behind_distinct (suc x ∷ xs) d =
    (⊎_elim (λ t. not_both (is_in (suc x) xs) d.0 (in_behind x xs t)) (λ f. f) (cases_Bool (is_in x (behind_first xs))), behind_distinct xs d.1)

add_below : (a b c : ℕ) → b ≤ c → a + b ≤ a + c
add_below a b c h = omega arith

add_beside : (a b c n : ℕ) → b ≤ n + c → a + b ≤ n + (a + c)
add_beside a b c n h = omega arith

below_both : (a b c n : ℕ) → a ≤ n + b → b ≤ c → a ≤ n + c
below_both a b c n h g = omega arith

module _ (p : Program) where
  -- the length of the code of some of these functions, by their numbers
  abbrev codes : List Function → List ℕ → ℕ
  codes gs [] = 0
  codes gs (x ∷ xs) = length_of_code p (slice_get gs x) + codes gs xs

  -- of all of them
  abbrev all_codes : List Function → ℕ
  all_codes [] = 0
  all_codes (g ∷ gs) = length (function_code p 0 g) + all_codes gs

  codes_are : (xs : List ℕ) → length_of_codes p xs ≡ codes p.functions xs
  codes_are [] = refl
  codes_are (x ∷ xs) = ap (λ n. length_of_code p (slice_get p.functions x) + n) (codes_are xs)

  all_codes_are : (i : ℕ) (gs : List Function) → length (functions_code p i gs) ≡ all_codes gs
  all_codes_are i [] = refl
  all_codes_are i (g ∷ gs) =
      let j = i + length (function_code p i g) in
      length-append (function_code p i g) (functions_code p j gs) ∙ ap₂ ◌+◌ (function_size p i g) (all_codes_are j gs)

  none_first : (g : Function) (gs : List Function) (xs : List ℕ) → is_in 0 xs ≡ false → codes (g ∷ gs) xs ≤ codes gs (behind_first xs)
  unfolding behind_first
  none_first g gs [] e = omega arith
  none_first g gs (zero ∷ xs) e = not_both (is_in 0 (0 ∷ xs)) e (in_head 0 xs)
  none_first g gs (suc x ∷ xs) e =
      let r = or_parts (nat_eq 0 (suc x)) (is_in 0 xs) e in
      add_below (length_of_code p (slice_get gs x)) (codes (g ∷ gs) xs) (codes gs (behind_first xs)) (none_first g gs xs r.1)

  first_once : (g : Function) (gs : List Function) (xs : List ℕ) → Distinct xs → codes (g ∷ gs) xs ≤ length (function_code p 0 g) + codes gs (behind_first xs)
  unfolding behind_first
  first_once g gs [] d = omega arith
  first_once g gs (zero ∷ xs) d = add_below (length (function_code p 0 g)) (codes (g ∷ gs) xs) (codes gs (behind_first xs)) (none_first g gs xs d.0)
  first_once g gs (suc x ∷ xs) d =
      add_beside (length_of_code p (slice_get gs x)) (codes (g ∷ gs) xs) (codes gs (behind_first xs)) (length (function_code p 0 g)) (first_once g gs xs d.1)

  no_codes : (xs : List ℕ) → codes [] xs ≤ 0
  no_codes [] = omega arith
  no_codes (x ∷ xs) = add_below 0 (codes [] xs) 0 (no_codes xs)

  -- the code of distinct functions is no longer than that of all
  codes_few : (gs : List Function) (xs : List ℕ) → Distinct xs → codes gs xs ≤ all_codes gs
  codes_few [] xs d = no_codes xs
  codes_few (g ∷ gs) xs d =
      below_both (codes (g ∷ gs) xs) (codes gs (behind_first xs)) (all_codes gs) (length (function_code p 0 g)) (first_once g gs xs d) (codes_few gs (behind_first xs) (behind_distinct xs d))

  pub distinct_codes : (xs : List ℕ) → Distinct xs → length_of_codes p xs ≤ length (functions_code p 1 p.functions)
  distinct_codes xs d =
      let a = codes_few p.functions xs d in
      let e = codes_are xs in
      let f = all_codes_are 1 p.functions in
      omega (arith, a, e, f)

  -- a call in the code of a function stands in its tree
  call_stands : (f g : ℕ) → IsCalledIn p f g → calling.IsCalledIn p (fulls_of_function p f) g
  call_stands f g c =
      let Q = λ (x : ℕ). (x < length p.functions) × IsTrue (some_of (some_node (calls x)) (fulls_of c.function.body)) in
      let r : Q g = only_at Q (function_code p c.start c.function) (function_only Q p c.start c.function (λ x l e. (l, e))) c.place (op c.steps (Call g c.arguments c.site)) c.operation in
      (r.0, ap (λ o. some_of (some_node (calls g)) (fulls_if o)) c.found ∙ r.1)

  chain_stands : (f : ℕ) (gs : List ℕ) → CallsOn p f gs → IsChainFrom p f gs
  chain_stands f [] h = tt
  chain_stands f (g ∷ gs) h = (call_stands f g h.0, chain_stands g gs h.1)

  next_reached : (f g : ℕ) → IsReached p f → calling.IsCalledIn p (fulls_of_function p f) g → IsReached p g
  next_reached f g r h = inr (⊎_elim (λ e. directly g (subst (λ x. calling.IsCalledIn p (fulls_of_function p x) g) e h)) (λ c. further f g c h) r)

  -- what comes to f, or is f, comes to what f calls
  next_lead : (x f g : ℕ) → calling.IsCalledIn p (fulls_of_function p f) g → (x ≡ f) ⊎ Reaches p x f → Reaches p x g
  next_lead x f g h l = ⊎_elim (λ e. directly g (subst (λ y. calling.IsCalledIn p (fulls_of_function p y) g) (sym e) h)) (λ r. further f g r h) l

  module _ (none : IsFirstRecursion p None) where
    new_function : (f g : ℕ) (path : List ℕ) → IsPath p f path → calling.IsCalledIn p (fulls_of_function p f) g → is_in g path ≡ false
    new_function f g path is h =
        ⊎_elim (λ t. absurd (none g (record { reached = next_reached f g is.reached h; cycle = next_lead g f g h (is.lead g t) }))) (λ e. e) (cases_Bool (is_in g path))

    next_path : (f g : ℕ) (path : List ℕ) → IsPath p f path → calling.IsCalledIn p (fulls_of_function p f) g → IsPath p g (g ∷ path)
    next_path f g path is h = record {
      reached = next_reached f g is.reached h;
      distinct = (new_function f g path is h, is.distinct);
      within = λ x m. ⊎_elim (λ e. subst (λ n. n < length p.functions) (sym e) h.0) (is.within x) (in_cons x g path m);
      lead = λ x m. ⊎_elim inl (λ n. inr (next_lead x f g h (is.lead x n))) (in_cons x g path m);
    }

    -- the functions of a path and of a chain that goes on from its last one are distinct
    codes_bounded : (f : ℕ) (path gs : List ℕ) → IsPath p f path → IsChainFrom p f gs → length_of_codes p path + length_of_codes p gs ≤ length (functions_code p 1 p.functions)
    codes_bounded f path [] is h = let l = distinct_codes path is.distinct in omega (arith, l)
    codes_bounded f path (g ∷ gs) is h =
        moved (length_of_code p (slice_get p.functions g)) (length_of_codes p path) (length_of_codes p gs) (length (functions_code p 1 p.functions)) (codes_bounded g (g ∷ path) gs (next_path f g path is h.0) h.1)
      where
        moved : (a b c n : ℕ) → (a + b) + c ≤ n → b + (a + c) ≤ n
        moved a b c n h = omega arith

    module _ (inside : p.main < length p.functions) where
      count_bounded : (fs : List ℕ) → IsChain p fs → length fs ≤ length p.functions
      count_bounded [] h = absurd h
      count_bounded (f ∷ gs) h =
          let l = chain_is_short p none p.main (p.main ∷ []) gs (main_path p none inside) (chain_stands p.main gs (subst (λ x. CallsOn p x gs) h.0 h.1)) in
          omega (arith, l)

      chain_codes : (fs : List ℕ) → IsChain p fs → length_of_codes p fs ≤ length (functions_code p 1 p.functions)
      chain_codes [] h = absurd h
      chain_codes (f ∷ gs) h =
          let l = codes_bounded p.main (p.main ∷ []) gs (main_path p none inside) (chain_stands p.main gs (subst (λ x. CallsOn p x gs) h.0 h.1)) in
          subst (λ x. length_of_codes p (x ∷ gs) ≤ length (functions_code p 1 p.functions)) (sym h.0)
          (alone (length_of_code p (slice_get p.functions p.main)) (length_of_codes p gs) (length (functions_code p 1 p.functions)) l)
        where
          alone : (a b n : ℕ) → (a + 0) + b ≤ n → a + b ≤ n
          alone a b n h = omega arith

main_within : (p : Program) (o : Option Function) → slice_get p.functions p.main ≡ o → IsTrue (is_main o) → p.main < length p.functions
main_within p None at h = absurd (true≢false (sym h))
main_within p (Some f) at h = slice_get_within p.functions p.main f at

-- chains of calls are bounded
pub chains_bounded : (p : Program) (c : Code) → IsCodeOf p c → IsFirstRecursion p None → IsBounded p c
chains_bounded p c code none =
    let inside = main_within p (slice_get p.functions p.main) refl code.checked.main in
    let ops : length c.ops ≡ suc (length (functions_code p 1 p.functions)) = ap length code.ops in
    record {
      count = λ fs h. count_bounded p none inside fs h;
      code = λ fs h. let l = chain_codes p none inside fs h in omega (arith, ops, l);
    }
