-- No two obligations of a checked program are the same.
use Rattle.std.proofs.Common.{◌≡◌, ◌≤◌, ◌⊎◌, inl, inr, ℕ, zero, suc, Bool, true, false, cond, ◌&&◌, ◌||◌, nat_eq, nat_lt, List, [], ◌∷◌, ◌++◌, map, Option, Some, None, slice_get, refl, sym, ap, ◌∙◌, subst, arith}
use Rattle.std.specs.List.{Contains, flat_map, list_all}
use Rattle.std.proofs.lemmas.Bool.Decides.{nat_tests}
use Rattle.std.proofs.lemmas.List.{map-append}
use Rattle.std.proofs.lemmas.List.Elements.{Contains-append_cases, Contains-append_right}
use Rattle.std.proofs.lemmas.List.Sorted.{Contains-permutation, IsPermutation-sym}
use Rattle.c_core.specs.Operators.{is_prefix}
use Rattle.c_core.specs.Parts.{same_spot, spot_of, exps_in, exp_if, fulls_of_init, fulls_of_names, fulls_of_first}
use Rattle.c_core.specs.Program.{IsProgram}
use Rattle.c_core.specs.TextOrder.{is_before, is_before_first, rises, whole, spots_of, spots_of_arguments, spots_if, spots_of_init, spots_of_declarators, spots_of_first, spots_of_statement, spots_of_form, spots_of_else, spots_of_block, spots_of_functions}
use Rattle.c_core.specs.Tree.{Exp, Expr, Const, Var, Index, Unary, Cast, Step, Binary, Logic, Choose, Comma, Assign, Call, Exps, NoExp, MoreExp, Init, Absent, One, Many, Rows, Names, NoName, MoreName, First, NoFirst, FirstExp, FirstNames, Stm, Stmt, Form, Empty, Do, Declare, Block, If, While, DoWhile, For, Break, Continue, Return, Label, Switch, Else, NoElse, OrElse, Stms, NoStm, MoreStm, MoreCase, Function, Program}
use Rattle.c_core.specs.declared.number.Spot.{Spot}
use Rattle.c_core.proofs.TextOrderLaws.{left, right, IsPart, ends, skips, takes, part_none, part_append, part_front, before_all, rises-part}
use Rattle.c_meaning.specs.declared.run.DutyKind.TheVariants.{Location, Entry, Kept, Property}
use Rattle.c_meaning.specs.declared.run.Duty.{Duty}
use Rattle.c_meaning.specs.Parts.{some_node, fulls_of, fulls_of_form, fulls_of_else, fulls_of_block}
use Rattle.c_meaning.specs.Duties.{Placed, Duties, duty, may_violate, property_duties, function_duties, invariant_duties, is_less, inserted, sorted}
use Rattle.c_duties.specs.Ordered.{AllDiffer, unsorted}
use Rattle.c_duties.proofs.Safe.{same_place}
use Rattle.c_duties.proofs.Stable.{inserted_moves, sorted_moves}
use Rattle.c_duties.proofs.Walked.{property_duties_both}

-- each differs from those behind it
abbrev pub Differ : List Duty → Type 0
Differ [] = Unit {0}
Differ (d ∷ ds) = (Contains ds d → ⊥) × Differ ds

pub differ_both : (xs ys : List Duty) → Differ xs → Differ ys → ((d : Duty) → Contains xs d → Contains ys d → ⊥) → Differ (xs ++ ys)
differ_both [] ys h g f = g
differ_both (x ∷ xs) ys h g f = (λ c. by (Contains-append_cases xs ys x c), differ_both xs ys h.1 g (λ d a b. f d (Contains-append_right (x ∷ []) xs d a) b))
  where
    by : Contains xs x ⊎ Contains ys x → ⊥
    by (inl c) = h.0 c
    by (inr c) = f x (0, omega arith, refl) c

only : (x d : Duty) → Contains (x ∷ []) d → x ≡ d
only x d (zero, l, e) = e
only x d (suc k, l, e) = absurd (omega arith)

differ_inserted : (d : Duty) (xs : List Duty) → Differ (d ∷ xs) → Differ (inserted d xs)
differ_inserted d [] h = h
differ_inserted d (x ∷ xs) h = by (is_less x d) (differ_inserted d xs (λ c. h.0 (Contains-append_right (x ∷ []) xs d c), h.1.1))
  where
    apart : Contains (d ∷ []) x ⊎ Contains xs x → ⊥
    apart (inl c) = h.0 (0, omega arith, sym (only d x c))
    apart (inr c) = h.1.0 c

    by : (b : Bool) → Differ (inserted d xs) → Differ (cond b (x ∷ inserted d xs) (d ∷ x ∷ xs))
    by true g = (λ c. apart (Contains-append_cases (d ∷ []) xs x (Contains-permutation (inserted d xs) (d ∷ xs) x (IsPermutation-sym (d ∷ xs) (inserted d xs) (inserted_moves d xs)) c)), g)
    by false g = h

pub differ_sorted : (ds : List Duty) → Differ ds → Differ (sorted ds)
differ_sorted [] h = tt
differ_sorted (d ∷ ds) h = differ_inserted d (sorted ds) (λ c. h.0 (Contains-permutation (sorted ds) ds d (IsPermutation-sym ds (sorted ds) (sorted_moves ds)) c), differ_sorted ds h.1)

found : (xs : List Duty) (k : ℕ) (d : Duty) → slice_get xs k ≡ Some d → Contains xs d
found [] k d e = absurd (cc)
found (x ∷ xs) zero d e = (0, omega arith, (cc))
found (x ∷ xs) (suc k) d e = Contains-append_right (x ∷ []) xs d (found xs k d e)

pub by_index : (ds : List Duty) → Differ ds → AllDiffer ds
by_index [] h j k d a b = absurd (cc)
by_index (x ∷ xs) h zero zero d a b = refl
by_index (x ∷ xs) h zero (suc k) d a b = let same : x ≡ d = cc in absurd (h.0 (subst (Contains xs) (sym same) (found xs k d b)))
by_index (x ∷ xs) h (suc j) zero d a b = let same : x ≡ d = cc in absurd (h.0 (subst (Contains xs) (sym same) (found xs j d a)))
by_index (x ∷ xs) h (suc j) (suc k) d a b = ap suc (by_index xs h.1 j k d a b)

-- ---- invariants, each with its number

abbrev of_one : Bool → Spot → ℕ → List Duty
of_one b spot i = cond b (duty spot Entry (Some i) ∷ duty spot Kept (Some i) ∷ []) (duty spot Location (Some i) ∷ [])

own_number : (b : Bool) (spot : Spot) (i : ℕ) (d : Duty) → Contains (of_one b spot i) d → d.invariant ≡ Some i
own_number true spot i d (zero, l, e) = sym (ap (λ (x : Duty). x.invariant) e)
own_number true spot i d (suc zero, l, e) = sym (ap (λ (x : Duty). x.invariant) e)
own_number true spot i d (suc (suc k), l, e) = absurd (omega arith)
own_number false spot i d (zero, l, e) = sym (ap (λ (x : Duty). x.invariant) e)
own_number false spot i d (suc k, l, e) = absurd (omega arith)

own_differ : (b : Bool) (spot : Spot) (i : ℕ) → Differ (of_one b spot i)
own_differ true spot i = (λ c. other (only (duty spot Kept (Some i)) (duty spot Entry (Some i)) c), (λ c. let l = c.1 in absurd (omega arith), tt))
  where
    other : duty spot Kept (Some i) ≡ duty spot Entry (Some i) → ⊥
    other e = let k : Kept ≡ Entry = ap (λ (x : Duty). x.kind) e in cc
own_differ false spot i = (λ c. let l = c.1 in absurd (omega arith), tt)

-- the number of an invariant's duty
pub record HasNumber (i : ℕ) (d : Duty) : Type 0 where
  pub number : ℕ
  pub from : i ≤ number
  pub is : d.invariant ≡ Some number

numbered : (i : ℕ) (xs : List Placed) (d : Duty) → Contains (invariant_duties i xs) d → HasNumber i d
numbered i [] d c = let l = c.1 in absurd (omega arith)
numbered i (x ∷ xs) d c = by (Contains-append_cases (of_one x.at_loop x.spot i) (invariant_duties (suc i) xs) d c) (numbered (suc i) xs d)
  where
    by : Contains (of_one x.at_loop x.spot i) d ⊎ Contains (invariant_duties (suc i) xs) d → (Contains (invariant_duties (suc i) xs) d → HasNumber (suc i) d) → HasNumber i d
    by (inl a) f = record { number = i; from = omega arith; is = own_number x.at_loop x.spot i d a }
    by (inr a) f = let h = f a in record { number = h.number; from = let l = h.from in omega arith; is = h.is }

differ_invariants : (i : ℕ) (xs : List Placed) → Differ (invariant_duties i xs)
differ_invariants i [] = tt
differ_invariants i (x ∷ xs) = differ_both (of_one x.at_loop x.spot i) (invariant_duties (suc i) xs) (own_differ x.at_loop x.spot i) (differ_invariants (suc i) xs) (λ d a b. apart d (own_number x.at_loop x.spot i d a) (numbered (suc i) xs d b))
  where
    apart : (d : Duty) → d.invariant ≡ Some i → HasNumber (suc i) d → ⊥
    apart d e h =
        let same : i ≡ h.number = cc in
        let l = h.from in
        omega arith

-- ---- full expressions, each at its place

abbrev spots : List Duty → List Spot
spots ds = map (λ d. d.spot) ds

not_before_itself : (a : Spot) → is_before a a ≡ true → ⊥
not_before_itself a h = by (nat_lt a.line a.line) (nat_lt a.column a.column) (nat_eq a.line a.line) (grind (arith, nat_tests)) (grind (arith, nat_tests)) h
  where
    by : (l c e : Bool) → l ≡ false → c ≡ false → l || (e && c) ≡ true → ⊥
    by true c e p q r = cc
    by false true e p q r = cc
    by false false true p q r = cc
    by false false false p q r = cc

-- what holds of every place
of_each : (q : Spot → Bool) (ds : List Duty) (d : Duty) → list_all q (spots ds) ≡ true → Contains ds d → q d.spot ≡ true
of_each q [] d h c = let l = c.1 in absurd (omega arith)
of_each q (x ∷ xs) d h c = by (Contains-append_cases (x ∷ []) xs d c) (of_each q xs d (right (q x.spot) (list_all q (spots xs)) h))
  where
    by : Contains (x ∷ []) d ⊎ Contains xs d → (Contains xs d → q d.spot ≡ true) → q d.spot ≡ true
    by (inl a) f = subst (λ (y : Duty). q y.spot ≡ true) (only x d a) (left (q x.spot) (list_all q (spots xs)) h)
    by (inr a) f = f a

differ_rising : (ds : List Duty) → rises (spots ds) ≡ true → Differ ds
differ_rising [] h = tt
differ_rising (d ∷ ds) h = (λ c. not_before_itself d.spot (of_each (is_before d.spot) ds d (before_all d.spot (spots ds) h) c), differ_rising ds (right (is_before_first d.spot (spots ds)) (rises (spots ds)) h))

whole_first : (b : Bool) (a f : Spot) (xs ss : List Spot) → IsPart xs (f ∷ ss) → IsPart xs (cond b (f ∷ ss) (a ∷ f ∷ ss))
whole_first true a f xs ss h = h
whole_first false a f xs ss h = skips a xs (f ∷ ss) h

-- what is part of the first part is part of the whole
whole_part : (a : Spot) (xs ss : List Spot) → IsPart xs ss → IsPart xs (whole a ss)
whole_part a xs [] h = skips a xs [] h
whole_part a xs (f ∷ ss) h = whole_first (same_spot a f) a f xs ss h

head_by : (b : Bool) (a f : Spot) (ss : List Spot) → same_spot a f ≡ b → IsPart (a ∷ []) (cond b (f ∷ ss) (a ∷ f ∷ ss))
head_by true a f ss e = subst (λ (s : Spot). IsPart (s ∷ []) (f ∷ ss)) (sym (same_place a f e)) (takes f [] ss (part_none ss))
head_by false a f ss e = takes a [] (f ∷ ss) (part_none (f ∷ ss))

head_of_whole : (a : Spot) (ss : List Spot) → IsPart (a ∷ []) (whole a ss)
head_of_whole a [] = takes a [] [] ends
head_of_whole a (f ∷ ss) = head_by (same_spot a f) a f ss refl

head_of_step : (b : Bool) (a : Spot) (ss : List Spot) → IsPart (a ∷ []) (cond b (a ∷ ss) (whole a ss))
head_of_step true a ss = takes a [] ss (part_none ss)
head_of_step false a ss = head_of_whole a ss

-- the start of an expression is among its places
start_in : (e : Exp) → IsPart (spot_of e ∷ []) (spots_of e)
start_in (Expr spot ty (Const v)) = takes spot [] [] ends
start_in (Expr spot ty (Var o)) = takes spot [] [] ends
start_in (Expr spot ty (Index o is)) = takes spot [] _ (part_none _)
start_in (Expr spot ty (Unary op a)) = takes spot [] _ (part_none _)
start_in (Expr spot ty (Cast a)) = takes spot [] _ (part_none _)
start_in (Expr spot ty (Step op a)) = head_of_step (is_prefix op) spot (spots_of a)
start_in (Expr spot ty (Binary op a b)) = part_front _ _ (spots_of b) (head_of_whole spot (spots_of a))
start_in (Expr spot ty (Logic both a b)) = part_front _ _ (spots_of b) (head_of_whole spot (spots_of a))
start_in (Expr spot ty (Choose mark e a b)) = part_front _ _ (spots_of b) (part_front _ _ (mark ∷ spots_of a) (head_of_whole spot (spots_of e)))
start_in (Expr spot ty (Comma a b)) = part_front _ _ (spots_of b) (head_of_whole spot (spots_of a))
start_in (Expr spot ty (Assign op a b)) = part_front _ _ (spots_of b) (head_of_whole spot (spots_of a))
start_in (Expr spot ty (Call callee es close)) = takes spot [] _ (part_none _)

module _ (p : Program) where
  -- the places of the duties of full expressions
  abbrev at : List Exp → List Spot
  at es = spots (property_duties p es)

  abbrev InOrder : List Exp → List Spot → Type 0
  InOrder es ss = IsPart (at es) ss

  both_in : (xs ys : List Exp) (ss ts : List Spot) → InOrder xs ss → InOrder ys ts → InOrder (xs ++ ys) (ss ++ ts)
  both_in xs ys ss ts a b =
      subst (λ (l : List Spot). IsPart l (ss ++ ts)) (sym (ap spots (property_duties_both p xs ys) ∙ map-append (λ d. d.spot) (property_duties p xs) (property_duties p ys))) (part_append (at xs) ss (at ys) ts a b)

  one_in : (e : Exp) → InOrder (e ∷ []) (spots_of e)
  one_in e = by (some_node (may_violate p.property p.model) e)
    where
      by : (b : Bool) → IsPart (spots (cond b (duty (spot_of e) Property None ∷ []) [] ++ [])) (spots_of e)
      by true = start_in e
      by false = part_none (spots_of e)

  if_in : (e : Option Exp) → InOrder (exp_if e) (spots_if e)
  if_in None = ends
  if_in (Some e) = one_in e

  list_in : (es : Exps) → InOrder (exps_in es) (spots_of_arguments es)
  list_in NoExp = ends
  list_in (MoreExp e es) = both_in (e ∷ []) (exps_in es) _ _ (one_in e) (list_in es)

  rows_in : (rows : List Exps) → InOrder (flat_map exps_in rows) (flat_map spots_of_arguments rows)
  rows_in [] = ends
  rows_in (es ∷ rows) = both_in (exps_in es) (flat_map exps_in rows) _ _ (list_in es) (rows_in rows)

  init_in : (i : Init) → InOrder (fulls_of_init i) (spots_of_init i)
  init_in Absent = ends
  init_in (One e) = one_in e
  init_in (Many es) = list_in es
  init_in (Rows rows) = rows_in rows

  names_in : (ns : Names) → InOrder (fulls_of_names ns) (spots_of_declarators ns)
  names_in NoName = ends
  names_in (MoreName spot o i ns) = both_in (fulls_of_init i) (fulls_of_names ns) (spot ∷ spots_of_init i) _ (skips spot _ _ (init_in i)) (names_in ns)

  first_in : (i : First) → InOrder (fulls_of_first i) (spots_of_first i)
  first_in NoFirst = ends
  first_in (FirstExp e) = one_in e
  first_in (FirstNames ns) = names_in ns

  mutual
    statement_in : (s : Stm) → InOrder (fulls_of s) (spots_of_statement s)
    statement_in (Stmt spot f) = form_in spot f

    form_in : (spot : Spot) (f : Form) → InOrder (fulls_of_form f) (spots_of_form spot f)
    form_in spot Empty = part_none _
    form_in spot (Do e) = whole_part spot _ _ (one_in e)
    form_in spot (Declare ns) = skips spot _ _ (names_in ns)
    form_in spot (Block b) = skips spot _ _ (block_in b)
    form_in spot (If e a b) =
        both_in (e ∷ fulls_of a) (fulls_of_else b) ((spot ∷ spots_of e) ++ spots_of_statement a) _
        (both_in (e ∷ []) (fulls_of a) (spot ∷ spots_of e) _ (skips spot _ _ (one_in e)) (statement_in a)) (else_in b)
    form_in spot (While e b) = both_in (e ∷ []) (fulls_of b) (spot ∷ spots_of e) _ (skips spot _ _ (one_in e)) (statement_in b)
    form_in spot (DoWhile b e) = both_in (fulls_of b) (e ∷ []) (spot ∷ spots_of_statement b) _ (skips spot _ _ (statement_in b)) (one_in e)
    form_in spot (For i e s b) =
        both_in (fulls_of_first i ++ exp_if e ++ exp_if s) (fulls_of b) (((spot ∷ spots_of_first i) ++ spots_if e) ++ spots_if s) _
        (both_in (fulls_of_first i ++ exp_if e) (exp_if s) ((spot ∷ spots_of_first i) ++ spots_if e) _
        (both_in (fulls_of_first i) (exp_if e) (spot ∷ spots_of_first i) _ (skips spot _ _ (first_in i)) (if_in e)) (if_in s)) (statement_in b)
    form_in spot Break = part_none _
    form_in spot Continue = part_none _
    form_in spot (Return e) = skips spot _ _ (if_in e)
    form_in spot (Label b) = skips spot _ _ (statement_in b)
    form_in spot (Switch e b) = both_in (e ∷ []) (fulls_of_block b) (spot ∷ spots_of e) _ (skips spot _ _ (one_in e)) (block_in b)

    else_in : (b : Else) → InOrder (fulls_of_else b) (spots_of_else b)
    else_in NoElse = ends
    else_in (OrElse b) = statement_in b

    block_in : (b : Stms) → InOrder (fulls_of_block b) (spots_of_block b)
    block_in NoStm = ends
    block_in (MoreStm s b) = both_in (fulls_of s) (fulls_of_block b) _ _ (statement_in s) (block_in b)
    block_in (MoreCase spot l b) = skips spot _ _ (block_in b)

  functions_in : (fs : List Function) → IsPart (spots (function_duties p fs)) (spots_of_functions fs)
  functions_in [] = ends
  functions_in (f ∷ fs) =
      subst (λ (l : List Spot). IsPart l (spots_of_functions (f ∷ fs))) (sym (map-append (λ d. d.spot) (property_duties p (fulls_of f.body)) (function_duties p fs)))
      (part_append (at (fulls_of f.body)) (spots_of_statement f.body) (spots (function_duties p fs)) (spots_of_functions fs) (statement_in f.body) (functions_in fs))

  -- no full expression's duty is an invariant's
  no_number : (es : List Exp) (d : Duty) → Contains (property_duties p es) d → d.invariant ≡ None
  no_number [] d c = let l = c.1 in absurd (omega arith)
  no_number (e ∷ es) d c =
      by (some_node (may_violate p.property p.model) e) (Contains-append_cases (cond (some_node (may_violate p.property p.model) e) (duty (spot_of e) Property None ∷ []) []) (property_duties p es) d c) (no_number es d)
    where
      by : (b : Bool) → Contains (cond b (duty (spot_of e) Property None ∷ []) []) d ⊎ Contains (property_duties p es) d → (Contains (property_duties p es) d → d.invariant ≡ None) → d.invariant ≡ None
      by true (inl a) f = sym (ap (λ (x : Duty). x.invariant) (only (duty (spot_of e) Property None) d a))
      by false (inl a) f = let l = a.1 in absurd (omega arith)
      by b (inr a) f = f a

  no_number_of : (fs : List Function) (d : Duty) → Contains (function_duties p fs) d → d.invariant ≡ None
  no_number_of [] d c = let l = c.1 in absurd (omega arith)
  no_number_of (f ∷ fs) d c = by (Contains-append_cases (property_duties p (fulls_of f.body)) (function_duties p fs) d c) (no_number_of fs d)
    where
      by : Contains (property_duties p (fulls_of f.body)) d ⊎ Contains (function_duties p fs) d → (Contains (function_duties p fs) d → d.invariant ≡ None) → d.invariant ≡ None
      by (inl a) g = no_number (fulls_of f.body) d a
      by (inr a) g = g a

  pub all_differ : IsProgram p → (I : List Placed) → AllDiffer (Duties p I)
  all_differ h I =
      by_index (Duties p I) (differ_sorted (unsorted p I)
      (differ_both (invariant_duties 0 I) (function_duties p p.functions) (differ_invariants 0 I)
      (differ_rising (function_duties p p.functions) (rises-part _ _ (functions_in p.functions) h.in_order))
      (λ d a b. apart d (numbered 0 I d a) (no_number_of p.functions d b))))
    where
      apart : (d : Duty) → HasNumber 0 d → d.invariant ≡ None → ⊥
      apart d n e = let f = n.is in cc
