-- Where the places of a demo's faulty program lie that its witness names.
use Rattle.std.proofs.Common.{◌≡◌, ◌<◌, ◌≤◌, ◌∙◌, ℕ, ◌+◌, ◌*◌, nat_eq, Bool, true, false, ◌&&◌, ◌||◌, cond, List, [], ◌∷◌, ◌++◌, length, map, Some, None, refl, ap, arith}
use Rattle.std.specs.List.{filter, find, flat_map, list_any}
use Rattle.std.proofs.lemmas.Bool.Decides.{nat_tests}
use Rattle.std.proofs.lemmas.List.Folds.{list_any-append}
use Rattle.c_core.specs.Parts.{exps_of, exps_of_program, fulls_of_program, own_fulls_of, same_spot, spot_of, statements_of_block}
use Rattle.c_core.specs.Places.{ends_at, is_named, leftmost, of_kind, places_of_block, spots_of_kind, starts_of_reach_error}
use Rattle.c_core.specs.Tree.{Exp, Stms}
use Rattle.c_core.specs.declared.number.Spot.{Spot}
use Rattle.c_core.specs.declared.place.PlaceKind.{PlaceKind}
use Rattle.c_core.specs.declared.place.PlaceKind.TheVariants as place
use Rattle.demo_laws.specs.Lines.{spot}
use Rattle.demo_laws.specs.Source.{declared_at, looped_at, tested_at, line_behind}
use Rattle.demo_run.specs.Typed.{error_call, faulty_rest, faulty_typed, loops}
use Rattle.way_bind.specs.Binding.{has_value, is_suitable, is_valued, place_named}

-- ---- lists

skipped : {A : Type 0} (test : A → Bool) (x : A) (xs : List A) → test x ≡ false → filter test (x ∷ xs) ≡ filter test xs
skipped test x xs e = ap (λ b. cond b (x ∷ filter test xs) (filter test xs)) e

passed_over : {A : Type 0} (test : A → Bool) (x : A) (xs : List A) → test x ≡ false → find test (x ∷ xs) ≡ find test xs
passed_over test x xs e = ap (λ b. cond b (Some x) (find test xs)) e

or_true : (b : Bool) → (b || true) ≡ true
or_true true = refl
or_true false = refl

pub any_behind : {A : Type 0} (test : A → Bool) (xs ys : List A) → list_any test ys ≡ true → list_any test (xs ++ ys) ≡ true
any_behind test [] ys e = e
any_behind test (x ∷ xs) ys e = ap (λ b. test x || b) (any_behind test xs ys e) ∙ or_true (test x)

-- ---- lines

line_differs : (a line : ℕ) → a < line → nat_eq a line ≡ false
line_differs a line low = grind (arith, nat_tests)

-- a place of an earlier line isn't the one that is named
elsewhere : (line column a c : ℕ) → a < line → is_named line (Some column) (spot a c) ≡ false
elsewhere line column a c low = ap (λ b. b && nat_eq c column) (line_differs a line low)

is_line : (l : ℕ) (bs : List ℕ) → line_behind l bs ≡ l + 7 * length bs
is_line l [] = omega arith
is_line l (b ∷ bs) = let more = is_line (l + 1 + 1 + 1 + 1 + 1 + 1 + 1) bs in more ∙ omega arith

-- ---- the closing parenthesis of the input

-- the places of a kind in a block
abbrev spots_in : PlaceKind → Stms → List Spot
spots_in kind b = of_kind kind (places_of_block b ++ [])

calls_named : (line column l k o : ℕ) (bs : List ℕ) (rest : Stms) → l + 7 * length bs ≤ line →
    filter (is_named line (Some column)) (spots_in place.CallEnd (loops l k o bs rest)) ≡ filter (is_named line (Some column)) (spots_in place.CallEnd rest)
calls_named line column l k o [] rest low = refl
calls_named line column l k o (b ∷ bs) rest low =
    let m = l + 1 + 1 + 1 + 1 + 1 + 1 + 1 in
    let close = tested_at (l + 1 + 1 + 1 + 1) k b 9 in
    skipped (is_named line (Some column)) close (spots_in place.CallEnd (loops m (k + 1) (o + 1) bs rest)) (elsewhere line column (l + 1 + 1 + 1 + 1 + 1) close.column (omega arith))
    ∙ calls_named line column m (k + 1) (o + 1) bs rest (omega arith)

-- ---- statements

statements_named : (line column l k o : ℕ) (bs : List ℕ) (rest : Stms) → list_any (is_named line (Some column)) (spots_in place.Statement rest) ≡ true →
    list_any (is_named line (Some column)) (spots_in place.Statement (loops l k o bs rest)) ≡ true
statements_named line column l k o [] rest e = e
statements_named line column l k o (b ∷ bs) rest e =
    let m = l + 1 + 1 + 1 + 1 + 1 + 1 + 1 in
    let loop = looped_at (l + 1) k b in
    let test = tested_at (l + 1 + 1 + 1 + 1) k b in
    any_behind (is_named line (Some column)) (declared_at l k 0 ∷ loop 0 ∷ loop 6 ∷ loop 7 ∷ test 0 ∷ test 6 ∷ test 7 ∷ []) (spots_in place.Statement (loops m (k + 1) (o + 1) bs rest))
    (statements_named line column m (k + 1) (o + 1) bs rest e)

-- ---- calls

-- the expressions in a block
abbrev exps_in : Stms → List Exp
exps_in b = flat_map exps_of (flat_map own_fulls_of (statements_of_block b ++ []))

other_end : (close : Spot) (a c : ℕ) → a < close.line → same_spot (spot a c) close ≡ false
other_end close a c low = ap (λ b. b && nat_eq c close.column) (line_differs a close.line low)

calls_ending : (close : Spot) (l k o : ℕ) (bs : List ℕ) (rest : Stms) → l + 7 * length bs ≤ close.line → find (ends_at close) (exps_in (loops l k o bs rest)) ≡ find (ends_at close) (exps_in rest)
calls_ending close l k o [] rest low = refl
calls_ending close l k o (b ∷ bs) rest low =
    let m = l + 1 + 1 + 1 + 1 + 1 + 1 + 1 in
    let test = tested_at (l + 1 + 1 + 1 + 1) k b in
    passed_over (ends_at close) (error_call test) (exps_in (loops m (k + 1) (o + 1) bs rest)) (other_end close (l + 1 + 1 + 1 + 1 + 1) (test 9).column (omega arith))
    ∙ calls_ending close m (k + 1) (o + 1) bs rest (omega arith)

-- ---- the faulty program

module _ (n : ℕ) (bs : List ℕ) (many : length bs ≡ 40) where
  line_is : line_behind 4 bs ≡ 284
  line_is = is_line 4 bs ∙ omega (arith, many)

  pub input_named : place_named (faulty_typed n bs) place.CallEnd (record { file_name = None; line = 284; column = Some 33; function = None }) ≡ Some (spot 284 33)
  unfolding place_named
  input_named =
      ap leftmost (calls_named 284 33 4 1 0 bs (faulty_rest (line_behind 4 bs) (length bs) n) (omega (arith, many)))
      ∙ ap (λ l. leftmost (filter (is_named 284 (Some 33)) (spots_in place.CallEnd (faulty_rest l (length bs) n)))) line_is

  statement_there : list_any (is_named 286 (Some 5)) (spots_in place.Statement (faulty_rest (line_behind 4 bs) (length bs) n)) ≡ true
  statement_there = ap (λ l. list_any (is_named 286 (Some 5)) (spots_in place.Statement (faulty_rest l (length bs) n))) line_is

  pub target_suits : is_suitable (faulty_typed n bs) (record { file_name = None; line = 286; column = Some 5; function = None }) ≡ true
  unfolding is_suitable
  target_suits =
      let p = faulty_typed n bs in
      let first = spots_of_kind place.Statement p in
      let fulls = map spot_of (fulls_of_program p) in
      let calls = starts_of_reach_error p.property (exps_of_program p) in
      let named = is_named 286 (Some 5) in
      let among_statements : list_any named first ≡ true = statements_named 286 5 4 1 0 bs (faulty_rest (line_behind 4 bs) (length bs) n) statement_there in
      list_any-append named (first ++ fulls) calls
      ∙ ap (λ b. b || list_any named calls) (list_any-append named first fulls ∙ ap (λ b. b || list_any named fulls) among_statements)

  pub input_valued : is_valued (faulty_typed n bs) (spot 284 33) ≡ true
  unfolding is_valued
  input_valued =
      ap has_value (calls_ending (spot 284 33) 4 1 0 bs (faulty_rest (line_behind 4 bs) (length bs) n) (omega (arith, many)))
      ∙ ap (λ l. has_value (find (ends_at (spot 284 33)) (exps_in (faulty_rest l (length bs) n)))) line_is
