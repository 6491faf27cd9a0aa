-- The expressions of a demo's programs: no code refuses a part of them.
use Rattle.std.proofs.Common.{◌≡◌, ◌<◌, ◌^◌, ◌⊎◌, inl, inr, ℕ, nat_lt, Bool, true, false, ◌&&◌, ◌||◌, cond, List, [], ◌∷◌, Some, None, is_none, codes, refl, ap, arith}
use Rattle.std.specs.List.{AllByRecursion}
use Rattle.std.proofs.lemmas.Bool.Decides.{nat_tests}
use Rattle.c_core.specs.declared.number.BinOp.{BinOp}
use Rattle.c_core.specs.declared.number.BinOp.TheVariants as op
use Rattle.c_core.specs.declared.number.DataModel.TheVariants.{Ilp32}
use Rattle.c_core.specs.declared.number.IntType.TheVariants.{Int, Long, LongLong, UInt, ULong, ULongLong}
use Rattle.c_core.specs.declared.number.Spot.{Spot}
use Rattle.c_core.specs.declared.tree.Callee.TheVariants.{Input, ReachError}
use Rattle.c_parser.specs.Tree.{Exp, Expr, Number, Var, Binary, Assign, Call, NoExp, Stm}
use Rattle.check_rules.specs.Codes.{miscalled, is_no_scalar}
use Rattle.check_rules.specs.Constants.{constant_type, first_that_holds}
use Rattle.check_rules.specs.Names.{Object, Entry, is_function, kind_of_callee, named}
use Rattle.check_rules.specs.Order.{IsStoredTwice, SomePair, changes, is_object}
use Rattle.check_rules.specs.Parts.{Expression, Value, Target, Effect, parts}
use Rattle.check_rules.specs.Typed.{result_named}
use Rattle.demo_checks.proofs.Fine.{IsFine, items}
use Rattle.demo_checks.proofs.Quiet.{AreQuiet, all_in_any_order, changes_nothing, none_passes}

-- a constant of type int; octal ones fit it too
small_fits : (v : ℕ) → v < 2 ^ 31 → nat_lt v (2 ^ 31) ≡ true
small_fits v small = grind (arith, nat_tests)

pub constant_is_int : (v : ℕ) (d : Bool) → v < 2 ^ 31 → constant_type Ilp32 v d false 0 ≡ Some Int
constant_is_int v true small = ap (λ b. cond b (Some Int) (first_that_holds Ilp32 v (Long ∷ LongLong ∷ []))) (small_fits v small)
constant_is_int v false small = ap (λ b. cond b (Some Int) (first_that_holds Ilp32 v (UInt ∷ Long ∷ ULong ∷ LongLong ∷ ULongLong ∷ []))) (small_fits v small)

-- `x OP v`
abbrev pub compared : BinOp → List ℕ → ℕ → Bool → Spot → Spot → Spot → Spot → Exp
compared o x v d p q r w = Expr p (Binary o (Expr q (Var x w)) (Expr r (Number v d false 0)))

-- `x = x + 1`
abbrev pub step : List ℕ → Spot → Spot → Spot → Exp
step x p q r = Expr p (Assign None (Expr p (Var x p)) (compared op.Add x 1 true q q r q))

module _ (ss : List Stm) where
  -- nothing is out of order where there are no operands
  no_order : SomePair Ilp32 (items ss) [] ⊎ ⊥ → ⊥
  no_order (inl p) = all_in_any_order Ilp32 (items ss) [] tt p
  no_order (inr none) = none

  pub variable_fine : (es : List Entry) (x : List ℕ) (n : ℕ) (p w : Spot) → named es x ≡ Some (Object n Int 0 false) → IsFine ss (Expression es Value (Expr p (Var x w)))
  variable_fine es x n p w e = record {
    known = ap is_none e;
    once = refl;
    typed = ap (λ k. is_no_scalar k || false) e;
    sized = refl;
    ordered = no_order;
    bodied = refl;
    few = refl;
  }

  pub target_fine : (es : List Entry) (x : List ℕ) (n : ℕ) (p w : Spot) → named es x ≡ Some (Object n Int 0 false) → IsFine ss (Expression es Target (Expr p (Var x w)))
  target_fine es x n p w e = record {
    known = ap is_none e;
    once = refl;
    typed = ap (λ k. is_no_scalar k || false) e;
    sized = refl;
    ordered = no_order;
    bodied = refl;
    few = refl;
  }

  pub number_fine : (es : List Entry) (v : ℕ) (d : Bool) (p : Spot) → v < 2 ^ 31 → IsFine ss (Expression es Value (Expr p (Number v d false 0)))
  number_fine es v d p small = record {
    known = refl;
    once = refl;
    typed = ap (λ o. is_none o || false) (constant_is_int v d small);
    sized = refl;
    ordered = no_order;
    bodied = refl;
    few = refl;
  }

  pub number_quiet : (es : List Entry) (v : ℕ) (d : Bool) (p : Spot) → AreQuiet Ilp32 (items ss) (parts es Value (Expr p (Number v d false 0)))
  number_quiet es v d p = record { stores = λ test. (refl, tt); calls = λ k. (refl, tt) }

  variable_quiet : (es : List Entry) (x : List ℕ) (p w : Spot) → AreQuiet Ilp32 (items ss) (parts es Value (Expr p (Var x w)))
  variable_quiet es x p w = record { stores = λ test. (refl, tt); calls = λ k. (refl, tt) }

  nothing_quiet : AreQuiet Ilp32 (items ss) []
  nothing_quiet = record { stores = λ test. tt; calls = λ k. tt }

  compared_quiet : (o : BinOp) (es : List Entry) (x : List ℕ) (v : ℕ) (d : Bool) (p q r w : Spot) → AreQuiet Ilp32 (items ss) (parts es Value (compared o x v d p q r w))
  compared_quiet o es x v d p q r w = record { stores = λ test. (refl, (refl, (refl, tt))); calls = λ k. (refl, (refl, (refl, tt))) }

  compared_order : (es : List Entry) (x : List ℕ) (v : ℕ) (d : Bool) (q r w : Spot) → SomePair Ilp32 (items ss) (parts es Value (Expr q (Var x w)) ∷ parts es Value (Expr r (Number v d false 0)) ∷ []) ⊎ ⊥ → ⊥
  compared_order es x v d q r w (inl pair) =
      all_in_any_order Ilp32 (items ss) (parts es Value (Expr q (Var x w)) ∷ parts es Value (Expr r (Number v d false 0)) ∷ [])
      (variable_quiet es x q w, (number_quiet es v d r, tt)) pair
  compared_order es x v d q r w (inr none) = none

  pub compared_fine : (o : BinOp) (es : List Entry) (x : List ℕ) (n v : ℕ) (d : Bool) (p q r w : Spot) → named es x ≡ Some (Object n Int 0 false) → v < 2 ^ 31 →
      AllByRecursion (IsFine ss) (parts es Value (compared o x v d p q r w))
  compared_fine o es x n v d p q r w e small = (
    record { known = refl; once = refl; typed = refl; sized = refl; ordered = compared_order es x v d q r w; bodied = refl; few = refl },
    (variable_fine es x n q w e, (number_fine es v d r small, tt)),
  )

  step_order : (es : List Entry) (x : List ℕ) (p q r : Spot) →
      SomePair Ilp32 (items ss) ([] ∷ parts es Value (compared op.Add x 1 true q q r q) ∷ [])
      ⊎ IsStoredTwice Ilp32 (items ss) es (Assign None (Expr p (Var x p)) (compared op.Add x 1 true q q r q))
      → ⊥
  step_order es x p q r (inl pair) =
      all_in_any_order Ilp32 (items ss) ([] ∷ parts es Value (compared op.Add x 1 true q q r q) ∷ [])
      (nothing_quiet, (compared_quiet op.Add es x 1 true q q r q, tt)) pair
  step_order es x p q r (inr (inl h)) = changes_nothing Ilp32 (items ss) h.object [] nothing_quiet h.changed
  step_order es x p q r (inr (inr h)) =
      none_passes (changes (is_object h.object)) (parts es Value (compared op.Add x 1 true q q r q)) ((compared_quiet op.Add es x 1 true q q r q).stores (is_object h.object)) h.changed

  pub step_fine : (es : List Entry) (x : List ℕ) (n : ℕ) (p q r : Spot) → named es x ≡ Some (Object n Int 0 false) → AllByRecursion (IsFine ss) (parts es Effect (step x p q r))
  step_fine es x n p q r e = (
    record { known = refl; once = refl; typed = refl; sized = refl; ordered = step_order es x p q r; bodied = refl; few = refl },
    (target_fine es x n p p e, compared_fine op.Add es x n 1 true q q r q e (omega arith)),
  )

  and_false : (b : Bool) → (b && false) ≡ false
  and_false true = refl
  and_false false = refl

  -- `reach_error()`
  pub reach_fine : (es : List Entry) (p w close : Spot) → named es (codes "reach_error") ≡ Some (kind_of_callee ReachError) → IsFine ss (Expression es Effect (Expr p (Call (codes "reach_error") w NoExp close)))
  reach_fine es p w close e = record {
    known = ap is_none e;
    once = refl;
    typed = ap (λ k. miscalled Ilp32 (items ss) es (codes "reach_error") 0 k || false) e;
    sized = refl;
    ordered = no_order;
    bodied = and_false (is_function (named es (codes "reach_error")));
    few = refl;
  }

  -- `__VERIFIER_nondet_int()`
  pub input_fine : (es : List Entry) (p w close : Spot) → named es (codes "__VERIFIER_nondet_int") ≡ Some (kind_of_callee (Input Int)) →
      IsFine ss (Expression es Value (Expr p (Call (codes "__VERIFIER_nondet_int") w NoExp close)))
  input_fine es p w close e = record {
    known = ap is_none e;
    once = refl;
    typed = ap (λ k. miscalled Ilp32 (items ss) es (codes "__VERIFIER_nondet_int") 0 k || is_none (result_named k)) e;
    sized = refl;
    ordered = no_order;
    bodied = and_false (is_function (named es (codes "__VERIFIER_nondet_int")));
    few = refl;
  }

  pub input_quiet : (es : List Entry) (p w close : Spot) → AreQuiet Ilp32 (items ss) (parts es Value (Expr p (Call (codes "__VERIFIER_nondet_int") w NoExp close)))
  input_quiet es p w close = record { stores = λ test. (refl, tt); calls = λ k. (and_false (is_function (named es (codes "__VERIFIER_nondet_int"))), tt) }
