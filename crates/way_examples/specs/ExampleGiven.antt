-- The values that example witnesses give to the input calls of a program.
use Rattle.std.specs.Prelude.{◌≡◌, ℕ, ℤ, pos, false, true, List, [], ◌∷◌, Option, Some, None}
use Rattle.c_core.specs.Tree.{Exp, NoExp, MoreExp, Var, Index, Unary, Cast, Logic, Assign, NoName, Stm, Declare, Label, Switch, Stms, NoStm, MoreStm, MoreCase, Program}
use Rattle.c_core.specs.declared.number.IntType.{IntType}
use Rattle.c_core.specs.declared.number.IntType.TheVariants.{Int, UInt, UChar}
use Rattle.c_core.specs.declared.number.Property.TheVariants.{UnreachCall}
use Rattle.c_core.specs.declared.number.BinOp.{BinOp}
use Rattle.c_core.specs.declared.number.BinOp.TheVariants.{Add, Div, Gt, Eq, Ne}
use Rattle.c_core.specs.declared.number.UnOp.TheVariants.{Not}
use Rattle.c_core.specs.declared.tree.Callee.TheVariants.{Input}
use Rattle.c_core.specs.declared.tree.Label.TheVariants.{Case, Default}
use Rattle.c_meaning.specs.declared.run.Choices.{Choices}
use Rattle.c_meaning.specs.declared.run.Choices.TheVariants.{Given}
use Rattle.c_meaning.specs.Examples.{at, exp, number, object, operation, call, int_input, statement, only, declared, declaration, block, return_number, local, cell, main_alone, recurse}
use Rattle.way_match.specs.Points.{Assume, Return, BoundSegment}
use Rattle.way_match.specs.Given.{given_by}
use Rattle.way_examples.specs.ExampleVerdicts.{follow, avoid_then, returns, minus, first_is}

-- 1|int main() {
-- 2|  int x = 0, y = 0;
-- 3|  STATEMENT
-- 4|  x;
-- 5|  return 0;
-- 6|}
abbrev pub before_use : Stm → Program
before_use s = main_alone UnreachCall (local 2 7 ∷ local 2 14 ∷ []) (block 1 12 (
    statement 2 3 (Declare (declared 2 7 0 (number 2 11 0) (declared 2 14 1 (number 2 18 0) NoName))) ∷ s ∷ only 4 3 (object 4 3 0) ∷ return_number 5 3 10 0 ∷ []))

-- the assumption at `x;`
abbrev pub assume : Exp → List BoundSegment
assume e = follow (Assume (at 4 3) e) ∷ []

abbrev pub set_to : ℕ → Option BinOp → Exp → Stm
set_to c op e = only 3 c (exp Int 3 c (Assign op (object 3 c 0) e))

-- `x = __VERIFIER_nondet_int();`
abbrev pub assigned : Stm
assigned = set_to 3 None (int_input 3 7 29)

-- 1|int main() {
-- 2|  int x = 0, y = 0; switch (y) { ARMS }
-- 5|  return 0;
-- 6|}
abbrev pub with_arms : Stms → Program
with_arms arms = main_alone UnreachCall (local 2 7 ∷ local 2 14 ∷ []) (block 1 12 (
    statement 2 3 (Declare (declared 2 7 0 (number 2 11 0) (declared 2 14 1 (number 2 18 0) NoName))) ∷ statement 2 21 (Switch (object 2 29 1) arms) ∷ return_number 5 3 10 0 ∷ []))

abbrev pub used : Stm
used = only 4 3 (object 4 3 0)

abbrev pub given_there : List ℤ → Choices
given_there vs = Given (record { spot = at 3 7; values = vs } ∷ [])

abbrev pub both : Exp → Exp → Exp
both a b = exp Int 1 1 (Logic true a b)

abbrev pub second_is : ℕ → Exp
second_is v = operation 1 1 Eq (object 1 1 1) (number 1 6 v)

-- `x == y`
abbrev pub first_is_second : Exp
first_is_second = operation 1 1 Eq (object 1 1 0) (object 1 6 1)

-- `x == 1 / 0`
abbrev pub first_is_undefined : Exp
first_is_undefined = operation 1 1 Eq (object 1 1 0) (operation 1 6 Div (number 1 6 1) (number 1 10 0))

-- 1|int main() {
-- 2|  T x = input();
-- 3|  return 0;
-- 4|}
abbrev pub input_of_type : IntType → Program
input_of_type ty = main_alone UnreachCall (cell ty false 2 5 ∷ []) (block 1 12 (declaration 2 3 5 0 (call 2 9 (Some ty) (Input ty) 15) ∷ return_number 3 3 10 0 ∷ []))

abbrev pub given_in_declaration : List ℤ → Choices
given_in_declaration vs = Given (record { spot = at 2 9; values = vs } ∷ [])

pub record ExampleGiven : Type 0 where
  -- an assumption after an assignment or a declaration of one object
  pub equals : given_by (before_use assigned) (assume (first_is 5)) ≡ given_there (pos 5 ∷ [])
  pub equals_turned : given_by (before_use assigned) (assume (operation 1 1 Eq (number 1 1 5) (object 1 6 0))) ≡
      given_there (pos 5 ∷ [])
  pub in_a_declaration : given_by (input_of_type Int) (follow (Assume (at 3 3) (first_is 5)) ∷ []) ≡
      given_in_declaration (pos 5 ∷ [])
  -- the first operand of that form counts, however the chain is grouped
  pub first_of_chain : given_by (before_use assigned) (assume (both (second_is 1) (both (first_is 5) (first_is 6)))) ≡
      given_there (pos 5 ∷ [])
  pub first_of_chain_grouped : given_by (before_use assigned) (assume (both (both (second_is 1) (first_is 5)) (first_is 6))) ≡
      given_there (pos 5 ∷ [])
  -- an operand that compares with a name is passed over, one that is undefined isn't
  pub name_passed_over : given_by (before_use assigned) (assume (both first_is_second (first_is 5))) ≡ given_there (pos 5 ∷ [])
  pub undefined_counts : given_by (before_use assigned) (assume (both first_is_undefined (first_is 5))) ≡ given_there []
  -- other forms of an assumption
  pub either : given_by (before_use assigned) (assume (exp Int 1 1 (Logic false (first_is 5) (first_is 6)))) ≡ given_there []
  pub negated : given_by (before_use assigned) (assume (exp Int 1 1 (Unary Not (first_is 5)))) ≡ given_there []
  pub differs : given_by (before_use assigned) (assume (operation 1 1 Ne (object 1 1 0) (number 1 6 5))) ≡ given_there []
  pub other_object : given_by (before_use assigned) (assume (second_is 5)) ≡ given_there []
  -- other forms of the statement before
  pub labelled : given_by (before_use (statement 3 3 (Label (set_to 6 None (int_input 3 10 32))))) (assume (first_is 5)) ≡
      Given (record { spot = at 3 10; values = [] } ∷ [])
  pub cast : given_by (before_use (set_to 3 None (exp Int 3 7 (Cast (int_input 3 12 34))))) (assume (first_is 5)) ≡
      Given (record { spot = at 3 12; values = [] } ∷ [])
  pub compound : given_by (before_use (set_to 3 (Some Add) (int_input 3 8 30))) (assume (first_is 5)) ≡
      Given (record { spot = at 3 8; values = [] } ∷ [])
  pub element : given_by (before_use (only 3 3 (exp Int 3 3 (Assign None (exp Int 3 3 (Index 0 (MoreExp (number 3 5 0) NoExp))) (int_input 3 10 32))))) (assume (first_is 5)) ≡
      Given (record { spot = at 3 10; values = [] } ∷ [])
  pub two_names : given_by (before_use (statement 3 3 (Declare (declared 3 7 0 (int_input 3 11 33) (declared 3 36 1 (number 3 40 0) NoName))))) (assume (first_is 5)) ≡
      Given (record { spot = at 3 11; values = [] } ∷ [])
  pub inner_block : given_by (before_use (block 3 3 (set_to 5 None (int_input 3 9 31) ∷ []))) (assume (first_is 5)) ≡
      Given (record { spot = at 3 9; values = [] } ∷ [])
  -- the body of an arm counts as a block
  pub same_arm : given_by (with_arms (MoreCase (at 2 34) (Case (pos 1)) (MoreStm assigned (MoreStm used NoStm)))) (assume (first_is 5)) ≡ given_there (pos 5 ∷ [])
  pub next_arm : given_by (with_arms (MoreCase (at 2 34) (Case (pos 1)) (MoreStm assigned (MoreCase (at 3 37) Default (MoreStm used NoStm))))) (assume (first_is 5)) ≡
      given_there []
  -- values by the returns of input calls alone, in witness order
  pub returned : given_by (input_of_type Int) (returns 2 15 (number 1 12 5) ∷ returns 2 15 (number 1 12 6) ∷ []) ≡
      given_in_declaration (pos 5 ∷ pos 6 ∷ [])
  pub defined_call : given_by recurse (returns 4 6 (number 1 12 5) ∷ []) ≡ Given []
  pub greater : given_by (input_of_type Int) (follow (Return (at 2 15) (Some (record { op = Gt; constant = number 1 11 5 }))) ∷ []) ≡
      given_in_declaration []
  pub avoided : given_by (input_of_type Int) (avoid_then (Return (at 2 15) (Some (record { op = Eq; constant = number 1 12 5 }))) (Return (at 2 15) None) ∷ []) ≡
      given_in_declaration []
  -- values of the input's type
  pub fitted_return : given_by (input_of_type UInt) (returns 2 15 (minus Int 1) ∷ []) ≡ given_in_declaration (pos 4294967295 ∷ [])
  pub fitted_assumption : given_by (input_of_type UChar) (follow (Assume (at 3 3) (operation 1 1 Eq (exp UChar 1 1 (Var 0)) (number 1 6 300))) ∷ []) ≡
      given_in_declaration (pos 44 ∷ [])
