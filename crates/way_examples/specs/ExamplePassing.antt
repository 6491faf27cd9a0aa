-- Events that pass example waypoints, and some that don't.
use Rattle.std.specs.Prelude.{◌≡◌, ℤ, pos, negsuc, Bool, true, false, List, [], ◌∷◌, Option, Some, None}
use Rattle.c_core.specs.Tree.{Exp}
use Rattle.c_core.specs.declared.number.IntType.{IntType}
use Rattle.c_core.specs.declared.number.IntType.TheVariants.{Int, UInt, SChar, LongLong}
use Rattle.c_core.specs.declared.number.Property.TheVariants.{NoOverflow}
use Rattle.c_core.specs.declared.number.BinOp.{BinOp}
use Rattle.c_core.specs.declared.number.BinOp.TheVariants.{Add, Div, Lt, Gt, Eq, Ne}
use Rattle.c_meaning.specs.declared.run.Event.{Event}
use Rattle.c_meaning.specs.declared.run.Event.TheVariants as event
use Rattle.c_meaning.specs.declared.run.Way.TheVariants.{Truth, Case, Default}
use Rattle.c_meaning.specs.Cells.{Cell}
use Rattle.c_meaning.specs.Examples.{at, number, object, operation, add_to_input, branch_on_input}
use Rattle.way_match.specs.Points.{At, Line, Point, Assume, Target, Enter, Return, Branch}
use Rattle.way_match.specs.Passing.{passes}
use Rattle.way_examples.specs.ExampleVerdicts.{minus, first_is}
use Rattle.way_examples.specs.ExampleGiven.{input_of_type}

-- the return of an input call of a type, against `\result op e`
abbrev pub return_passes : IntType → BinOp → Exp → Option ℤ → Bool
return_passes ty op e v = passes (input_of_type ty) (Return (at 2 15) (Some (record { op = op; constant = e }))) (event.Return (at 2 15) v) []

-- a memory where the first object has a value
abbrev pub first_has : ℤ → List Cell
first_has v = record { key = record { object = 0; index = 0 }; value = v } ∷ []

-- an assumption where an overflow is the violation
abbrev pub assumption_passes : Exp → List Cell → Bool
assumption_passes e cells = passes (add_to_input NoOverflow) (Assume (at 4 3) e) (event.At (at 4 3)) cells

abbrev pub target_passes : Point → Event → Bool
target_passes x e = passes (branch_on_input 5) x e []

-- the violation, with its three places
abbrev pub failed : Event
failed = event.Fail (at 6 5) (at 7 9) (Some (at 8 11))

pub record ExamplePassing : Type 0 where
  -- the returned value and the constant are converted to their common type
  pub unsigned_equals : return_passes UInt Eq (minus Int 1) (Some (pos 4294967295)) ≡ true
  pub unsigned_greater : return_passes UInt Gt (minus Int 1) (Some (pos 0)) ≡ false
  pub unsigned_in_long_long : return_passes UInt Gt (minus LongLong 1) (Some (pos 0)) ≡ true
  pub promoted : return_passes SChar Eq (number 1 12 255) (Some (negsuc 0)) ≡ false
  pub int_equals : return_passes Int Eq (minus Int 1) (Some (negsuc 0)) ≡ true
  pub int_differs : return_passes Int Ne (minus Int 1) (Some (negsuc 0)) ≡ false
  -- an undefined constant is met by nothing, one that overflows wraps
  pub undefined_constant : return_passes Int Ne (operation 1 12 Div (number 1 12 1) (number 1 16 0)) (Some (pos 5)) ≡ false
  pub wrapped_constant : return_passes Int Eq (operation 1 12 Add (number 1 12 2147483647) (number 1 25 1)) (Some (negsuc 2147483647)) ≡
      true
  -- no value meets no constraint
  pub no_value : return_passes Int Ne (number 1 12 5) None ≡ false
  pub no_constraint : passes (input_of_type Int) (Return (at 2 15) None) (event.Return (at 2 15) None) [] ≡ true
  pub return_elsewhere : passes (input_of_type Int) (Return (at 2 15) None) (event.Return (at 2 14) None) [] ≡ false
  -- an assumption holds where its value is defined and isn't 0
  pub holds : assumption_passes (first_is 5) (first_has (pos 5)) ≡ true
  pub does_not_hold : assumption_passes (first_is 5) (first_has (pos 6)) ≡ false
  pub any_value_but_zero : assumption_passes (object 1 1 0) (first_has (negsuc 6)) ≡ true
  pub wraps : assumption_passes (operation 1 1 Lt (operation 1 1 Add (object 1 1 0) (number 1 5 1)) (object 1 9 0)) (first_has (pos 2147483647)) ≡
      true
  pub undefined : assumption_passes (operation 1 1 Ne (operation 1 1 Div (object 1 1 0) (number 1 5 0)) (number 1 10 5)) (first_has (pos 5)) ≡
      false
  pub no_such_cell : assumption_passes (first_is 0) [] ≡ false
  pub statement_elsewhere : passes (add_to_input NoOverflow) (Assume (at 4 3) (number 1 1 1)) (event.At (at 5 3)) [] ≡ false
  -- a target is passed where one of the violation's places is the target's
  pub statement : target_passes (Target (At (at 6 5))) failed ≡ true
  pub full_expression : target_passes (Target (At (at 7 9))) failed ≡ true
  pub call : target_passes (Target (At (at 8 11))) failed ≡ true
  pub no_call : target_passes (Target (At (at 8 11))) (event.Fail (at 6 5) (at 7 9) None) ≡ false
  pub other_column : target_passes (Target (At (at 6 6))) failed ≡ false
  pub line_of_call : target_passes (Target (Line 8)) failed ≡ true
  pub other_line : target_passes (Target (Line 5)) failed ≡ false
  pub no_violation : target_passes (Target (At (at 6 5))) (event.At (at 6 5)) ≡ false
  -- each kind by its own events
  pub entered : target_passes (Enter (at 6 17)) (event.Enter (at 6 17)) ≡ true
  pub not_returned : target_passes (Enter (at 6 17)) (event.Return (at 6 17) None) ≡ false
  pub not_entered : target_passes (Return (at 6 17) None) (event.Enter (at 6 17)) ≡ false
  pub taken : target_passes (Branch (at 5 3) (Truth false)) (event.Branch (at 5 3) (Truth false)) ≡ true
  pub other_way : target_passes (Branch (at 5 3) (Truth false)) (event.Branch (at 5 3) (Truth true)) ≡ false
  pub other_branching : target_passes (Branch (at 5 3) (Truth true)) (event.Branch (at 5 4) (Truth true)) ≡ false
  -- the arm of a constant, and the way past all constants
  pub chosen : target_passes (Branch (at 5 3) (Case (negsuc 0))) (event.Branch (at 5 3) (Case (negsuc 0))) ≡ true
  pub other_arm : target_passes (Branch (at 5 3) (Case (pos 1))) (event.Branch (at 5 3) (Case (negsuc 0))) ≡ false
  pub by_default : target_passes (Branch (at 5 3) Default) (event.Branch (at 5 3) Default) ≡ true
  pub no_default : target_passes (Branch (at 5 3) Default) (event.Branch (at 5 3) (Case (pos 0))) ≡ false
