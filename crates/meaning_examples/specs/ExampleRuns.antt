-- How the example programs run: their ends, steps, draws and events.
use Rattle.std.specs.Prelude.{◌≡◌, ℕ, ℤ, pos, negsuc, true, false, List, [], ◌∷◌, Some, None}
use Rattle.c_core.specs.declared.number.Spot.{Spot}
use Rattle.c_core.specs.declared.number.IntType.{IntType}
use Rattle.c_core.specs.declared.number.IntType.TheVariants.{Int, UInt}
use Rattle.c_core.specs.declared.number.Property.TheVariants.{UnreachCall, NoOverflow}
use Rattle.c_core.specs.declared.number.BinOp.TheVariants.{Div}
use Rattle.c_meaning.specs.declared.run.End.{End}
use Rattle.c_meaning.specs.declared.run.End.TheVariants.{Ended, Undefined, Violated, Spent, Deep}
use Rattle.c_meaning.specs.declared.run.Event.TheVariants.{At, Branch, Enter, Return, Fail}
use Rattle.c_meaning.specs.declared.run.Way.TheVariants.{Truth, Case as CaseWay, Default as DefaultWay}
use Rattle.c_meaning.specs.declared.run.DrawKind.TheVariants.{Input}
use Rattle.c_meaning.specs.declared.run.Draw.{Draw}
use Rattle.c_meaning.specs.declared.run.Choices.TheVariants.{Given, InTurn}
use Rattle.c_meaning.specs.declared.run.Run.{Run}
use Rattle.c_meaning.specs.Acts.{Go, Stop}
use Rattle.c_meaning.specs.Run.{Moment, State, room, Outcome}
use Rattle.meaning_examples.specs.Switches.{fall_through, switch_in_loop, rows_and_columns}
use Rattle.c_meaning.specs.Examples.{at, drawn, branch_on_input, add_to_input, combine_inputs, count_down, count_to_ten, count_calls, count_to_three, recurse}

abbrev pub ended : End → ℕ → List Draw → ℕ → Run
ended e steps draws unfixed = record { end = e; steps = steps; draws = draws; unfixed = unfixed }

abbrev pub unwatched : Moment → Unit {0} → Unit {0}
unwatched x s = s

-- two cells below the greatest number of live cells
abbrev pub crowded : State (Unit {0})
crowded = record { steps = 9; cells = []; active = 999998; choices = InTurn []; draws = []; unfixed = 0; seen = tt }

pub record ExampleRuns : Type 0 where
  -- five reaches the error, in eleven steps
  pub five_violates : Outcome (branch_on_input 5) (InTurn (pos 5 ∷ [])) 11 ≡ (
    ended (Violated (at 6 5)) 11 (drawn (at 4 11) Int (pos 5) ∷ []) 0,
    (At (at 4 3) ∷ Enter (at 4 33) ∷
        Return (at 4 33) (Some (pos 5)) ∷ At (at 5 3) ∷ Branch (at 5 3) (Truth true) ∷ At (at 5 15) ∷ At (at 6 5) ∷ Enter (at 6 17) ∷
        Fail (at 6 5) (at 6 5) (Some (at 6 5)) ∷ []),
  )
  -- ten steps are too few
  pub ten_steps_are_spent : Outcome (branch_on_input 5) (InTurn (pos 5 ∷ [])) 10 ≡ (
    ended Spent 10 (drawn (at 4 11) Int (pos 5) ∷ []) 0,
    (At (at 4 3) ∷ Enter (at 4 33) ∷ Return (at 4 33) (Some (pos 5)) ∷
        At (at 5 3) ∷ Branch (at 5 3) (Truth true) ∷ At (at 5 15) ∷ At (at 6 5) ∷ []),
  )
  -- another number comes to the end
  pub six_ends : Outcome (branch_on_input 5) (InTurn (pos 6 ∷ [])) 50 ≡ (
    ended Ended 10 (drawn (at 4 11) Int (pos 6) ∷ []) 0,
    (At (at 4 3) ∷ Enter (at 4 33) ∷ Return (at 4 33) (Some (pos 6)) ∷
        At (at 5 3) ∷ Branch (at 5 3) (Truth false) ∷ At (at 8 3) ∷ []),
  )
  -- the ten steps that it takes are enough
  pub six_ends_in_ten : Outcome (branch_on_input 5) (InTurn (pos 6 ∷ [])) 10 ≡ Outcome (branch_on_input 5) (InTurn (pos 6 ∷ [])) 50
  -- five as a given value of its place
  pub given_five_violates : Outcome (branch_on_input 5) (Given (record { spot = (at 4 11); values = pos 5 ∷ [] } ∷ [])) 11 ≡ (
    ended (Violated (at 6 5)) 11 (drawn (at 4 11) Int (pos 5) ∷ []) 0,
    (At (at 4 3) ∷ Enter (at 4 33) ∷
        Return (at 4 33) (Some (pos 5)) ∷ At (at 5 3) ∷ Branch (at 5 3) (Truth true) ∷ At (at 5 15) ∷ At (at 6 5) ∷ Enter (at 6 17) ∷
        Fail (at 6 5) (at 6 5) (Some (at 6 5)) ∷ []),
  )
  -- without a value zero is drawn
  pub no_value_draws_zero : Outcome (branch_on_input 5) (InTurn []) 50 ≡ (
    ended Ended 10 (drawn (at 4 11) Int (pos 0) ∷ []) 1,
    (At (at 4 3) ∷ Enter (at 4 33) ∷ Return (at 4 33) (Some (pos 0)) ∷
        At (at 5 3) ∷ Branch (at 5 3) (Truth false) ∷ At (at 8 3) ∷ []),
  )
  -- the greatest number overflows
  pub greatest_overflows : Outcome (add_to_input NoOverflow) (InTurn (pos 2147483647 ∷ [])) 50 ≡ (
    ended (Violated (at 4 3)) 8 (drawn (at 3 11) Int (pos 2147483647) ∷ []) 0,
    (At (at 3 3) ∷ Enter (at 3 33) ∷
        Return (at 3 33) (Some (pos 2147483647)) ∷ At (at 4 3) ∷ Fail (at 4 3) (at 4 3) None ∷ []),
  )
  -- the least number divided by -1 overflows
  pub least_by_minus_one_overflows : Outcome (combine_inputs NoOverflow Div) (InTurn (negsuc 2147483647 ∷ negsuc 0 ∷ [])) 50 ≡ (
    ended (Violated (at 5 3)) 11 (drawn (at 3 11) Int (negsuc 2147483647) ∷ drawn (at 4 11) Int (negsuc 0) ∷ []) 0,
    (At (at 3 3) ∷
        Enter (at 3 33) ∷ Return (at 3 33) (Some (negsuc 2147483647)) ∷ At (at 4 3) ∷ Enter (at 4 33) ∷ Return (at 4 33) (Some (negsuc 0)) ∷
        At (at 5 3) ∷ Fail (at 5 3) (at 5 3) None ∷ []),
  )
  -- a division by zero is undefined
  pub by_zero_is_undefined : Outcome (combine_inputs NoOverflow Div) (InTurn (pos 1 ∷ pos 0 ∷ [])) 50 ≡ (
    ended (Undefined (at 5 3)) 11 (drawn (at 3 11) Int (pos 1) ∷ drawn (at 4 11) Int (pos 0) ∷ []) 0,
    (At (at 3 3) ∷ Enter (at 3 33) ∷
        Return (at 3 33) (Some (pos 1)) ∷ At (at 4 3) ∷ Enter (at 4 33) ∷ Return (at 4 33) (Some (pos 0)) ∷ At (at 5 3) ∷ []),
  )
  -- a loop, a label and a call with an argument
  pub three_is_counted_down : Outcome count_down (InTurn (pos 3 ∷ [])) 200 ≡ (
    ended Ended 54 (drawn (at 15 20) UInt (pos 3) ∷ []) 0,
    (At (at 15 3) ∷ Enter (at 15 43) ∷ Return (at 15 43) (Some (pos 3)) ∷
        At (at 16 3) ∷ At (at 17 3) ∷ Branch (at 17 3) (Truth true) ∷ At (at 18 3) ∷ At (at 19 5) ∷ At (at 20 5) ∷ Branch (at 17 3) (Truth true) ∷
        At (at 18 3) ∷ At (at 19 5) ∷ At (at 20 5) ∷ Branch (at 17 3) (Truth true) ∷ At (at 18 3) ∷ At (at 19 5) ∷ At (at 20 5) ∷
        Branch (at 17 3) (Truth false) ∷ At (at 22 3) ∷ Enter (at 22 25) ∷ At (at 6 3) ∷ Branch (at 6 3) (Truth false) ∷ At (at 9 3) ∷
        Return (at 22 25) None ∷ []),
  )
  -- a loop runs to its end
  pub ten_is_reached : Outcome (count_to_ten UnreachCall) (InTurn []) 200 ≡ (
    ended Ended 114 [] 0,
    (At (at 3 3) ∷ At (at 4 3) ∷ Branch (at 4 3) (Truth true) ∷ At (at 4 18) ∷ At (at 5 5) ∷ Branch (at 4 3) (Truth true) ∷
        At (at 4 18) ∷ At (at 5 5) ∷ Branch (at 4 3) (Truth true) ∷ At (at 4 18) ∷ At (at 5 5) ∷ Branch (at 4 3) (Truth true) ∷ At (at 4 18) ∷ At (at 5 5) ∷
        Branch (at 4 3) (Truth true) ∷ At (at 4 18) ∷ At (at 5 5) ∷ Branch (at 4 3) (Truth true) ∷ At (at 4 18) ∷ At (at 5 5) ∷ Branch (at 4 3) (Truth true) ∷
        At (at 4 18) ∷ At (at 5 5) ∷ Branch (at 4 3) (Truth true) ∷ At (at 4 18) ∷ At (at 5 5) ∷ Branch (at 4 3) (Truth true) ∷ At (at 4 18) ∷ At (at 5 5) ∷
        Branch (at 4 3) (Truth true) ∷ At (at 4 18) ∷ At (at 5 5) ∷ Branch (at 4 3) (Truth false) ∷ At (at 7 3) ∷ Branch (at 7 3) (Truth false) ∷ At (at 10 3) ∷ []),
  )
  -- calls in a loop change a static object
  pub three_calls_are_counted : Outcome count_calls (InTurn []) 200 ≡ (
    ended (Violated (at 12 5)) 81 [] 0,
    (At (at 6 3) ∷ At (at 7 3) ∷ Branch (at 7 3) (Truth true) ∷ At (at 7 17) ∷ At (at 8 5) ∷
        Enter (at 8 7) ∷ At (at 4 12) ∷ Enter (at 4 14) ∷ At (at 3 12) ∷ Return (at 4 14) None ∷ Return (at 8 7) None ∷ At (at 9 5) ∷
        Branch (at 7 3) (Truth true) ∷ At (at 7 17) ∷ At (at 8 5) ∷ Enter (at 8 7) ∷ At (at 4 12) ∷ Enter (at 4 14) ∷ At (at 3 12) ∷
        Return (at 4 14) None ∷ Return (at 8 7) None ∷ At (at 9 5) ∷ Branch (at 7 3) (Truth true) ∷ At (at 7 17) ∷ At (at 8 5) ∷ Enter (at 8 7) ∷
        At (at 4 12) ∷ Enter (at 4 14) ∷ At (at 3 12) ∷ Return (at 4 14) None ∷ Return (at 8 7) None ∷ At (at 9 5) ∷ Branch (at 7 3) (Truth false) ∷
        At (at 11 3) ∷ Branch (at 11 3) (Truth true) ∷ At (at 11 15) ∷ At (at 12 5) ∷ Enter (at 12 17) ∷ Fail (at 12 5) (at 12 5) (Some (at 12 5)) ∷
        []),
  )
  -- the error after a loop of three turns
  pub error_after_three_turns : Outcome count_to_three (InTurn []) 200 ≡ (
    ended (Violated (at 8 3)) 46 [] 0,
    (At (at 3 3) ∷ At (at 4 3) ∷ Branch (at 4 3) (Truth true) ∷ At (at 4 17) ∷ At (at 5 5) ∷ At (at 6 5) ∷
        Branch (at 4 3) (Truth true) ∷ At (at 4 17) ∷ At (at 5 5) ∷ At (at 6 5) ∷ Branch (at 4 3) (Truth true) ∷ At (at 4 17) ∷ At (at 5 5) ∷ At (at 6 5) ∷
        Branch (at 4 3) (Truth false) ∷ At (at 8 3) ∷ Enter (at 8 15) ∷ Fail (at 8 3) (at 8 3) (Some (at 8 3)) ∷ []),
  )
  -- the error after a recursion of four calls
  pub error_after_recursion : Outcome recurse (InTurn []) 200 ≡ (
    ended (Violated (at 5 3)) 48 [] 0,
    (At (at 4 3) ∷ Enter (at 4 6) ∷ At (at 2 16) ∷ Branch (at 2 16) (Truth false) ∷ At (at 2 42) ∷
        Enter (at 2 56) ∷ At (at 2 16) ∷ Branch (at 2 16) (Truth false) ∷ At (at 2 42) ∷ Enter (at 2 56) ∷ At (at 2 16) ∷ Branch (at 2 16) (Truth false) ∷
        At (at 2 42) ∷ Enter (at 2 56) ∷ At (at 2 16) ∷ Branch (at 2 16) (Truth true) ∷ At (at 2 28) ∷ At (at 2 30) ∷
        Return (at 2 56) (Some (pos 0)) ∷ Return (at 2 56) (Some (pos 0)) ∷ Return (at 2 56) (Some (pos 0)) ∷
        Return (at 4 6) (Some (pos 0)) ∷ At (at 5 3) ∷ Enter (at 5 15) ∷ Fail (at 5 3) (at 5 3) (Some (at 5 3)) ∷ []),
  )
  -- an arm runs on into the next, and its `break` leaves the switch
  pub one_falls_through : Outcome fall_through (InTurn (pos 1 ∷ [])) 50 ≡ (
    ended (Violated (at 12 5)) 29 (drawn (at 4 11) Int (pos 1) ∷ []) 0,
    (At (at 4 3) ∷ Enter (at 4 33) ∷ Return (at 4 33) (Some (pos 1)) ∷ At (at 5 3) ∷ At (at 6 3) ∷ Branch (at 6 3) (CaseWay (pos 1)) ∷
        At (at 7 13) ∷ At (at 8 13) ∷ At (at 8 24) ∷ At (at 11 3) ∷ Branch (at 11 3) (Truth true) ∷ At (at 11 15) ∷ At (at 12 5) ∷ Enter (at 12 17) ∷
        Fail (at 12 5) (at 12 5) (Some (at 12 5)) ∷ []),
  )
  pub two_is_left_by_break : Outcome fall_through (InTurn (pos 2 ∷ [])) 50 ≡ (
    ended Ended 22 (drawn (at 4 11) Int (pos 2) ∷ []) 0,
    (At (at 4 3) ∷ Enter (at 4 33) ∷ Return (at 4 33) (Some (pos 2)) ∷ At (at 5 3) ∷ At (at 6 3) ∷ Branch (at 6 3) (CaseWay (pos 2)) ∷
        At (at 8 13) ∷ At (at 8 24) ∷ At (at 11 3) ∷ Branch (at 11 3) (Truth false) ∷ At (at 14 3) ∷ []),
  )
  pub seven_goes_by_default : Outcome fall_through (InTurn (pos 7 ∷ [])) 50 ≡ (
    ended Ended 19 (drawn (at 4 11) Int (pos 7) ∷ []) 0,
    (At (at 4 3) ∷ Enter (at 4 33) ∷ Return (at 4 33) (Some (pos 7)) ∷ At (at 5 3) ∷ At (at 6 3) ∷ Branch (at 6 3) DefaultWay ∷
        At (at 9 14) ∷ At (at 11 3) ∷ Branch (at 11 3) (Truth false) ∷ At (at 14 3) ∷ []),
  )
  -- `continue` in an arm is the loop's, `break` the switch's; without a `default` no arm is done
  pub jumps_of_arms : Outcome switch_in_loop (InTurn []) 50 ≡ (
    ended Ended 48 [] 0,
    (At (at 2 3) ∷ At (at 3 3) ∷ Branch (at 3 3) (Truth true) ∷ At (at 3 17) ∷ At (at 4 5) ∷ Branch (at 4 5) (CaseWay (pos 0)) ∷ At (at 5 15) ∷ At (at 5 26) ∷
        Branch (at 3 3) (Truth true) ∷ At (at 3 17) ∷ At (at 4 5) ∷ Branch (at 4 5) (CaseWay (pos 1)) ∷ At (at 6 15) ∷ At (at 8 5) ∷
        Branch (at 3 3) (Truth true) ∷ At (at 3 17) ∷ At (at 4 5) ∷ Branch (at 4 5) DefaultWay ∷ At (at 8 5) ∷
        Branch (at 3 3) (Truth false) ∷ At (at 10 3) ∷ []),
  )
  -- each row starts at its own first cell, and its rest is zero
  pub rows_are_filled : Outcome (rows_and_columns 1 2) (InTurn []) 50 ≡ (
    ended (Violated (at 6 5)) 30 [] 0,
    (At (at 3 3) ∷ At (at 4 3) ∷ At (at 5 3) ∷ Branch (at 5 3) (Truth true) ∷ At (at 5 31) ∷ At (at 6 5) ∷ Enter (at 6 17) ∷ Fail (at 6 5) (at 6 5) (Some (at 6 5)) ∷ []),
  )
  -- the fourth column of a row is none, also where the array has a cell there
  pub fourth_of_three_columns : Outcome (rows_and_columns 0 3) (InTurn []) 50 ≡ (ended (Undefined (at 4 3)) 16 [] 0, (At (at 3 3) ∷ At (at 4 3) ∷ []))
  pub third_of_two_rows : Outcome (rows_and_columns 2 0) (InTurn []) 50 ≡ (ended (Undefined (at 4 3)) 16 [] 0, (At (at 3 3) ∷ At (at 4 3) ∷ []))
  -- no more than 1,000,000 cells live
  pub room_for_two : room recurse (Unit {0}) unwatched 2 crowded ≡ Go tt crowded
  pub no_room_for_three : room recurse (Unit {0}) unwatched 3 crowded ≡ Stop Deep crowded
