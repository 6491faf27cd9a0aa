-- Which values are hits, on example programs.
use Rattle.std.specs.Prelude.{◌≡◌, ℕ, ℤ, pos, negsuc, Bool, true, false, List, [], ◌∷◌, Some, None}
use Rattle.c_core.specs.Tree.{Program}
use Rattle.c_core.specs.declared.number.IntType.TheVariants.{Int}
use Rattle.c_core.specs.declared.number.Property.TheVariants.{UnreachCall, NoOverflow}
use Rattle.c_core.specs.declared.number.BinOp.TheVariants.{Div, Eq}
use Rattle.c_meaning.specs.declared.run.DrawKind.TheVariants.{Cell}
use Rattle.c_meaning.specs.declared.run.Way.{Way}
use Rattle.c_meaning.specs.declared.run.Way.TheVariants.{Truth, Case, Default}
use Rattle.c_meaning.specs.Examples.{at, drawn, number, branch_on_input, add_to_input, combine_inputs, count_to_three, count_calls, recurse}
use Rattle.meaning_examples.specs.Switches.{fall_through}
use Rattle.way_match.specs.Points.{Line, ReturnTest, Point, Assume, Target, Enter, Return, Branch, BoundSegment}
use Rattle.way_examples.specs.ExampleVerdicts.{follow, avoid_then, target, returns, inside, before_step, error_behind, first_is, first_is_least}
use Rattle.seek_meaning.specs.Seeking.{SeekRun, hits, draws_sought}
use Rattle.seek_examples.specs.SeekPrograms.{leave_early, do_twice, loop_in_loop, without_test, overflow_in_test, error_after_switches, call_in_call, no_value_given, open_cell, error_or_abort}

-- the values hit within a bound
abbrev pub hit : Program → List BoundSegment → ℕ → List ℤ → Bool
hit p ss k w = hits (SeekRun p ss k w)

abbrev pub takes : ℕ → ℕ → Way → Point
takes l c way = Branch (at l c) way

-- `\result == v`
abbrev pub gives : ℕ → ReturnTest
gives v = record { op = Eq; constant = number 1 12 v }

-- loops and calls at their bounds
pub record ExampleBounds : Type 0 where
  -- three turns begin the body three times, whatever values are given
  pub three_turns : (w : List ℤ) → hit count_to_three (target 8 3 ∷ []) 3 w ≡ true
  pub third_turn_beyond : (w : List ℤ) → hit count_to_three (target 8 3 ∷ []) 2 w ≡ false
  -- four calls are active in the last
  pub four_deep : (w : List ℤ) → hit recurse (target 5 3 ∷ []) 4 w ≡ true
  pub fourth_call_beyond : (w : List ℤ) → hit recurse (target 5 3 ∷ []) 3 w ≡ false
  -- a call that is over counts no more, and main doesn't count
  pub two_deep_twice : hit call_in_call (target 7 3 ∷ []) 2 [] ≡ true
  pub two_deep_beyond : hit call_in_call (target 7 3 ∷ []) 1 [] ≡ false
  pub calls_in_a_loop : hit count_calls (target 12 5 ∷ []) 3 [] ≡ true
  pub no_call : hit open_cell (target 5 5 ∷ []) 1 (pos 7 ∷ []) ≡ true
  -- a loop that is left by `break` in its second body
  pub left_in_second : hit leave_early (target 10 3 ∷ []) 2 [] ≡ true
  pub left_beyond : hit leave_early (target 10 3 ∷ []) 1 [] ≡ false
  -- `do` begins its body before its first test, and its last test is within
  pub do_within : hit do_twice (target 7 3 ∷ []) 2 [] ≡ true
  pub do_beyond : hit do_twice (target 7 3 ∷ []) 1 [] ≡ false
  -- the inner loop counts anew on each arrival
  pub inner_anew : hit loop_in_loop (target 6 3 ∷ []) 2 [] ≡ true
  pub inner_beyond : hit loop_in_loop (target 6 3 ∷ []) 1 [] ≡ false
  -- `for` without a test
  pub endless_within : hit without_test (target 7 7 ∷ []) 2 [] ≡ true
  pub endless_beyond : hit without_test (target 7 7 ∷ []) 1 [] ≡ false
  -- the test after the last body is done, and may violate the property
  pub last_test : hit overflow_in_test (target 3 10 ∷ []) 1 [] ≡ true
  -- `continue` in a switch ends a turn, `break` there doesn't leave the loop
  pub switches_within : hit error_after_switches (target 11 3 ∷ []) 3 [] ≡ true
  pub switches_beyond : hit error_after_switches (target 11 3 ∷ []) 2 [] ≡ false

-- values and segments
pub record ExampleSeeks : Type 0 where
  -- an open input: five alone reaches the error, and is drawn
  pub five : hit (branch_on_input 5) (target 6 5 ∷ []) 8 (pos 5 ∷ []) ≡ true
  pub five_is_drawn : draws_sought (SeekRun (branch_on_input 5) (target 6 5 ∷ []) 8 (pos 5 ∷ [])) ≡ drawn (at 4 11) Int (pos 5) ∷ []
  pub six : hit (branch_on_input 5) (target 6 5 ∷ []) 8 (pos 6 ∷ []) ≡ false
  pub no_value : hit (branch_on_input 5) (target 6 5 ∷ []) 8 [] ≡ false
  -- a value is fitted to the type that is drawn
  pub fitted : hit (branch_on_input 5) (target 6 5 ∷ []) 8 (pos 4294967301 ∷ []) ≡ true
  -- with `\result == 6` before, neither does
  pub five_is_not_six : hit (branch_on_input 5) (returns 4 33 (number 1 12 6) ∷ target 6 5 ∷ []) 8 (pos 5 ∷ []) ≡ false
  pub six_is_no_error : hit (branch_on_input 5) (returns 4 33 (number 1 12 6) ∷ target 6 5 ∷ []) 8 (pos 6 ∷ []) ≡ false
  -- the violation is at no target
  pub elsewhere : hit (branch_on_input 5) (target 8 3 ∷ []) 8 (pos 5 ∷ []) ≡ false
  pub on_its_line : hit (branch_on_input 5) (follow (Target (Line 6)) ∷ []) 8 (pos 5 ∷ []) ≡ true
  -- no segment, no target
  pub no_segment : hit (branch_on_input 5) [] 8 (pos 5 ∷ []) ≡ false
  -- a cell without initializer
  pub seven_in_a_cell : draws_sought (SeekRun open_cell (target 5 5 ∷ []) 1 (pos 7 ∷ [])) ≡ record { value = pos 7; spot = at 3 7; ty = Int; from = Cell } ∷ []
  pub eight_in_a_cell : hit open_cell (target 5 5 ∷ []) 1 (pos 8 ∷ []) ≡ false
  -- an overflow violates one property alone; a division by zero none
  pub overflows : hit (add_to_input NoOverflow) (target 4 3 ∷ []) 1 (pos 2147483647 ∷ []) ≡ true
  pub wraps : hit (add_to_input UnreachCall) (target 4 3 ∷ []) 1 (pos 2147483647 ∷ []) ≡ false
  pub quotient : hit (combine_inputs NoOverflow Div) (target 5 3 ∷ []) 1 (negsuc 2147483647 ∷ negsuc 0 ∷ []) ≡ true
  pub by_zero : hit (combine_inputs NoOverflow Div) (target 5 3 ∷ []) 1 (pos 1 ∷ pos 0 ∷ []) ≡ false
  -- an assumption in the second or third turn, and no `i == 2` before a step since: the third
  pub later_position : hit count_to_three (follow (inside (first_is_least 2)) ∷ avoid_then (before_step (first_is 2)) error_behind ∷ []) 3 [] ≡ true
  -- an avoid at the event that passes the follow
  pub avoided_itself : hit count_to_three (avoid_then (inside (first_is 3)) (inside (first_is 3)) ∷ target 8 3 ∷ []) 3 [] ≡ false
  -- an avoid before the follow, and one after it
  pub avoided_before : hit count_to_three (avoid_then (inside (first_is 1)) (inside (first_is 2)) ∷ target 8 3 ∷ []) 3 [] ≡ false
  pub avoided_after : hit count_to_three (avoid_then (inside (first_is 3)) (inside (first_is 2)) ∷ target 8 3 ∷ []) 3 [] ≡ true
  -- two assumptions share an event, and the second's avoids aren't tested there
  pub assumptions_share : hit count_to_three (follow (inside (first_is_least 3)) ∷ avoid_then (inside (first_is 3)) (inside (first_is 3)) ∷ follow error_behind ∷ []) 3 [] ≡ true
  -- three do too
  pub three_share : hit count_to_three (follow (inside (first_is 3)) ∷ follow (inside (first_is 3)) ∷ follow (inside (first_is 3)) ∷ follow error_behind ∷ []) 3 [] ≡ true
  -- other follows don't
  pub returns_differ : hit (branch_on_input 0) (returns 4 33 (number 1 12 0) ∷ returns 4 33 (number 1 12 0) ∷ target 6 5 ∷ []) 8 [] ≡ false
  -- no position is before an earlier segment's
  pub never_back : hit count_to_three (follow (inside (first_is 2)) ∷ follow (inside (first_is 1)) ∷ follow error_behind ∷ []) 3 [] ≡ false
  -- a function is entered, and avoided
  pub entered : hit recurse (follow (Enter (at 2 56)) ∷ follow (Return (at 4 6) None) ∷ target 5 3 ∷ []) 4 [] ≡ true
  pub entered_four_times : hit recurse (follow (Enter (at 4 6)) ∷ follow (Enter (at 2 56)) ∷ follow (Enter (at 2 56)) ∷ follow (Enter (at 2 56)) ∷ target 5 3 ∷ []) 4 [] ≡ true
  pub not_five_times : hit recurse (follow (Enter (at 2 56)) ∷ follow (Enter (at 2 56)) ∷ follow (Enter (at 2 56)) ∷ follow (Enter (at 2 56)) ∷ target 5 3 ∷ []) 4 [] ≡ false
  pub entry_avoided : hit recurse (avoid_then (Enter (at 2 56)) error_behind ∷ []) 4 [] ≡ false
  -- the innermost call sees its own parameter
  pub parameter_is_zero : hit recurse (follow (Assume (at 2 30) (first_is 0)) ∷ target 5 3 ∷ []) 4 [] ≡ true
  pub parameter_is_one : hit recurse (follow (Assume (at 2 30) (first_is 1)) ∷ target 5 3 ∷ []) 4 [] ≡ false
  -- a function that gives no value returns, and meets no constraint
  pub returned : hit no_value_given (follow (Return (at 4 5) None) ∷ target 5 3 ∷ []) 1 [] ≡ true
  pub meets_none : hit no_value_given (follow (Return (at 4 5) (Some (gives 0))) ∷ target 5 3 ∷ []) 1 [] ≡ false
  pub avoids_none : hit no_value_given (record { avoids = Return (at 4 5) (Some (gives 0)) ∷ []; follow = Target (Line 5) } ∷ []) 1 [] ≡ true
  -- ways: of `?:`, of a loop's last test, of a switch
  pub first_way : hit error_or_abort (follow (takes 4 27 (Truth true)) ∷ target 4 3 ∷ []) 1 (pos 1 ∷ []) ≡ true
  pub second_way : hit error_or_abort (follow (takes 4 27 (Truth false)) ∷ target 4 3 ∷ []) 1 (pos 0 ∷ []) ≡ false
  pub loop_left : hit count_to_three (follow (takes 4 3 (Truth false)) ∷ target 8 3 ∷ []) 3 [] ≡ true
  pub loop_left_avoided : hit count_to_three (record { avoids = takes 4 3 (Truth false) ∷ []; follow = error_behind } ∷ []) 3 [] ≡ false
  pub case_chosen : hit fall_through (follow (takes 6 3 (Case (pos 1))) ∷ target 12 5 ∷ []) 1 (pos 1 ∷ []) ≡ true
  pub other_case : hit fall_through (follow (takes 6 3 (Case (pos 2))) ∷ target 12 5 ∷ []) 1 (pos 1 ∷ []) ≡ false
  pub default_way : hit fall_through (follow (takes 6 3 Default) ∷ target 12 5 ∷ []) 1 (pos 1 ∷ []) ≡ false
  pub case_avoided : hit fall_through (record { avoids = takes 6 3 (Case (pos 1)) ∷ []; follow = Target (Line 12) } ∷ []) 1 (pos 1 ∷ []) ≡ false
  pub each_way : hit error_after_switches (follow (takes 5 5 (Case (pos 0))) ∷ follow (takes 5 5 (Case (pos 1))) ∷ follow (takes 5 5 Default) ∷ target 11 3 ∷ []) 3 [] ≡ true
