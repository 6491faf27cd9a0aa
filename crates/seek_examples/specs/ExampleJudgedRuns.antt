-- How judged runs in the mode of runs that seek end on example programs, and which duty is theirs.
use Rattle.std.specs.Prelude.{◌≡◌, ℕ, suc, ℤ, pos, true, false, List, [], ◌∷◌, length, Option, Some, None}
use Rattle.c_core.specs.Tree.{Program}
use Rattle.c_core.specs.declared.number.IntType.TheVariants.{Int}
use Rattle.c_core.specs.declared.number.Property.TheVariants.{NoOverflow}
use Rattle.c_core.specs.declared.number.BinOp.TheVariants.{Div}
use Rattle.c_meaning.specs.declared.run.DutyKind.{DutyKind}
use Rattle.c_meaning.specs.declared.run.Way.TheVariants.{Truth}
use Rattle.c_meaning.specs.Meaning.{Where}
use Rattle.c_meaning.specs.Acts.{Res, Go, Stop, Flow, Gave}
use Rattle.c_meaning.specs.Duties.{duty, same_duty, number_among}
use Rattle.c_meaning.specs.Examples.{at, drawn, number, branch_on_input, combine_inputs, count_to_three, recurse}
use Rattle.c_meaning.specs.Havoc.{Stopped, Passes, Fails}
use Rattle.way_match.specs.Points.{Enter, Branch, BoundSegment}
use Rattle.way_examples.specs.ExampleVerdicts.{follow, target, returns, inside, first_is}
use Rattle.sym_meaning.specs.Mode.{JudgedState}
use Rattle.seek_mode.specs.SeekingMode.{the_hit, seeking_mode}
use Rattle.seek_mode.specs.SoughtRuns.{judged_to_seek}
use Rattle.seek_examples.specs.SeekPrograms.{without_test, overflow_in_test, error_or_abort}

-- how a run ends before its program does
abbrev pub stopped : Res Stopped JudgedState Flow → Option Stopped
stopped (Go a s) = None
stopped (Stop e s) = Some e

abbrev pub ends_judged : Program → List BoundSegment → ℕ → List ℤ → Option Stopped
ends_judged p ss k w = stopped (judged_to_seek p ss k w)

pub record ExampleJudgedRuns : Type 0 where
  -- a hit and a miss, with all that is left of the run
  pub five : judged_to_seek (branch_on_input 5) (target 6 5 ∷ []) 8 (pos 5 ∷ []) ≡ Stop (Fails the_hit)
      (record { cells = record { key = record { object = 0; index = 0 }; value = pos 5 } ∷ []; values = []; draws = drawn (at 4 11) Int (pos 5) ∷ []; completed = true ∷ [] })
  pub six : judged_to_seek (branch_on_input 5) (target 6 5 ∷ []) 8 (pos 6 ∷ pos 7 ∷ []) ≡ Go (Gave (Some (pos 0)))
      (record { cells = []; values = pos 7 ∷ []; draws = drawn (at 4 11) Int (pos 6) ∷ []; completed = true ∷ [] })
  -- a violation at no target, and a division by zero, are misses
  pub elsewhere : ends_judged (branch_on_input 5) (target 8 3 ∷ []) 8 (pos 5 ∷ []) ≡ Some Passes
  pub by_zero : ends_judged (combine_inputs NoOverflow Div) (target 5 3 ∷ []) 1 (pos 1 ∷ pos 0 ∷ []) ≡ Some Passes
  -- loops and calls at their bounds: the test after the last body is done, and no body after it
  pub three_turns : (w : List ℤ) → ends_judged count_to_three (target 8 3 ∷ []) 3 w ≡ Some (Fails the_hit)
  pub third_turn_beyond : (w : List ℤ) → ends_judged count_to_three (target 8 3 ∷ []) 2 w ≡ Some Passes
  pub four_deep : (w : List ℤ) → ends_judged recurse (target 5 3 ∷ []) 4 w ≡ Some (Fails the_hit)
  pub fourth_call_beyond : (w : List ℤ) → ends_judged recurse (target 5 3 ∷ []) 3 w ≡ Some Passes
  pub last_test : ends_judged overflow_in_test (target 3 10 ∷ []) 1 [] ≡ Some (Fails the_hit)
  pub second_body : ends_judged without_test (target 7 7 ∷ []) 2 [] ≡ Some (Fails the_hit)
  pub second_body_beyond : ends_judged without_test (target 7 7 ∷ []) 1 [] ≡ Some Passes
  -- events complete segments: a statement, a call, its value, a way
  pub assumed : ends_judged count_to_three (follow (inside (first_is 3)) ∷ target 8 3 ∷ []) 3 [] ≡ Some (Fails the_hit)
  pub never_assumed : ends_judged count_to_three (follow (inside (first_is 4)) ∷ target 8 3 ∷ []) 3 [] ≡ Some Passes
  pub entered : ends_judged recurse (follow (Enter (at 2 56)) ∷ target 5 3 ∷ []) 4 [] ≡ Some (Fails the_hit)
  pub returned : ends_judged (branch_on_input 5) (returns 4 33 (number 1 12 5) ∷ target 6 5 ∷ []) 8 (pos 5 ∷ []) ≡ Some (Fails the_hit)
  pub not_returned : ends_judged (branch_on_input 5) (returns 4 33 (number 1 12 6) ∷ target 6 5 ∷ []) 8 (pos 5 ∷ []) ≡ Some Passes
  pub first_way : ends_judged error_or_abort (follow (Branch (at 4 27) (Truth true)) ∷ target 4 3 ∷ []) 1 (pos 1 ∷ []) ≡ Some (Fails the_hit)
  pub other_way : ends_judged error_or_abort (follow (Branch (at 4 27) (Truth false)) ∷ target 4 3 ∷ []) 1 (pos 1 ∷ []) ≡ Some Passes
  -- the one duty has number 1, whatever is violated
  pub one_duty : (p : Program) (ss : List BoundSegment) (k : ℕ) → length (seeking_mode p ss k).duties ≡ 1
  pub its_number : (p : Program) (ss : List BoundSegment) (k : ℕ) (at : Where) → number_among ((seeking_mode p ss k).duty_at at) (seeking_mode p ss k).duties ≡ 1
  -- it is no obligation at a line of a text
  pub at_no_line : (line column : ℕ) (kind : DutyKind) (i : Option ℕ) → same_duty the_hit (duty (at (suc line) column) kind i) ≡ false
