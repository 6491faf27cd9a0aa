-- The obligations of the example programs, and havoc runs that end at them.
use Rattle.std.specs.Prelude.{◌≡◌, ℕ, ℤ, pos, negsuc, true, List, [], ◌∷◌, Some, None}
use Rattle.c_core.specs.Tree.{Exp, Binary, Logic, Var}
use Rattle.c_core.specs.declared.number.Spot.{Spot}
use Rattle.c_core.specs.declared.number.IntType.{IntType}
use Rattle.c_core.specs.declared.number.IntType.TheVariants.{Int, UInt}
use Rattle.c_core.specs.declared.number.DataModel.TheVariants.{Ilp32, Lp64}
use Rattle.c_core.specs.declared.number.Property.TheVariants.{UnreachCall, NoOverflow}
use Rattle.c_core.specs.declared.number.BinOp.TheVariants.{Add, Le, Eq}
use Rattle.c_meaning.specs.declared.run.DrawKind.TheVariants.{Havoc as AHavocDraw}
use Rattle.c_meaning.specs.declared.run.Draw.{Draw}
use Rattle.c_meaning.specs.declared.run.DutyKind.TheVariants.{Entry, Kept, Property as PropertyKind}
use Rattle.c_meaning.specs.declared.run.HavocEnd.{HavocEnd}
use Rattle.c_meaning.specs.declared.run.HavocEnd.TheVariants.{Passed, Dismissed, Failed}
use Rattle.c_meaning.specs.declared.run.HavocRun.{HavocRun}
use Rattle.c_meaning.specs.Duties.{Placed, duty, Duties}
use Rattle.c_meaning.specs.Havoc.{Havoc}
use Rattle.c_meaning.specs.Examples.{at, drawn, exp, number, object, operation, branch_on_difference, step_char, add_to_long, count_down, count_to_ten, count_calls}
use Rattle.meaning_examples.specs.Loops.{element, fill_in_loops}
use Rattle.meaning_examples.specs.Switches.{fall_through, switch_in_loop, rows_and_columns}

-- a value drawn at the head of a loop
abbrev pub redrawn : Spot → IntType → ℤ → Draw
redrawn spot ty v = record { spot = spot; ty = ty; value = v; from = AHavocDraw }

abbrev pub left : HavocEnd → List Draw → HavocRun
left e draws = record { end = e; draws = draws }

abbrev pub loop_invariant : ℕ → ℕ → Exp → List Placed
loop_invariant l c e = record { at_loop = true; spot = at l c; test = e } ∷ []

abbrev pub counter : ℕ → ℕ → Exp
counter c o = exp UInt 1 c (Var o)

-- of count_down: `x + y == n`, `x <= n`, `0`
abbrev pub sum_kept : List Placed
sum_kept = loop_invariant 17 3 (operation 1 1 Eq (exp UInt 1 1 (Binary Add (counter 1 2) (counter 5 3))) (counter 10 1))

abbrev pub bound_kept : List Placed
bound_kept = loop_invariant 17 3 (operation 1 1 Le (counter 1 2) (counter 6 1))

abbrev pub never_true : List Placed
never_true = loop_invariant 17 3 (number 1 1 0)

-- of count_to_ten: `0 <= x && x <= 10`
abbrev pub in_bounds : List Placed
in_bounds = loop_invariant 4 3 (exp Int 1 1 (Logic true (operation 1 1 Le (number 1 1 0) (object 1 6 0)) (operation 1 11 Le (object 1 11 0) (number 1 16 10))))

-- of count_calls: `g == 0`
abbrev pub nothing_counted : List Placed
nothing_counted = loop_invariant 7 3 (operation 1 1 Eq (object 1 1 0) (number 1 6 0))

-- of fill_in_loops: `a[1] == 0`, at the inner loop
abbrev pub second_is_zero : List Placed
second_is_zero = loop_invariant 6 5 (operation 1 1 Eq (element 1 1 0 (number 1 3 1)) (number 1 9 0))

pub record ExampleHavocRuns : Type 0 where
  -- `c++` on a char computes in int, which is signed: an obligation, and it holds
  pub steps_of_a_char : Duties step_char [] ≡ (duty (at 3 3) PropertyKind None ∷ [])
  pub a_char_wraps : Havoc step_char [] [] ≡ left Passed []
  -- the call in the function before, then the loop
  pub duties_of_a_loop : Duties count_down sum_kept ≡
      (duty (at 7 13) PropertyKind None ∷ duty (at 17 3) Entry (Some 0) ∷ duty (at 17 3) Kept (Some 0) ∷ [])
  pub kept : Havoc count_down sum_kept (pos 5 ∷ pos 2 ∷ pos 3 ∷ []) ≡
      left Passed (drawn (at 15 20) UInt (pos 5) ∷ redrawn (at 17 3) UInt (pos 2) ∷ redrawn (at 17 3) UInt (pos 3) ∷ [])
  -- a draw under which the invariant does not hold
  pub dismissed : Havoc count_down sum_kept (pos 5 ∷ pos 2 ∷ pos 4 ∷ []) ≡
      left Dismissed (drawn (at 15 20) UInt (pos 5) ∷ redrawn (at 17 3) UInt (pos 2) ∷ redrawn (at 17 3) UInt (pos 4) ∷ [])
  pub left_with_it : Havoc count_down sum_kept (pos 5 ∷ pos 0 ∷ pos 5 ∷ []) ≡
      left Passed (drawn (at 15 20) UInt (pos 5) ∷ redrawn (at 17 3) UInt (pos 0) ∷ redrawn (at 17 3) UInt (pos 5) ∷ [])
  pub duties_of_a_weaker_one : Duties count_down bound_kept ≡
      (duty (at 7 13) PropertyKind None ∷ duty (at 17 3) Entry (Some 0) ∷ duty (at 17 3) Kept (Some 0) ∷ [])
  -- the invariant holds and the error is reached
  pub too_weak : Havoc count_down bound_kept (pos 3 ∷ pos 0 ∷ pos 7 ∷ []) ≡
      left (Failed 1) (drawn (at 15 20) UInt (pos 3) ∷ redrawn (at 17 3) UInt (pos 0) ∷ redrawn (at 17 3) UInt (pos 7) ∷ [])
  pub strong_enough_here : Havoc count_down bound_kept (pos 3 ∷ pos 0 ∷ pos 3 ∷ []) ≡
      left Passed (drawn (at 15 20) UInt (pos 3) ∷ redrawn (at 17 3) UInt (pos 0) ∷ redrawn (at 17 3) UInt (pos 3) ∷ [])
  pub beyond_the_bound : Havoc count_down bound_kept (pos 3 ∷ pos 4 ∷ pos 0 ∷ []) ≡
      left Dismissed (drawn (at 15 20) UInt (pos 3) ∷ redrawn (at 17 3) UInt (pos 4) ∷ redrawn (at 17 3) UInt (pos 0) ∷ [])
  pub duties_of_a_false_one : Duties count_down never_true ≡
      (duty (at 7 13) PropertyKind None ∷ duty (at 17 3) Entry (Some 0) ∷ duty (at 17 3) Kept (Some 0) ∷ [])
  pub false_on_arrival : Havoc count_down never_true (pos 4 ∷ []) ≡ left (Failed 2) (drawn (at 15 20) UInt (pos 4) ∷ [])
  pub duties_of_counting : Duties (count_to_ten UnreachCall) in_bounds ≡
      (duty (at 4 3) Entry (Some 0) ∷ duty (at 4 3) Kept (Some 0) ∷ duty (at 8 5) PropertyKind None ∷ [])
  pub last_turn : Havoc (count_to_ten UnreachCall) in_bounds (pos 9 ∷ []) ≡ left Passed (redrawn (at 4 3) Int (pos 9) ∷ [])
  pub after_the_last_turn : Havoc (count_to_ten UnreachCall) in_bounds (pos 10 ∷ []) ≡
      left Passed (redrawn (at 4 3) Int (pos 10) ∷ [])
  pub out_of_bounds : Havoc (count_to_ten UnreachCall) in_bounds (pos 11 ∷ []) ≡
      left Dismissed (redrawn (at 4 3) Int (pos 11) ∷ [])
  -- under the other property
  pub duties_of_adding : Duties (count_to_ten NoOverflow) in_bounds ≡
      (duty (at 4 3) Entry (Some 0) ∷ duty (at 4 3) Kept (Some 0) ∷ duty (at 5 5) PropertyKind None ∷ [])
  pub last_sum : Havoc (count_to_ten NoOverflow) in_bounds (pos 9 ∷ []) ≡ left Passed (redrawn (at 4 3) Int (pos 9) ∷ [])
  pub no_more_sums : Havoc (count_to_ten NoOverflow) in_bounds (pos 10 ∷ []) ≡ left Passed (redrawn (at 4 3) Int (pos 10) ∷ [])
  pub greatest_is_dismissed : Havoc (count_to_ten NoOverflow) in_bounds (pos 2147483647 ∷ []) ≡
      left Dismissed (redrawn (at 4 3) Int (pos 2147483647) ∷ [])
  pub duty_of_a_call : Duties branch_on_difference [] ≡ (duty (at 6 5) PropertyKind None ∷ [])
  pub difference_is_zero : Havoc branch_on_difference [] (negsuc 6 ∷ []) ≡ left Passed (drawn (at 4 11) Int (negsuc 6) ∷ [])
  pub duties_of_calls : Duties count_calls nothing_counted ≡
      (duty (at 7 3) Entry (Some 0) ∷ duty (at 7 3) Kept (Some 0) ∷ duty (at 12 5) PropertyKind None ∷ [])
  -- a static object that called functions change is drawn, and the invariant on it is not kept
  pub counted_in_a_call : Havoc count_calls nothing_counted (pos 0 ∷ pos 2 ∷ []) ≡
      left (Failed 2) (redrawn (at 7 3) Int (pos 0) ∷ redrawn (at 7 3) Int (pos 2) ∷ [])
  pub no_turn_left : Havoc count_calls nothing_counted (pos 0 ∷ pos 3 ∷ []) ≡
      left Passed (redrawn (at 7 3) Int (pos 0) ∷ redrawn (at 7 3) Int (pos 3) ∷ [])
  pub already_counted : Havoc count_calls nothing_counted (pos 1 ∷ pos 0 ∷ []) ≡
      left Dismissed (redrawn (at 7 3) Int (pos 1) ∷ redrawn (at 7 3) Int (pos 0) ∷ [])
  -- all cells of an array that a loop changes are drawn at its head, and at the head of a loop in it once more
  pub all_cells : Havoc fill_in_loops [] (pos 9 ∷ pos 8 ∷ pos 1 ∷ pos 7 ∷ pos 6 ∷ []) ≡
      left Passed (redrawn (at 5 3) Int (pos 9) ∷ redrawn (at 5 3) Int (pos 8) ∷ redrawn (at 5 3) Int (pos 1) ∷ redrawn (at 6 5) Int (pos 7) ∷ redrawn (at 6 5) Int (pos 6) ∷ [])
  pub duties_of_an_inner_loop : Duties fill_in_loops second_is_zero ≡
      (duty (at 6 5) Entry (Some 0) ∷ duty (at 6 5) Kept (Some 0) ∷ duty (at 13 5) PropertyKind None ∷ [])
  -- a loop that is left by `break` isn't tested there: `a[1] = 1` comes before it
  pub left_untested : Havoc fill_in_loops second_is_zero (pos 0 ∷ pos 0 ∷ pos 1 ∷ []) ≡
      left Passed (redrawn (at 5 3) Int (pos 0) ∷ redrawn (at 5 3) Int (pos 0) ∷ redrawn (at 5 3) Int (pos 1) ∷ redrawn (at 6 5) Int (pos 0) ∷ redrawn (at 6 5) Int (pos 0) ∷ [])
  pub duty_of_a_sum : Duties (add_to_long Ilp32) [] ≡ (duty (at 3 3) PropertyKind None ∷ [])
  -- the width of long is the data model's
  pub overflows_in_32_bits : Havoc (add_to_long Ilp32) [] [] ≡ left (Failed 1) []
  pub duty_of_a_long_sum : Duties (add_to_long Lp64) [] ≡ (duty (at 3 3) PropertyKind None ∷ [])
  pub fits_in_64_bits : Havoc (add_to_long Lp64) [] [] ≡ left Passed []
  pub duty_behind_a_switch : Duties fall_through [] ≡ (duty (at 12 5) PropertyKind None ∷ [])
  pub falls_through : Havoc fall_through [] (pos 1 ∷ []) ≡ left (Failed 1) (drawn (at 4 11) Int (pos 1) ∷ [])
  pub leaves_by_break : Havoc fall_through [] (pos 2 ∷ []) ≡ left Passed (drawn (at 4 11) Int (pos 2) ∷ [])
  pub goes_by_default : Havoc fall_through [] (pos 7 ∷ []) ≡ left Passed (drawn (at 4 11) Int (pos 7) ∷ [])
  -- a turn that `continue` ends in an arm comes back to the head
  pub continued_in_an_arm : Havoc switch_in_loop [] (pos 0 ∷ []) ≡ left Passed (redrawn (at 3 3) Int (pos 0) ∷ [])
  pub rows_reach_the_error : Havoc (rows_and_columns 1 2) [] [] ≡ left (Failed 1) []
  pub no_such_column : Havoc (rows_and_columns 0 3) [] [] ≡ left Passed []
