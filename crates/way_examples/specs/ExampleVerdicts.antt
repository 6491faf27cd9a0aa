-- The right verdicts on violation witnesses of the example programs.
use Rattle.std.specs.Prelude.{◌≡◌, ℕ, pos, negsuc, Bool, true, false, List, [], ◌∷◌, Some, None}
use Rattle.c_core.specs.Tree.{Exp, Unary, Const, Program}
use Rattle.c_core.specs.declared.number.IntType.{IntType}
use Rattle.c_core.specs.declared.number.IntType.TheVariants.{Int, LongLong}
use Rattle.c_core.specs.declared.number.Property.TheVariants.{UnreachCall, NoOverflow}
use Rattle.c_core.specs.declared.number.BinOp.TheVariants.{Div, Rem, Ge, Eq}
use Rattle.c_core.specs.declared.number.UnOp.TheVariants.{Neg}
use Rattle.c_meaning.specs.declared.verdict.Verdict.TheVariants.{ViolationConfirmed, ViolationNot, Undecided}
use Rattle.c_meaning.specs.declared.verdict.Reason.TheVariants.{Ended, Undefined, Unmatched}
use Rattle.c_meaning.specs.declared.verdict.Cause.TheVariants.{Steps}
use Rattle.c_meaning.specs.Examples.{at, drawn, exp, number, object, operation, branch_on_input, add_to_input, combine_inputs, count_to_three, recurse}
use Rattle.way_match.specs.Points.{At, Line, Point, Assume, Target, Enter, Return, BoundSegment}
use Rattle.way_match.specs.Matching.{matches}
use Rattle.way_match.specs.Given.{SeenGiven}
use Rattle.way_match.specs.Verdicts.{IsRightOnViolation}

-- a segment without avoids
abbrev pub follow : Point → BoundSegment
follow x = record { avoids = []; follow = x }

abbrev pub avoid_then : Point → Point → BoundSegment
avoid_then x y = record { avoids = x ∷ []; follow = y }

abbrev pub target : ℕ → ℕ → BoundSegment
target l c = follow (Target (At (at l c)))

-- a function returns a value with `\result == e`
abbrev pub returns : ℕ → ℕ → Exp → BoundSegment
returns l c e = follow (Return (at l c) (Some (record { op = Eq; constant = e })))

-- `-v`
abbrev pub minus : IntType → ℕ → Exp
minus ty v = exp ty 1 12 (Unary Neg (exp ty 1 13 (Const (pos v))))

-- the first object compared with a number
abbrev pub first_is : ℕ → Exp
first_is v = operation 1 1 Eq (object 1 1 0) (number 1 6 v)

abbrev pub first_is_least : ℕ → Exp
first_is_least v = operation 1 1 Ge (object 1 1 0) (number 1 6 v)

abbrev pub five_then_target : List BoundSegment
five_then_target = returns 4 33 (number 1 12 5) ∷ target 6 5 ∷ []

abbrev pub division : ℕ → ℕ → List BoundSegment
division x y = returns 3 33 (minus LongLong x) ∷ returns 4 33 (minus Int y) ∷ target 5 3 ∷ []

-- of count_to_three: an assumption at the use of i in the loop, one before its step, the error after the loop
abbrev pub inside : Exp → Point
inside e = Assume (at 6 5) e

abbrev pub before_step : Exp → Point
before_step e = Assume (at 5 5) e

abbrev pub error_behind : Point
error_behind = Target (At (at 8 3))

-- the default budget
abbrev pub budget : ℕ
budget = 10000000

-- positions in a run without given values
abbrev pub match_in : Program → List BoundSegment → List ℕ → Bool
match_in p ss positions = matches p ss (SeenGiven p [] budget) positions

abbrev pub match_in_loop : List BoundSegment → List ℕ → Bool
match_in_loop ss positions = match_in count_to_three ss positions

pub record ExampleVerdicts : Type 0 where
  -- a returned value, then the target
  pub returned_five : IsRightOnViolation (branch_on_input 5) five_then_target
      budget (ViolationConfirmed (drawn (at 4 11) Int (pos 5) ∷ []) (2 ∷ 8 ∷ []))
  pub eleven_steps : IsRightOnViolation (branch_on_input 5) five_then_target 11 (ViolationConfirmed (drawn (at 4 11) Int (pos 5) ∷ []) (2 ∷ 8 ∷ []))
  pub ten_steps : IsRightOnViolation (branch_on_input 5) five_then_target 10 (Undecided (Steps 10))
  -- another value doesn't reach the error
  pub returned_six : IsRightOnViolation (branch_on_input 5) (returns 4 33 (number 1 12 6) ∷ target 6 5 ∷ [])
      budget (ViolationNot Ended 0)
  -- the violation is elsewhere than the target
  pub other_target : IsRightOnViolation (branch_on_input 5) (returns 4 33 (number 1 12 5) ∷ target 8 3 ∷ [])
      budget (ViolationNot Unmatched 0)
  -- no value is given
  pub target_alone : IsRightOnViolation (branch_on_input 5) (target 6 5 ∷ []) budget (ViolationNot Ended 1)
  pub target_alone_by_zero : IsRightOnViolation (branch_on_input 0) (target 6 5 ∷ [])
      budget (ViolationConfirmed (drawn (at 4 11) Int (pos 0) ∷ []) (8 ∷ []))
  -- a target without column
  pub target_on_line : IsRightOnViolation (branch_on_input 0) (follow (Target (Line 6)) ∷ [])
      budget (ViolationConfirmed (drawn (at 4 11) Int (pos 0) ∷ []) (8 ∷ []))
  -- an assumption after the input gives its value
  pub assumed_five : IsRightOnViolation (branch_on_input 5) (follow (Assume (at 5 3) (first_is 5)) ∷ target 6 5 ∷ [])
      budget (ViolationConfirmed (drawn (at 4 11) Int (pos 5) ∷ []) (3 ∷ 8 ∷ []))
  -- an overflow is the violation of one property alone
  pub overflow : IsRightOnViolation (add_to_input NoOverflow) (returns 3 33 (number 1 12 2147483647) ∷ target 4 3 ∷ [])
      budget (ViolationConfirmed (drawn (at 3 11) Int (pos 2147483647) ∷ []) (2 ∷ 4 ∷ []))
  pub wraps : IsRightOnViolation (add_to_input UnreachCall) (returns 3 33 (number 1 12 2147483647) ∷ target 4 3 ∷ [])
      budget (ViolationNot Ended 0)
  -- the quotient is out of range, for `/` and for `%`
  pub quotient : IsRightOnViolation (combine_inputs NoOverflow Div) (division 2147483648 1)
      budget (ViolationConfirmed (drawn (at 3 11) Int (negsuc 2147483647) ∷ drawn (at 4 11) Int (negsuc 0) ∷ []) (2 ∷ 5 ∷ 7 ∷ []))
  pub remainder : IsRightOnViolation (combine_inputs NoOverflow Rem) (division 2147483648 1)
      budget (ViolationConfirmed (drawn (at 3 11) Int (negsuc 2147483647) ∷ drawn (at 4 11) Int (negsuc 0) ∷ []) (2 ∷ 5 ∷ 7 ∷ []))
  pub by_zero : IsRightOnViolation (combine_inputs NoOverflow Div) (returns 3 33 (number 1 12 1) ∷ returns 4 33 (number 1 12 0) ∷ target 5 3 ∷ [])
      budget (ViolationNot (Undefined (at 5 3)) 0)
  -- an avoid rules out the earlier position
  pub later_position : IsRightOnViolation count_to_three (follow (inside (first_is_least 2)) ∷ avoid_then (before_step (first_is 2)) error_behind ∷ [])
      budget (ViolationConfirmed [] (13 ∷ 17 ∷ []))
  -- an avoid holds at the position itself
  pub avoided_itself : IsRightOnViolation count_to_three (avoid_then (inside (first_is 3)) (inside (first_is 3)) ∷ target 8 3 ∷ [])
      budget (ViolationNot Unmatched 0)
  pub recursion : IsRightOnViolation recurse (target 5 3 ∷ []) budget (ViolationConfirmed [] (24 ∷ []))

-- which positions match
pub record ExampleMatches : Type 0 where
  -- two assumptions may share an event, and the second's avoids aren't tested there
  pub assumptions_share : match_in_loop (follow (inside (first_is_least 3)) ∷ avoid_then (inside (first_is 3)) (inside (first_is 3)) ∷ follow error_behind ∷ []) (13 ∷ 13 ∷ 17 ∷ []) ≡ true
  -- two others may not
  pub returns_differ : match_in (branch_on_input 0) (returns 4 33 (number 1 12 0) ∷ returns 4 33 (number 1 12 0) ∷ target 6 5 ∷ []) (2 ∷ 2 ∷ 8 ∷ []) ≡ false
  -- the first of several positions is avoided before the second segment is passed
  pub first_is_avoided : match_in_loop (follow (inside (first_is_least 2)) ∷ avoid_then (before_step (first_is 2)) error_behind ∷ []) (9 ∷ 17 ∷ []) ≡ false
  -- positions rise
  pub never_back : match_in_loop (follow (inside (first_is 2)) ∷ follow (inside (first_is 1)) ∷ follow error_behind ∷ []) (9 ∷ 5 ∷ 17 ∷ []) ≡ false
  -- the last position is the last event, and there is one for each segment
  pub last_is_last : match_in_loop (follow (inside (first_is 2)) ∷ []) (9 ∷ []) ≡ false
  pub one_for_each : match_in_loop (follow error_behind ∷ []) (13 ∷ 17 ∷ []) ≡ false
  -- calls are entered and left at their closing parentheses
  pub entered : match_in recurse (follow (Enter (at 2 56)) ∷ follow (Return (at 4 6) None) ∷ target 5 3 ∷ []) (5 ∷ 21 ∷ 24 ∷ []) ≡ true
