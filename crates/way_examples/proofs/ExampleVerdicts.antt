-- The verdicts on the examples, by computation.
use Rattle.std.proofs.Common.{◌≡◌, ℕ, suc, Bool, true, false, List, [], ◌∷◌, length, Option, Some, None, slice_get, ◌||◌, refl, sym, ap, subst, arith}
use Rattle.c_core.specs.Types.{residue, signed_of, wrapped}
use Rattle.c_core.specs.Tree.{Program}
use Rattle.c_core.specs.declared.number.BinOp.TheVariants.{Div, Rem}
use Rattle.c_core.specs.declared.number.Property.TheVariants.{NoOverflow}
use Rattle.c_meaning.specs.Examples.{at, number, branch_on_input, add_to_input, combine_inputs, count_to_three, recurse}
use Rattle.way_match.specs.Points.{Line, Point, Assume, Target, BoundSegment}
use Rattle.way_match.specs.Matching.{Seen, Matches, matches, seen_passes, seen_passes_any}
use Rattle.way_match.specs.Passing.{passes}
use Rattle.way_match.specs.Given.{SeenGiven}
use Rattle.way_examples.specs.ExampleVerdicts.{follow, avoid_then, inside, before_step, error_behind, target, returns, first_is, first_is_least, five_then_target, division, budget, ExampleVerdicts, ExampleMatches}
use Rattle.way_match.proofs.Tested.{tested}

-- positions that pass the test match
at_these : (p : Program) (ss : List BoundSegment) (N : ℕ) (ns : List ℕ) → matches p ss (SeenGiven p ss N) ns ≡ true → Matches p ss (SeenGiven p ss N) ns
at_these p ss N ns e = (tested p ss (SeenGiven p ss N) ns).0 e

true_false : true ≡ false → ⊥
true_false e = let x : true ≡ false = e in cc

yes_no : (b : Bool) → b ≡ true → b ≡ false → ⊥
yes_no true e f = true_false f
yes_no false e f = true_false (sym e)

-- where the last event doesn't pass the last of two follows, nothing matches
last_misses : (p : Program) (s t : BoundSegment) (es : List Seen) (k : ℕ) → length es ≡ suc k → seen_passes p (slice_get es k) t.follow ≡ false → (ns : List ℕ) → Matches p (s ∷ t ∷ []) es ns → ⊥
last_misses p s t es k l f [] m = m
last_misses p s t es k l f (n ∷ []) m = m.3
last_misses p s t es k l f (n ∷ n' ∷ []) m =
    let e : n' ≡ k = omega (arith, m.3.3, l) in yes_no (seen_passes p (slice_get es k) t.follow) (subst (λ x. seen_passes p (slice_get es x) t.follow ≡ true) e m.3.0) f
last_misses p s t es k l f (n ∷ n' ∷ n'' ∷ ns) m = m.3.3

passed_and_not : (p : Program) (x : Point) (s : Option Seen) → seen_passes p s x ≡ true → seen_passes_any p s (x ∷ []) ≡ false → ⊥
passed_and_not p x None e f = true_false (sym e)
passed_and_not p x (Some s) e f = yes_no (passes p x s.event s.cells || false) (ap (λ b. b || false) e) f

-- where a segment avoids its own follow, nothing matches
own_avoid : (p : Program) (x : Point) (ss : List BoundSegment) (es : List Seen) (ns : List ℕ) → Matches p (avoid_then x x ∷ ss) es ns → ⊥
own_avoid p x ss es [] m = m
own_avoid p x ss es (n ∷ ns) m = passed_and_not p x (slice_get es n) m.0 (m.2 n (omega arith) (omega arith))

pub example_verdicts : ExampleVerdicts
unfolding residue signed_of wrapped
example_verdicts = record {
  returned_five = (Some (2 ∷ 8 ∷ []), at_these (branch_on_input 5) five_then_target budget (2 ∷ 8 ∷ []) refl, refl);
  eleven_steps = (Some (2 ∷ 8 ∷ []), at_these (branch_on_input 5) five_then_target 11 (2 ∷ 8 ∷ []) refl, refl);
  ten_steps = refl;
  returned_six = refl;
  other_target = (None, last_misses (branch_on_input 5) (returns 4 33 (number 1 12 5)) (target 8 3) (SeenGiven (branch_on_input 5) (returns 4 33 (number 1 12 5) ∷ target 8 3 ∷ []) budget) 8 refl refl, refl);
  target_alone = refl;
  target_alone_by_zero = (Some (8 ∷ []), at_these (branch_on_input 0) (target 6 5 ∷ []) budget (8 ∷ []) refl, refl);
  target_on_line = (Some (8 ∷ []), at_these (branch_on_input 0) (follow (Target (Line 6)) ∷ []) budget (8 ∷ []) refl, refl);
  assumed_five = (Some (3 ∷ 8 ∷ []), at_these (branch_on_input 5) (follow (Assume (at 5 3) (first_is 5)) ∷ target 6 5 ∷ []) budget (3 ∷ 8 ∷ []) refl, refl);
  overflow = (Some (2 ∷ 4 ∷ []), at_these (add_to_input NoOverflow) (returns 3 33 (number 1 12 2147483647) ∷ target 4 3 ∷ []) budget (2 ∷ 4 ∷ []) refl, refl);
  wraps = refl;
  quotient = (Some (2 ∷ 5 ∷ 7 ∷ []), at_these (combine_inputs NoOverflow Div) (division 2147483648 1) budget (2 ∷ 5 ∷ 7 ∷ []) refl, refl);
  remainder = (Some (2 ∷ 5 ∷ 7 ∷ []), at_these (combine_inputs NoOverflow Rem) (division 2147483648 1) budget (2 ∷ 5 ∷ 7 ∷ []) refl, refl);
  by_zero = refl;
  later_position = (Some (13 ∷ 17 ∷ []), at_these count_to_three (follow (inside (first_is_least 2)) ∷ avoid_then (before_step (first_is 2)) error_behind ∷ []) budget (13 ∷ 17 ∷ []) refl, refl);
  avoided_itself = (None, own_avoid count_to_three (inside (first_is 3)) (target 8 3 ∷ []) (SeenGiven count_to_three (avoid_then (inside (first_is 3)) (inside (first_is 3)) ∷ target 8 3 ∷ []) budget), refl);
  recursion = (Some (24 ∷ []), at_these recurse (target 5 3 ∷ []) budget (24 ∷ []) refl, refl);
}

pub example_matches : ExampleMatches
unfolding residue signed_of wrapped
example_matches = record {
  assumptions_share = refl;
  returns_differ = refl;
  first_is_avoided = refl;
  never_back = refl;
  last_is_last = refl;
  one_for_each = refl;
  entered = refl;
}
