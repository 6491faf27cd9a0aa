-- How runs with a bound end, by computation.
use Rattle.std.proofs.Common.{◌≡◌, ℕ, ℤ, true, false, List, [], ◌∷◌, refl, sym, ◌∙◌, ap, true≢false, Bool, pos}
use Rattle.c_core.specs.Types.{residue, signed_of, wrapped}
use Rattle.c_core.specs.Tree.{Program}
use Rattle.c_core.specs.declared.number.Spot.{Spot}
use Rattle.c_meaning.specs.declared.run.End.TheVariants.{Violated}
use Rattle.c_meaning.specs.declared.run.Choices.TheVariants.{InTurn}
use Rattle.c_meaning.specs.Examples.{at, branch_on_input, count_to_three, recurse}
use Rattle.c_meaning.specs.Run.{Run}
use Rattle.way_match.specs.Points.{BoundSegment}
use Rattle.way_match.specs.Matching.{SeenIn, matches}
use Rattle.way_match.proofs.Tested.{tested}
use Rattle.way_examples.specs.ExampleVerdicts.{target}
use Rattle.seek_meaning.specs.Bounded.{BoundedEnd, Within, Beyond, bounded_end, WholeBounded}
use Rattle.seek_meaning.specs.Sought.{Seeks}
use Rattle.seek_examples.specs.ExampleRunsWithBound.{ExampleRunsWithBound}

abbrev is_beyond : BoundedEnd → Bool
is_beyond Beyond = true
is_beyond _ = false

-- a run that violates the property within the bound, at positions that pass the test
sought : (p : Program) (ss : List BoundSegment) (k : ℕ) (w : List ℤ) (N : ℕ) (spot : Spot) (ns : List ℕ) → (Run p (InTurn w) N).end ≡ Violated spot → bounded_end (WholeBounded p k (InTurn w) N) ≡ Within (Violated spot)
    → matches p ss (SeenIn p (InTurn w) N) ns ≡ true → Seeks p ss k w ns
sought p ss k w N spot ns violated within m = record {
  bounded = record { budget = N; violated = (spot, violated); stays = λ z. true≢false (sym (ap is_beyond z) ∙ ap is_beyond within) };
  matched = (tested p ss (SeenIn p (InTurn w) N) ns).0 m;
}

pub example_runs_with_bound : ExampleRunsWithBound
unfolding residue signed_of wrapped
example_runs_with_bound = record {
  third_turn_beyond = refl;
  three_turns = refl;
  few_steps = refl;
  fourth_call_beyond = refl;
  four_deep = refl;
  six_ends = refl;
  by_zero = refl;
  steps_of_three_turns = refl;
  steps_of_four_calls = refl;
  five_is_sought = sought (branch_on_input 5) (target 6 5 ∷ []) 8 (pos 5 ∷ []) 11 (at 6 5) (8 ∷ []) refl refl refl;
  three_are_sought = sought count_to_three (target 8 3 ∷ []) 3 [] 1000 (at 8 3) (17 ∷ []) refl refl refl;
  four_are_sought = sought recurse (target 5 3 ∷ []) 4 [] 1000 (at 5 3) (24 ∷ []) refl refl refl;
}
