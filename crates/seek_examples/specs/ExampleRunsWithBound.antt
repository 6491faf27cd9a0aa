-- How runs with a bound end on example programs, and values that are sought.
use Rattle.std.specs.Prelude.{◌≡◌, ℕ, pos, [], ◌∷◌}
use Rattle.c_core.specs.Tree.{Program}
use Rattle.c_core.specs.declared.number.Property.TheVariants.{NoOverflow}
use Rattle.c_core.specs.declared.number.BinOp.TheVariants.{Div}
use Rattle.c_meaning.specs.declared.run.End.TheVariants.{Ended, Undefined, Violated, Spent}
use Rattle.c_meaning.specs.declared.run.Choices.{Choices}
use Rattle.c_meaning.specs.declared.run.Choices.TheVariants.{InTurn}
use Rattle.c_meaning.specs.Examples.{at, branch_on_input, combine_inputs, count_to_three, recurse}
use Rattle.way_examples.specs.ExampleVerdicts.{target}
use Rattle.seek_meaning.specs.Bounded.{BoundedEnd, Within, Beyond, bounded_end, WholeBounded}
use Rattle.seek_meaning.specs.Sought.{Seeks}
use Rattle.seek_meaning.specs.Steps.{StepsWithin}

abbrev pub ends : Program → ℕ → Choices → ℕ → BoundedEnd
ends p k c N = bounded_end (WholeBounded p k c N)

pub record ExampleRunsWithBound : Type 0 where
  pub third_turn_beyond : ends count_to_three 2 (InTurn []) 1000 ≡ Beyond
  pub three_turns : ends count_to_three 3 (InTurn []) 1000 ≡ Within (Violated (at 8 3))
  pub few_steps : ends count_to_three 2 (InTurn []) 20 ≡ Within Spent
  pub fourth_call_beyond : ends recurse 3 (InTurn []) 1000 ≡ Beyond
  pub four_deep : ends recurse 4 (InTurn []) 1000 ≡ Within (Violated (at 5 3))
  pub six_ends : ends (branch_on_input 5) 8 (InTurn (pos 6 ∷ [])) 50 ≡ Within Ended
  pub by_zero : ends (combine_inputs NoOverflow Div) 1 (InTurn (pos 1 ∷ pos 0 ∷ [])) 50 ≡ Within (Undefined (at 5 3))
  -- steps that are enough: body 1, declaration 3, loop 1 + 3 * (3 + 9) + 3, call 2, return 2; main 9 and four times `f`
  pub steps_of_three_turns : StepsWithin count_to_three 3 ≡ 48
  pub steps_of_four_calls : StepsWithin recurse 4 ≡ 65
  -- the values, and the positions of the segments among the events
  pub five_is_sought : Seeks (branch_on_input 5) (target 6 5 ∷ []) 8 (pos 5 ∷ []) (8 ∷ [])
  pub three_are_sought : Seeks count_to_three (target 8 3 ∷ []) 3 [] (17 ∷ [])
  pub four_are_sought : Seeks recurse (target 5 3 ∷ []) 4 [] (24 ∷ [])
