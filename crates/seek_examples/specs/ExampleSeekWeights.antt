-- What the runs of small programs within a bound weigh and draw, and how many steps are enough for them. Each sum is
-- counted by hand beside it.
use Rattle.std.specs.Prelude.{◌≡◌, true, [], ◌∷◌}
use Rattle.c_meaning.specs.declared.run.Way.TheVariants.{Truth}
use Rattle.c_meaning.specs.Examples.{at, number, branch_on_input, count_to_three, recurse}
use Rattle.way_match.specs.Points.{Assume, Branch}
use Rattle.way_examples.specs.ExampleVerdicts.{follow, target, returns, first_is}
use Rattle.seek_meaning.specs.Steps.{StepsWithin}
use Rattle.seek_weight.specs.SeekWeight.{SeekWeight, SeekBits}
use Rattle.seek_examples.specs.SeekPrograms.{call_in_call, open_cell, error_or_abort}

pub record ExampleSeekWeights : Type 0 where
  -- with one waypoint each statement, test and call counts 192 more. Body 256; declaration 256 + 128 + 16 + 128; loop 256 + tests of
  -- 192 + 16 + 512 + 32 + 32, bodies of 256 + (256 + 16 + 128 + 16 + 16 + 512 + 64 + 32) + (256 + 16); call 256 + 80 + 192; return 400
  pub one_turn : SeekWeight count_to_three (target 8 3 ∷ []) 1 ≡ 5104
  pub two_turns : SeekWeight count_to_three (target 8 3 ∷ []) 2 ≡ 7456
  pub three_turns : SeekWeight count_to_three (target 8 3 ∷ []) 3 ≡ 9808
  -- main 256 + (256 + 80 + 192 + 16) + 528 + 400, and 128 and `f` for its call; `f` 256 + (256 + 784 + 256 + 400) + (256 + 80 + 192 +
  -- 16 + 512 + 64 + 32 + 128), and 128 and `f` for its call where that isn't too deep
  pub one_deep : SeekWeight recurse (target 5 3 ∷ []) 1 ≡ 5088
  pub two_deep : SeekWeight recurse (target 5 3 ∷ []) 2 ≡ 8448
  -- main 256 + 2 * (256 + 80 + 192) + 528 + 400, and `g` for both calls; `g` 256 + (256 + 80 + 192), and 256 of `f` where that isn't
  -- too deep
  pub callee_alone : SeekWeight call_in_call (target 7 3 ∷ []) 1 ≡ 3808
  pub both_callees : SeekWeight call_in_call (target 7 3 ∷ []) 2 ≡ 4320
  pub none_deeper : SeekWeight call_in_call (target 7 3 ∷ []) 3 ≡ 4320
  -- with two waypoints 256 more, and 64 + 32 + 512 + 16 for the one that is placed at the call. Body 320; declaration
  -- 320 + 128 + 80 + 256 + 624 + 128; `if` 320 + (256 + 560 + 32) + 320 + (320 + 80 + 256); return 464
  pub a_return : SeekWeight (branch_on_input 5) (returns 4 33 (number 1 12 6) ∷ target 6 5 ∷ []) 8 ≡ 4464
  -- with three waypoints 320 more, 64 + 560 for the assumption at the `if`, and 64 for the way at its test. Body 384; declaration
  -- 384 + 128 + 80 + 320 + 128; `if` 384 + 624 + (320 + 64 + 560 + 32) + 384 + (384 + 80 + 320); return 528
  pub an_assumption_and_a_way : SeekWeight (branch_on_input 5) (follow (Assume (at 5 3) (first_is 5)) ∷ follow (Branch (at 5 3) (Truth true)) ∷ target 6 5 ∷ []) 1 ≡ 5104
  -- body 1; declaration 1 + 1 + 1; loop 1 + 3 tests of 3 and 2 bodies of 1 + 6 + 2; call 2; return 2
  pub steps_of_two_turns : StepsWithin count_to_three 2 ≡ 36
  -- bits of an input, of a cell without initializer, and of none
  pub bits_of_an_input : SeekBits error_or_abort 1 ≡ 32
  pub bits_of_a_cell : SeekBits open_cell 8 ≡ 32
  pub no_bits : SeekBits recurse 8 ≡ 0
