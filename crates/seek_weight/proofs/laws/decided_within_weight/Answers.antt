use Rattle.std.proofs.Common.{◌≤◌, ◌+◌, length, arith}
use Rattle.c_meaning.specs.declared.run.Choices.TheVariants.{InTurn}
use Rattle.c_meaning.specs.Run.{first_cells, most_cells}
use Rattle.seek_meaning.specs.Bounded.{HasRoom}
use Rattle.seek_meaning.specs.Steps.{StepsWithin}
use Rattle.seek_weight.specs.Laws.{most_steps}
use Rattle.seek_weight.proofs.Enough.{few_first_cells}
use Rattle.seek_weight.proofs.laws.decided_within_weight.Goals as goal

pub returns : goal.returns
returns c = λ p checked ss k light w.
    let paid = c.steps_are_light.ensures p checked ss k in
    let few : StepsWithin p k ≤ most_steps = omega (arith, paid, light) in
    let static = few_first_cells p checked in
    let fit : length (first_cells p) + StepsWithin p k ≤ most_cells = omega (arith, few, static) in
    let room : HasRoom p k w = c.few_steps_have_room.ensures p k fit w in
    record {
      decided = c.hits_exactly.ensures p ss k w room;
      shown = λ hit N enough. c.enough_steps_show.ensures p ss k w room hit N (omega (arith, few, enough));
      short = λ N spent. let fewer = (c.bounded_runs_are_short.ensures p k (InTurn w) N).steps spent in omega (arith, fewer, few);
      room = room;
    }
