use Rattle.circuits.proofs.WordLaws.{tells_after}
use Rattle.circuits.proofs.HintLaws.{order_told, tells_wide}
use Rattle.circuits.proofs.hints.Hints.note_below.Goals as goal

pub returns-in-Some-moved : goal.returns-in-Some-moved
returns-in-Some-moved c = record {
  hints = record {
    words = c.in-Some-moved.ensures.hints.words;
    zeros = c.in-Some-moved.ensures.hints.zeros;
    orders = c.add.ensures _ _ c.in-Some-moved.ensures.hints.orders
        (order_told (tells_after c.in-Some-moved.ensures.more c.in-Some.ensures.tells) (tells_wide c.requires.operands.same c.in-Some-moved.ensures.tells) c.requires.tells);
  };
}
