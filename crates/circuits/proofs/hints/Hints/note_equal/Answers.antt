use Rattle.circuits.proofs.HintLaws.{zero_asked}
use Rattle.circuits.proofs.hints.Hints.note_equal.Goals as goal

pub returns-in-Some : goal.returns-in-Some
returns-in-Some c = record {
  hints = record {
    words = c.in-Some.ensures.hints.words;
    zeros = c.add.ensures _ _ c.in-Some.ensures.hints.zeros (zero_asked c.in-Some.ensures.asks c.requires.tells);
    orders = c.in-Some.ensures.hints.orders;
  };
}
