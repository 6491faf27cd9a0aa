use Rattle.std.proofs.Common.{◌≡◌, ◌++◌, length}
use Rattle.std.specs.List.{All, flat_map}
use Rattle.clauses.specs.Clause.{IsNumber}
use Rattle.wv_cert.specs.Text.{number_text}
use Rattle.wv_cert.proofs.Items.{Ends}
use Rattle.wv_cert.proofs.reading.numbers.Given as goal

abbrev pub invariant-loop-text : goal.invariant-loop-text
invariant-loop-text l = record {
  fine : All IsNumber l.numbers;
  ends : Ends l.numbers l.text;
  so_far : flat_map number_text l.numbers ++ l.text ≡ l.fn.text;
}

abbrev pub decreases-loop-text : goal.decreases-loop-text
decreases-loop-text l = length l.text
