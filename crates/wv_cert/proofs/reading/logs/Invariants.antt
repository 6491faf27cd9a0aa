use Rattle.std.proofs.Common.{◌≡◌, ◌++◌, length}
use Rattle.std.specs.List.{All}
use Rattle.wv_cert.specs.Text.{IsLog, log_texts}
use Rattle.wv_cert.proofs.reading.logs.Given as goal

abbrev pub invariant-loop-index : goal.invariant-loop-index
invariant-loop-index l = record {
  many : length l.logs ≡ l.index;
  fine : All IsLog l.logs;
  so_far : log_texts 1 l.logs ++ l.text ≡ l.fn.text;
}
