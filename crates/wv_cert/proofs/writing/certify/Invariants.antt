use Rattle.std.proofs.Common.{◌≡◌, ◌+◌, ◌++◌, drop, string_bytes, take}
use Rattle.std.specs.List.{All}
use Rattle.wv_cert.specs.Text.{IsLog, certificate_text, log_texts}
use Rattle.wv_cert.proofs.writing.certify.Given as goal

abbrev pub invariant-loop-index : goal.invariant-loop-index
invariant-loop-index l = record {
  text : string_bytes l.out ++ log_texts (l.index + 1) (drop l.index l.logs) ≡ certificate_text l.logs;
  fine : All IsLog (take l.index l.logs);
}
