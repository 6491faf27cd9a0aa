use Rattle.std.proofs.Common.{◌≡◌, ◌++◌, length}
use Rattle.std.specs.List.{All, flat_map}
use Rattle.wv_cert.specs.Text.{IsChain, chain_line}
use Rattle.wv_cert.proofs.reading.chains.Given as goal

abbrev pub invariant-loop-read : goal.invariant-loop-read
invariant-loop-read l = record {
  many : length l.chains ≡ l._read;
  fine : All IsChain l.chains;
  so_far : flat_map chain_line l.chains ++ l.text ≡ l.fn.text;
}
