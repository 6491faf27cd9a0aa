use Rattle.std.proofs.Common.{◌≡◌, ◌++◌, drop, string_bytes, take}
use Rattle.std.specs.List.{All, flat_map}
use Rattle.wv_cert.specs.Text.{IsChain, chain_line, log_text}
use Rattle.wv_cert.proofs.writing.add_log.Given as goal

abbrev pub invariant-loop-chain : goal.invariant-loop-chain
invariant-loop-chain l = record {
  text : string_bytes l.out ++ flat_map chain_line (drop l.chain-index l.chain-items) ≡ string_bytes l.fn.out ++ log_text l.fn.obligation l.log;
  fine : All IsChain (take l.chain-index l.chain-items);
}
