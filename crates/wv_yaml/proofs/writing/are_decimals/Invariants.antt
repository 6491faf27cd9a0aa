use Rattle.std.proofs.Common.{◌≡◌, drop}
use Rattle.wv_yaml.specs.Canon.{all_of, is_decimal}
use Rattle.wv_yaml.proofs.writing.are_decimals.Given as goal

abbrev pub invariant-loop-byte : goal.invariant-loop-byte
invariant-loop-byte l = all_of is_decimal (drop l.byte-index l.bytes) ≡ all_of is_decimal l.bytes
