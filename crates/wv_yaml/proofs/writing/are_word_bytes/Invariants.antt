use Rattle.std.proofs.Common.{◌≡◌, drop}
use Rattle.wv_yaml.specs.Canon.{all_of, is_word_char}
use Rattle.wv_yaml.proofs.writing.are_word_bytes.Given as goal

abbrev pub invariant-loop-byte : goal.invariant-loop-byte
invariant-loop-byte l = all_of is_word_char (drop l.byte-index l.bytes) ≡ all_of is_word_char l.bytes
