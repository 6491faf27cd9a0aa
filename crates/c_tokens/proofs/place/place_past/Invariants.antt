use Rattle.std.proofs.Common.{◌≡◌, take}
use Rattle.c_tokens.specs.Reading.{past}
use Rattle.c_tokens.proofs.place.place_past.Given as goal

abbrev pub invariant-loop-byte : goal.invariant-loop-byte
invariant-loop-byte l = l.at ≡ past l.fn.place (take l.byte-index l.piece)
