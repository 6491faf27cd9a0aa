use Rattle.std.proofs.Common.{◌≡◌, ◌<◌, ◌^◌, take}
use Rattle.c_tokens.specs.Numbers.{number_in}
use Rattle.c_tokens.proofs.number.number_in.Given as goal

abbrev pub invariant-loop-digit : goal.invariant-loop-digit
invariant-loop-digit l = record {
  so_far : l.number ≡ number_in l.radix (take l.digit-index l.digits);
  fits : l.number < 2 ^ 64;
}
