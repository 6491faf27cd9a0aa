use Rattle.std.proofs.Common.{◌≡◌}
use Rattle.c_meaning.specs.Parts.{numbers_from}
use Rattle.wv_weed.proofs.numbers.numbers_to.Given as goal

abbrev pub invariant-loop-before : goal.invariant-loop-before
invariant-loop-before l = l.numbers ≡ numbers_from 1 l.before
