use Rattle.wv_author.proofs.ValueLines.{AreRead}
use Rattle.wv_author.proofs.values.whole_number.Given as goal

abbrev pub invariant-loop-digit : goal.invariant-loop-digit
invariant-loop-digit l = AreRead l.digits l.digit-index l.number
