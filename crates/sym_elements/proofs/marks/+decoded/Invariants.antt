use Rattle.std.proofs.Common.{length}
use Rattle.sym_elements.proofs.marks.+decoded.Given as goal

abbrev pub decreases-decoded : goal.decreases-decoded
decreases-decoded l = length l.digits.now
