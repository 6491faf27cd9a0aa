use Rattle.std.proofs.Common.{length}
use Rattle.sym_elements.proofs.reading.+read_among.Given as goal

abbrev pub decreases-read_among : goal.decreases-read_among
decreases-read_among l = length l.digits.now
