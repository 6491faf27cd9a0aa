use Rattle.std.proofs.Common.{length}
use Rattle.wv_author.proofs.ValueLines.{AreBefore}
use Rattle.wv_author.proofs.values.read_values.Given as goal

abbrev pub invariant-loop-text : goal.invariant-loop-text
invariant-loop-text l = AreBefore l.fn.bytes l.values l.text

abbrev pub decreases-loop-text : goal.decreases-loop-text
decreases-loop-text l = length l.text
