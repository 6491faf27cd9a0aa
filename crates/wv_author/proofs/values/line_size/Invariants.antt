use Rattle.std.proofs.Common.{take}
use Rattle.wv_author.specs.Values.{HasNoFeed}
use Rattle.wv_author.proofs.values.line_size.Given as goal

abbrev pub invariant-loop-size : goal.invariant-loop-size
invariant-loop-size l = HasNoFeed (take l.size l.text)
