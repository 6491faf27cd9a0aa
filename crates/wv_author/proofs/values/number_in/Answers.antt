use Rattle.wv_author.proofs.ValueLines.{never}
use Rattle.wv_author.proofs.values.number_in.Goals as goal

pub number_from_zero-requires : goal.number_from_zero-requires
number_from_zero-requires c = λ some minus. never (c.if-has_minus.ensures.1 (some, minus))
