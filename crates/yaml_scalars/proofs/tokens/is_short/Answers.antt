use Rattle.std.proofs.Common.{ap, nat_le}
use Rattle.std.proofs.lemmas.Iterator.{YieldsList-from_chars}
use Rattle.std.proofs.lemmas.Iterator.Consumers.{count_from_yields_List}
use Rattle.yaml_scalars.proofs.tokens.is_short.Goals as goal

pub returns : goal.returns
returns c = ap (λ n. nat_le n 1024) (count_from_yields_List c.chars.result c.count.result c.count.ensures.ran (YieldsList-from_chars c.args.text.now c.utf8.text c.chars.ensures.rest))
