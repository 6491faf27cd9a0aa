use Rattle.wv_author.proofs.ValueLines.{one_list}
use Rattle.wv_author.proofs.values.one_list_of_values.Goals as goal

pub returns : goal.returns
returns c = one_list
