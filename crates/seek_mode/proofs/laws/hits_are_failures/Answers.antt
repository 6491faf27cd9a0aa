use Rattle.seek_mode.proofs.SoughtJudged.{hits_where_it_fails}
use Rattle.seek_mode.proofs.laws.hits_are_failures.Goals as goal

pub returns : goal.returns
returns c = hits_where_it_fails
