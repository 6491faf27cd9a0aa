use Rattle.c_inductive.proofs.Unions.{unions}
use Rattle.c_inductive.proofs.laws.unions_are_inductive.Goals as goal

pub returns : goal.returns
returns c = unions
