use Rattle.flow_laws.proofs.Law.{code_simulated}
use Rattle.flow_laws.proofs.laws.code_is_simulated.Goals as goal

pub returns : goal.returns
returns c = code_simulated
