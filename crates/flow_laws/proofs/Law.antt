-- The code of a program does what the program's run does.
use Rattle.std.proofs.Common.{List}
use Rattle.c_core.specs.Tree.{Program}
use Rattle.flow_code.specs.declared.code.Code.{Code}
use Rattle.flow_code.specs.Programs.{IsCodeOf}
use Rattle.flow_laws.specs.Runs.{Sight, noted, IsSimulated}
use Rattle.flow_laws.proofs.Evaluating.{evaluated, stored_as}
use Rattle.flow_laws.proofs.Executing.{form_executed}
use Rattle.flow_laws.proofs.Simulated.{simulated}

-- the law as a whole
pub code_simulated : (p : Program) (c : Code) → IsCodeOf p c → IsSimulated p c
code_simulated p c is = simulated p c is (λ n calls. (evaluated p c (List Sight) noted n is.model is.property is.small calls, stored_as p c (List Sight) noted n is.model is.property is.small calls)) (λ n e s. form_executed p c (List Sight) noted n is.model e s)
