use Rattle.circuits.proofs.Nets.{grown_not}
use Rattle.circuits.proofs.unary.one_bits.Goals as goal

pub returns-in_err-out-in-Plus-clause-grown : goal.returns-in_err-out-in-Plus-clause-grown
returns-in_err-out-in-Plus-clause-grown c = grown_not _ _

pub returns-in_err-out-in-BitNot-clause-grown : goal.returns-in_err-out-in-BitNot-clause-grown
returns-in_err-out-in-BitNot-clause-grown c = grown_not _ _

pub returns-in_ok-out-in-Plus-clause-grown : goal.returns-in_ok-out-in-Plus-clause-grown
returns-in_ok-out-in-Plus-clause-grown c = grown_not _ _

pub returns-in_ok-out-in-BitNot-clause-grown : goal.returns-in_ok-out-in-BitNot-clause-grown
returns-in_ok-out-in-BitNot-clause-grown c = grown_not _ _
