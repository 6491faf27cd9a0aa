use Rattle.flow_laws.specs.Acting.{program_in}
use Rattle.flow_machine.proofs.acting.reach.Goals as goal

pub returns-in-UnreachCall-clause-gives : goal.returns-in-UnreachCall-clause-gives
returns-in-UnreachCall-clause-gives g c = rw c.in-UnreachCall.is (c.violate.ensures.gives (program_in c.args.code.now))
