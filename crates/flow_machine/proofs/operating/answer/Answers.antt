use Rattle.flow_laws.specs.Acting.{program_in}
use Rattle.flow_machine.proofs.operating.answer.Goals as goal

pub returns-in-NoOverflow-clause-gives : goal.returns-in-NoOverflow-clause-gives
returns-in-NoOverflow-clause-gives g c = rw (c.in-Overflow.is, c.in-NoOverflow.is) (c.violate.ensures.gives (program_in c.args.code.now))
