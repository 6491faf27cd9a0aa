use Rattle.flow_machine.proofs.Lasting.{stacks_kept}
use Rattle.flow_machine.proofs.elements.look_up.Goals as goal

pub returns-clause-kept : goal.returns-clause-kept
returns-clause-kept g c = stacks_kept c.args.control.now c.take.new.control c.finish.new.control c.take.ensures.kept c.finish.ensures.kept

pub returns-clause-lasting : goal.returns-clause-lasting
returns-clause-lasting g c = λ sure spare. c.finish.ensures.lasting sure (c.take.ensures.spare spare)
