use Rattle.flow_machine.proofs.calling.call.Goals as goal

pub returns-in-Some-clause-acts : goal.returns-in-Some-clause-acts
returns-in-Some-clause-acts g c = λ x. rw (← c.in-Some.ensures.item) (c.enter.ensures.acts c.args.code.now x)

pub returns-in-Some-clause-lasting : goal.returns-in-Some-clause-lasting
returns-in-Some-clause-lasting g c = λ x spare fits. c.enter.ensures.lasting c.args.code.now x spare (rw (← c.in-Some.ensures.item) at fits)
