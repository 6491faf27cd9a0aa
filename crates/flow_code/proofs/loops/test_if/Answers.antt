use Rattle.flow_code.proofs.loops.test_if.Goals as goal

pub returns-in-None : goal.returns-in-None
returns-in-None c =
    rw c.in-None.is c.emit.ensures

pub returns-in-Some : goal.returns-in-Some
returns-in-Some c =
    rw c.in-Some.is c.test_at.ensures
