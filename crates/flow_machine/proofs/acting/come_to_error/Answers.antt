use Rattle.std.proofs.Common.{rules, ◌≡◌, Err}
use Rattle.flow_machine.proofs.acting.come_to_error.Goals as goal

pub returns-in_err-reach-clause-lasting : goal.returns-in_err-reach-clause-lasting
returns-in_err-reach-clause-lasting g c = λ sure.
    let e : c.from_residual.result ≡ Err c.in_err-reach.field-0.0 = search rules in
    rw e (c.in_err-reach.ensures.lasting sure)
