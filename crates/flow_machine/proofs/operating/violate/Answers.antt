use Rattle.std.proofs.Common.{rules, ◌≡◌, Err}
use Rattle.flow_machine.proofs.operating.violate.Goals as goal

pub returns-in_err-tell-clause-lasting : goal.returns-in_err-tell-clause-lasting
returns-in_err-tell-clause-lasting g c = λ sure.
    let e : c.from_residual.result ≡ Err c.in_err-tell.field-0.0 = search rules in
    rw e (c.in_err-tell.ensures.lasting sure)
