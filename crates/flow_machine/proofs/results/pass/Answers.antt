use Rattle.std.proofs.Common.{rules, ◌≡◌, Err, refl, arith}
use Rattle.flow_machine.proofs.Fronting.{on_broken}
use Rattle.flow_machine.proofs.results.pass.Goals as goal

pub returns-in-Push-clause-lasting : goal.returns-in-Push-clause-lasting
returns-in-Push-clause-lasting g c = λ sure spare. c.push.ensures.lasting (omega (arith, spare.stack))

pub returns-in_err-tell-in-Branch-clause-lasting : goal.returns-in_err-tell-in-Branch-clause-lasting
returns-in_err-tell-in-Branch-clause-lasting g c = λ sure spare.
    let e : c.from_residual.result ≡ Err c.in_err-tell-in-Branch.field-0.0 = search rules in
    rw e (c.in_err-tell-in-Branch.ensures.lasting sure)

pub returns-in-Push-clause-still : goal.returns-in-Push-clause-still
returns-in-Push-clause-still g c = on_broken c.push.result refl
