use Rattle.std.proofs.Common.{rules, ◌≡◌, Err, arith}
use Rattle.flow_machine.proofs.elements.aim.Goals as goal

pub returns-in_err-push-clause-lasting : goal.returns-in_err-push-clause-lasting
returns-in_err-push-clause-lasting g c = λ spare.
    let e : c.from_residual.result ≡ Err c.in_err-push.field-0.0 = search rules in
    let s = c.take-index.ensures.spare spare in
    rw e (c.in_err-push.ensures.lasting (omega (arith, s.stack)))

pub returns-in_err-push-2-clause-lasting : goal.returns-in_err-push-2-clause-lasting
returns-in_err-push-2-clause-lasting g c = λ spare.
    let e : c.from_residual-in_err-push-2.result ≡ Err c.in_err-push-2.field-0.0 = search rules in
    let s = c.take-index.ensures.spare spare in
    rw e (c.in_err-push-2.ensures.lasting (omega (arith, s.stack, c.push.ensures.grown, c.push.ensures.kept.0)))
