use Rattle.wv_cert.proofs.Refuted.{refuted_never, refutes_bit}
use Rattle.wv_cert.proofs.checking.refutes.Goals as goal

pub returns-clause-exact : goal.returns-clause-exact
returns-clause-exact c =
    let k = c.in_ok-clauses.clauses in (
      λ t. record { variables = k.variables; clauses = k.clauses; are = c.in_ok-clauses.ensures.exact; refuted = c.in_ok-refuted.ensures.exact.0 t },
      λ h. c.in_ok-refuted.ensures.exact.1 (refutes_bit c.args.net.now c.args.bit c.args.log.now k.variables k.clauses c.in_ok-clauses.ensures.exact h),
    )

pub returns-clause-sound : goal.returns-clause-sound
returns-clause-sound c = λ t.
    let k = c.in_ok-clauses.clauses in
    refuted_never c.args.net.now c.args.bit c.in_ok-clauses.ensures.fulfils k.within (c.in_ok-refuted.ensures.exact.0 t)
