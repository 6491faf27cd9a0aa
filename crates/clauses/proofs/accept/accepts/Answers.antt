use Rattle.std.proofs.Common.{◌∙◌, ◌<◌, ◌≤◌, length, ap, sym, refl, arith}
use Rattle.clauses.specs.Log.{EndsEmpty}
use Rattle.clauses.proofs.Accepting.{ends_empty, when_accepted}
use Rattle.clauses.proofs.Soundness.{refuted}
use Rattle.clauses.proofs.accept.accepts.Goals as goal

pub returns-clause-unsatisfiable : goal.returns-clause-unsatisfiable
returns-clause-unsatisfiable c =
    let some : 0 < length c.as_slice-chains.result.now = grind arith in
    let x = c.index-chains-chains.result in
    let short : length x.gives ≤ 0 = let same = ap (λ l. length l) (c.numbers.ensures.same ∙ sym (ap (λ y. y.gives) c.index-chains-chains.is)) in omega (arith, c.if-numbers-gt0.false) in
    let ends : EndsEmpty c.args.log.now.chains = ends_empty c.args.log.now.chains c.as_slice-chains.result.now _ x c.as_slice-chains.ensures refl some c.index-chains-chains.is short in
    when_accepted c.accepts_log.result _ _ c.accepts_log.ensures (λ a. refuted c.args.cnf.now.variables c.args.cnf.now.clauses c.args.log.now.chains c.args.cnf.now.within a ends)
