use Rattle.std.proofs.Common.{◌≡◌, Err, rules}
use Rattle.std.specs.List.{All}
use Rattle.clauses.specs.Clause.{IsClause, IsNumber}
use Rattle.wv_cert.specs.Text.{clause_text}
use Rattle.wv_cert.proofs.Chains.{no_clause}
use Rattle.wv_cert.proofs.Faults.{failed}
use Rattle.wv_cert.proofs.reading.clause.Goals as goal

pub returns-in_err-numbers : goal.returns-in_err-numbers
returns-in_err-numbers c =
    let e : c.from_residual.result ≡ Err c.in_err-numbers.field-0.0 = search rules in
    let all = failed (All IsNumber) clause_text IsClause clause_text c.args.text.now c.args.text.now c.numbers.new.text c.numbers.new.text c.in_err-numbers.field-0.0 c.in_err-numbers.ensures
    (λ none b rest fine is. none b rest fine.real is) in
    rw e all

pub returns-in-None : goal.returns-in-None
returns-in-None c =
    let read = c.in_ok-numbers.ensures in
    no_clause c.args.text.now c.numbers.new.text c.in_ok-numbers.numbers read.0 read.1 c.in-None.ensures
