use Rattle.std.proofs.Common.{◌≡◌, ◌≤◌, ◌∙◌, length, Ok, Err, sym, subst, arith}
use Rattle.std.proofs.lemmas.Bool.{eqb-true, eqb-false}
use Rattle.c_tokens.proofs.Choices.{err_is}
use Rattle.c_tokens.proofs.Closes.{rest_whole}
use Rattle.c_tokens.proofs.Stepping.{further, refused, finished}
use Rattle.c_tokens.proofs.Outcomes.{only}
use Rattle.c_tokens.specs.Scan.{Steps}
use Rattle.c_tokens.proofs.reading.tokens_from.Goals as goal

pub returns-in_err-length-clause-found : goal.returns-in_err-length-clause-found
returns-in_err-length-clause-found c =
    let more : length c.loop-rest.rest.now ≡ 0 → ⊥ = eqb-false (length c.loop-rest.rest.now) 0 (sym c.is_empty.ensures ∙ c.loop-rest-test.true) in
    let some : 1 ≤ length c.loop-rest.rest.now = omega (arith, more) in
    let same : c.from_residual.result ≡ Err c.in_err-length.field-0.0 = err_is c.from_residual.ensures.1 in
    rw same (refused c.args.directives c.args.from c.args.bytes.now c.loop-rest.found c.loop-rest.place c.loop-rest.rest.now c.in_err-length.field-0.0 c.loop-rest.invariant some (subst (λ p. Steps p c.loop-rest.rest.now (Err c.in_err-length.field-0.0)) c.seen.ensures c.in_err-length.ensures))

pub returns-in_err-length-clause-only : goal.returns-in_err-length-clause-only
returns-in_err-length-clause-only c = only c.args.directives c.args.from c.args.bytes.now c.from_residual.result (returns-in_err-length-clause-found c)

pub loop-rest-preserved : goal.loop-rest-preserved
loop-rest-preserved c ts end d =
    let rest = c.loop-rest.rest.now in
    let n = c.in_ok-length.length in
    further c.args.directives c.args.from c.args.bytes.now c.loop-rest.found c.add.new.found c.loop-rest.place rest n c.in_ok-length.token
    c.loop-rest.invariant (subst (λ p. Steps p rest (Ok (n, c.in_ok-length.token))) c.seen.ensures c.in_ok-length.ensures) c.in_ok-add.ensures ts end (rw (c.place_past-place.ensures, rest_whole rest n) at d)

pub returns-clause-found : goal.returns-clause-found
returns-clause-found c =
    finished c.args.directives c.args.from c.args.bytes.now c.loop-rest.found c.loop-rest.place c.loop-rest.rest.now c.loop-rest.invariant
    (eqb-true (length c.loop-rest.rest.now) 0 (sym c.is_empty.ensures ∙ c.loop-rest-test.false))

pub returns-clause-only : goal.returns-clause-only
returns-clause-only c = only c.args.directives c.args.from c.args.bytes.now (Ok c.loop-rest.found) (returns-clause-found c)
