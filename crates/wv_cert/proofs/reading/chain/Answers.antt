use Rattle.std.proofs.Common.{◌≡◌, ◌++◌, Err, rules}
use Rattle.std.specs.List.{All}
use Rattle.clauses.specs.Clause.{IsClause}
use Rattle.wv_cert.specs.Text.{IsChain, IsStep, chain_line, clause_text, steps_text}
use Rattle.wv_cert.proofs.Chains.{chain_read, chain_second, chain_third, no_start}
use Rattle.wv_cert.proofs.Faults.{failed}
use Rattle.wv_cert.proofs.reading.chain.Goals as goal

pub returns-in_default : goal.returns-in_default
returns-in_default c = no_start c.args.text.now c.in_default.ensures

pub returns-in_err-steps : goal.returns-in_err-steps
returns-in_err-steps c =
    let e : c.from_residual.result ≡ Err c.in_err-steps.field-0.0 = search rules in
    let start = c.in-Some.ensures in
    let all = failed (All IsStep) steps_text IsChain chain_line c.args.text.now c.small.new.text c.steps.new.text c.steps.new.text c.in_err-steps.field-0.0 c.in_err-steps.ensures
    (λ none b rest fine is. none b.steps (clause_text b.gives ++ rest) fine.steps
    (chain_second c.args.text.now c.small.new.text rest b c.in-Some.start start.0 start.1 start.2 fine is).1) in
    rw e all

pub returns-in_err-gives : goal.returns-in_err-gives
returns-in_err-gives c =
    let e : c.from_residual-in_err-gives.result ≡ Err c.in_err-gives.field-0.0 = search rules in
    let start = c.in-Some.ensures in
    let steps = c.in_ok-steps.ensures in
    let all = failed IsClause clause_text IsChain chain_line c.args.text.now c.steps.new.text c.clause.new.text c.clause.new.text c.in_err-gives.field-0.0 c.in_err-gives.ensures
    (λ none b rest fine is. none b.gives rest fine.gives
    (chain_third c.args.text.now c.small.new.text c.steps.new.text rest b c.in-Some.start c.in_ok-steps.steps start.0 start.1 start.2 steps.0 steps.1 fine is).1) in
    rw e all

pub returns : goal.returns
returns c =
    let start = c.in-Some.ensures in
    let steps = c.in_ok-steps.ensures in
    let gives = c.in_ok-gives.ensures in (
      record { start = start.0; steps = steps.0; gives = gives.0 },
      chain_read c.args.text.now c.small.new.text c.steps.new.text c.clause.new.text
          (record { start = c.in-Some.start; steps = c.in_ok-steps.steps; gives = c.in_ok-gives.gives }) start.1 steps.1 gives.1,
    )
