use Rattle.std.proofs.Common.{List, ◌++◌, ◌∷◌, [], ◌∙◌, ap, arith, subst, sym}
use Rattle.polynomials.specs.Elimination.{IsReduced}
use Rattle.polynomials.specs.declared.polynomial.Term.{Term}
use Rattle.circuits.specs.Words.{bits_of}
use Rattle.circuits.specs.Facts.{AreFacts}
use Rattle.circuits.proofs.FactLaws.{no_facts, one_fact, rest_itself, rest_then, rest_where}
use Rattle.circuits.proofs.truths.specialised.Goals as goal

pub returns-then-highest_truth-eq0 : goal.returns-then-highest_truth-eq0
returns-then-highest_truth-eq0 c = λ here f. rest_itself c.in_ok-rest.ensures

pub loop-at-init : goal.loop-at-init
loop-at-init c = λ here f. rest_itself c.in_ok-rest.ensures

pub loop-at-preserved : goal.loop-at-preserved
loop-at-preserved c = λ here f.
    let net = c.args.nodes.now in
    let words = bits_of c.args.hints.now.words.list.items in
    let all = c.in_ok-facts.ensures here f (subst (λ l. AreFacts net words here c.args.width l) (sym c.new-none.ensures.items) no_facts) in
    let one = one_fact c.in_ok-facts.facts.items c.loop-at.at c.index.result.now all (omega (arith, c.loop-at-test.true, c.len-at-end.ensures)) (c.in_ok-copy.ensures ∙ c.index.ensures) in
    let pushed = subst (λ l. AreFacts net words here c.args.width l) (ap (λ l. l ++ c.in_ok-copy.field-0 ∷ []) (sym c.new-one.ensures.items) ∙ sym c.in_ok-push.ensures.items) one in
    rest_then (c.loop-at.invariant here f) (rest_where pushed c.in_ok-rest-2.ensures)
