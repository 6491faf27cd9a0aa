use Rattle.std.proofs.lemmas.Result.{IfOk-weaker}
use Rattle.circuits.specs.Words.{bits_of}
use Rattle.circuits.proofs.facts.facts_for.Goals as goal

pub returns : goal.returns
returns c =
    let net = c.args.nodes.now in
    let words = bits_of c.args.hints.now.words.list.items in
    IfOk-weaker c.with_truths.result _ _
    (λ r g here f.
    let tests = c.in_ok-tests.ensures net words here c.requires.hints.zeros (rw c.deref.ensures.value f.bits) in
    let equal = c.in_ok-equal.ensures net words here (rw c.deref-2.ensures.value f.equalities) tests in
    g here (rw c.deref-3.ensures.value f.bits) (c.in_ok-others.ensures net words here c.requires.net c.requires.hints.zeros equal))
    c.with_truths.ensures
