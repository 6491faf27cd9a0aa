use Rattle.std.proofs.Common.{sym, subst}
use Rattle.circuits.specs.Words.{IsZero, bits_of}
use Rattle.circuits.specs.Facts.{Condition, IsZeroWhere}
use Rattle.circuits.specs.Inequalities.{IsGiven}
use Rattle.circuits.proofs.FactLaws.{answer_test, at_some, zero_at}
use Rattle.circuits.proofs.answers.value_of_test.Goals as goal

pub returns-in-Some : goal.returns-in-Some
returns-in-Some c = λ here f.
    let net = c.args.nodes.now in
    let words = bits_of c.args.hints.now.words.list.items in
    let z = c.index-zero.result.now in
    let zero : IsZero net words z = subst (λ x. IsZero net words x) (sym c.index-zero.ensures) (zero_at c.args.hints.now.zeros.list.items c.args.at z c.requires.hints.zeros c.requires.inside) in
    let answers = at_some (λ is. (h : Condition) → IsGiven net words h c.args.given.now → IsZeroWhere net words h z.width z.polynomial is) _ _ c.in-Some.is c.in_ok-is.ensures in
    answer_test z zero c.if-zero-bit.false (answers here f)
