use Rattle.std.proofs.Common.{◌&&◌}
use Rattle.circuits.specs.Net.{holds}
use Rattle.circuits.specs.Words.{bits_of}
use Rattle.circuits.specs.Facts.{Condition, IsRest, IsZeroWhere}
use Rattle.circuits.specs.Inequalities.{IsGiven}
use Rattle.circuits.proofs.FactLaws.{at_some, same_answer, zero_left, zero_by_cases}
use Rattle.circuits.proofs.answers.+is_zero.Goals as goal

pub returns-in-Some-as_constant : goal.returns-in-Some-as_constant
returns-in-Some-as_constant t c = λ here f.
    let net = c.args.nodes.now in
    let words = bits_of c.args.hints.now.words.list.items in
    let rests = at_some (λ rest. (h : Condition) → IsGiven net words h c.args.given.now → IsRest net words h c.args.width c.args.question.now rest) _ _ c.in-Some.is c.in_ok-rest.ensures in
    zero_left c.requires.narrow (rests here f) c.in-Some-as_constant.ensures c.masked.ensures

pub returns-in-Some-3 : goal.returns-in-Some-3
returns-in-Some-3 t c = λ here f.
    let net = c.args.nodes.now in
    let words = bits_of c.args.hints.now.words.list.items in
    let first = at_some (λ is. (h : Condition) → IsGiven net words h c.in_ok-with.with → IsZeroWhere net words h c.args.width c.args.question.now is) _ _ c.in-Some-2.is c.in_ok-first.ensures in
    let second = at_some (λ is. (h : Condition) → IsGiven net words h c.in_ok-without.without → IsZeroWhere net words h c.args.width c.args.question.now is) _ _ c.in-Some-3.is c.in_ok-second.ensures in
    zero_by_cases c.in-Some-digit.bit c.not.result c.not.ensures (same_answer _ _ c.if-second-first.true)
    (first (λ v. here v && holds v net c.in-Some-digit.bit) (c.in_ok-with.ensures here f))
    (second (λ v. here v && holds v net c.not.result) (c.in_ok-without.ensures here f))
