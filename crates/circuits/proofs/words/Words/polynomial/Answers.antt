use Rattle.std.proofs.Common.{◌≡◌, ◌+◌, ◌*◌, length, arith, sym}
use Rattle.polynomials.proofs.Sameness.{same_by}
use Rattle.circuits.specs.Numbers.{number}
use Rattle.circuits.proofs.WordLaws.{tells_by, tells_narrower}
use Rattle.circuits.proofs.Unknowns.{IsNumber, IsUnknown, number_some, copy_some, unknown_some, some_weaker, place_of_word, tells_constant, tells_copied, tells_number}
use Rattle.circuits.proofs.words.Words.polynomial.Goals as goal

pub truth-requires-clause-bit_in : goal.truth-requires-clause-bit_in
truth-requires-clause-bit_in c = (c.in-Some.ensures c.args.nodes.now c.requires.net c.requires.bits_in).0

pub returns-in-Some-clause-tells : goal.returns-in-Some-clause-tells
returns-in-Some-clause-tells c =
    some_weaker _ _ _ c.truth.ensures.tells
    (λ p t. tells_narrower (length c.args.bits.now) c.requires.wide
    (tells_by (λ v. number v c.args.nodes.now c.args.bits.now) t (λ v. same_by (sym ((c.in-Some.ensures c.args.nodes.now c.requires.net c.requires.bits_in).1 v)))))

pub returns-in-Some-constant_of-clause-tells : goal.returns-in-Some-constant_of-clause-tells
returns-in-Some-constant_of-clause-tells c =
    some_weaker (λ p. IsNumber c.in-Some-constant_of.number p) _ _ (number_some _ _ _ c.ok.ensures.value c.constant.ensures.value c.constant.ensures.within)
    (λ p n. tells_narrower (length c.args.bits.now) c.requires.wide (tells_constant _ _ n (λ v. c.in-Some-constant_of.ensures c.args.nodes.now c.requires.net v)))

pub index-requires : goal.index-requires
index-requires c = omega (arith, place_of_word c.args.self.now.list.items _ c.in-Some-find.ensures.found)

pub returns-in-Some-find-clause-tells : goal.returns-in-Some-find-clause-tells
returns-in-Some-find-clause-tells c =
    some_weaker (λ p. p ≡ c.index.result.now.polynomial) _ _ (copy_some _ _ _ c.ok-in-Some-find.ensures.value c.copy.ensures)
    (λ p e. tells_copied c.args.self.now.list.items c.in-Some-find.at c.index.result.now c.index.ensures c.requires.words c.in-Some-find.ensures.found e)

pub returns-clause-tells : goal.returns-clause-tells
returns-clause-tells c =
    some_weaker (λ p. IsUnknown (2 * c.in_ok-at.at + 2) p) _ _ (unknown_some _ _ _ c.ok-2.ensures.value c.unknown.ensures.value c.unknown.ensures.within) (λ p u. tells_number _ _ c.in_ok-at.ensures.own u)
