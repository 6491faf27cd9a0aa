use Rattle.std.proofs.Common.{◌≡◌, ◌∙◌, not, sym, ap}
use Rattle.circuits.specs.Numbers.{digit}
use Rattle.circuits.proofs.Unknowns.{IsNumber, constant_holds, number_some, some_weaker, some_at, tells_constant, tells_negated, tells_opposite, tells_plain}
use Rattle.circuits.proofs.words.Words.truth.Goals as goal
use Rattle.circuits.proofs.words.Words.truth.Goals.{then-bit, else-bit}

pub returns-then-bit-eq0-clause-tells : goal.returns-then-bit-eq0-clause-tells
returns-then-bit-eq0-clause-tells c =
    let is : digit (not c.args.bit.negated) ≡ c.if-bit.constant = elim c.if-bit.branch [
      | then-bit w ↦ ap (λ n. digit (not n)) w.if-bit.true ∙ sym w.constant-is
      | else-bit w ↦ ap (λ n. digit (not n)) w.if-bit.false ∙ sym w.constant-is
    ] in
    some_weaker (λ p. IsNumber c.if-bit.constant p) _ _ (number_some _ _ _ c.ok.ensures.value c.constant.ensures.value c.constant.ensures.within)
    (λ p n. tells_constant _ _ n (λ v. ap digit (constant_holds v c.args.nodes.now c.args.bit c.requires.net c.if-bit-eq0.true) ∙ is))

pub returns-then-not-bit-clause-tells : goal.returns-then-not-bit-clause-tells
returns-then-not-bit-clause-tells c = tells_plain c.args.bit c.if-not-bit.true c.in_ok-truth.ensures.tells

pub returns-in-Ok-true-clause-tells : goal.returns-in-Ok-true-clause-tells
returns-in-Ok-true-clause-tells c =
    let one : IsNumber 1 c.in_ok-other.other = some_at (λ p. IsNumber 1 p) _ _ c.in_ok-other.was (number_some _ _ _ c.ok-2.ensures.value c.constant-2.ensures.value c.constant-2.ensures.within) in
    tells_opposite _ c.args.bit _ _ _ one (tells_negated c.args.bit c.if-not-bit.false c.in_ok-truth.ensures.tells) (c.in-Ok-true.ensures.added c.in-Ok-true.field-0-test)
