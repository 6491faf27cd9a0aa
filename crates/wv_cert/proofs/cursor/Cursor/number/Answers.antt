use Rattle.std.proofs.Common.{◌≡◌, ℕ, take, true, arith, sym, subst, ◌∙◌}
use Rattle.std.specs.Str.{all_ascii_digits}
use Rattle.std.proofs.lemmas.List.{take_rest}
use Rattle.wv_cert.proofs.Digits.{front_digits, no_large, no_digit, no_zero_first, number_left, never}
use Rattle.wv_cert.proofs.cursor.Cursor.number.Goals as goal

pub returns-then-count-eq0 : goal.returns-then-count-eq0
returns-then-count-eq0 c = λ n rest small ends spelled.
    no_digit c.self.inside.left.now c.digit_run-count.result c.digit_run-count.ensures.run c.if-count-eq0.true n rest small ends (c.self.view_is ∙ spelled)

pub returns-then-has_leading_zero : goal.returns-then-has_leading_zero
returns-then-has_leading_zero c = λ n rest small ends spelled.
    let zero_first = c.has_leading_zero.ensures.0 c.if-has_leading_zero.true in
    no_zero_first c.self.inside.left.now c.digit_run-count.result c.digit_run-count.ensures.run zero_first.0 zero_first.1 n rest small ends (c.self.view_is ∙ spelled)

pub value_of-requires : goal.value_of-requires
value_of-requires c =
    let P : ℕ → Type 0 = λ k. all_ascii_digits (take k c.self.inside.left.now) ≡ true in
    subst P (sym c.digit_run-count.ensures.run) (front_digits c.self.inside.left.now)

pub returns-in_err-number : goal.returns-in_err-number
returns-in_err-number c =
    let none = no_large c.self.inside.left.now c.digit_run-count.result c.digit_run-count.ensures.run c.in_err-number.ensures in
    rw c.from_residual.ensures (λ n rest small ends spelled. none n rest small ends (c.self.view_is ∙ spelled))

pub returns : goal.returns
returns c =
    number_left c.self.inside.left.now _ _ c.digit_run-count.result c.in_ok-number.number c.self.view_is (take_rest c.self.inside.left.now c.digit_run-count.result)
    c.digit_run-count.ensures.run c.if-count-eq0.false (λ more zero_first. never (c.if-has_leading_zero.ensures.1 (more, zero_first)))
    (omega (arith, c.in_ok-number.ensures.0, c.in_ok-number.ensures.1)) c.in_ok-number.ensures.1
