use Rattle.std.proofs.Common.{arith, ◌≡◌, ◌≤◌, ℕ, List, length, true, Result, Ok, Err, subst}
use Rattle.std.proofs.lemmas.Str.Parse.{IsNumeralModel, numerals_by_value, tells_all_ascii_digits, parse_digits, digits_value_short}
use Rattle.std.specs.Str.{all_ascii_digits}
use Rattle.std.specs.Str.Parse.{digits_value, ParsesUnsigned}
use Rattle.wv_schema.proofs.rule.number_of.Goals as goal

own : IsNumeralModel (λ ds. all_ascii_digits ds ≡ true) (digits_value 10)
own = numerals_by_value _ tells_all_ascii_digits

-- up to seven digits are no error
no_error : {E : Type 0} (bs : List ℕ) (r : Result ℕ E) (e : E) → r ≡ Err e → ParsesUnsigned 32 10 bs r → all_ascii_digits bs ≡ true → 1 ≤ length bs → length bs ≤ 7 → ⊥
no_error bs r e is h digits some few =
    parse_digits own 32 bs (Err e) (subst (λ x. ParsesUnsigned 32 10 bs x) is h) digits (omega arith, omega (arith, digits_value_short own bs 7 digits few))

pub unreachable-requires : goal.unreachable-requires
unreachable-requires c = absurd (no_error c.args.text.now _ _ c.in-Err.is c.parse.ensures.value.0 c.requires.digits c.requires.some c.requires.few)
