use Rattle.std.proofs.Common.{arith, ◌≡◌, ◌≤◌, ◌<◌, ◌^◌, ℕ, ℤ, List, length, drop, cond, Bool, true, false, nat_le, Result, Err, refl, subst, leb-true, eqb-true}
use Rattle.std.specs.Int.{w128}
use Rattle.std.proofs.lemmas.Str.Parse.{IsNumeralModel, numerals_by_value, tells_all_ascii_digits, parse_signed_digits, parse_signed_minus, digits_value_short}
use Rattle.std.specs.Str.{all_ascii_digits}
use Rattle.std.specs.Str.Parse.{digits_value, starts_with_minus, ParsesSigned}
use Rattle.wv_schema.specs.Judging.{is_integer, is_numeral}
use Rattle.wv_schema.proofs.MetParts.{and_first, and_rest}
use Rattle.wv_schema.proofs.integer.integer_of.Goals as goal

own : IsNumeralModel (λ ds. all_ascii_digits ds ≡ true) (digits_value 10)
own = numerals_by_value _ tells_all_ascii_digits

some_of : (ds : List ℕ) → is_numeral ds ≡ true → 1 ≤ length ds
some_of ds h = leb-true _ _ (and_first (nat_le 1 (length ds)) _ h)

few_of : (ds : List ℕ) → is_numeral ds ≡ true → length ds ≤ 20
few_of ds h = leb-true _ _ (and_first (nat_le (length ds) 20) _ (and_rest (nat_le 1 (length ds)) _ h))

digits_of : (ds : List ℕ) → is_numeral ds ≡ true → all_ascii_digits ds ≡ true
digits_of ds h = and_rest (nat_le (length ds) 20) _ (and_rest (nat_le 1 (length ds)) _ h)

-- 20 digits are few
small : (ds : List ℕ) → is_numeral ds ≡ true → digits_value 10 ds < 2 ^ 127
small ds h = let less : digits_value 10 ds < 10 ^ 20 = digits_value_short own ds 20 (digits_of ds h) (few_of ds h) in omega arith

no_error : {E : Type 0} (bs : List ℕ) (minus : Bool) (r : Result ℤ E) (e : E) → starts_with_minus bs ≡ minus → r ≡ Err e → ParsesSigned w128 10 bs r → is_numeral (cond minus (drop 1 bs) bs) ≡ true → ⊥
no_error bs true r e m is h n =
    let less = small (drop 1 bs) n in
    let some = some_of (drop 1 bs) n in
    parse_signed_minus own w128 bs (Err e) (subst (λ x. ParsesSigned w128 10 bs x) is h) (eqb-true _ _ m) (digits_of (drop 1 bs) n, omega arith, omega arith)
no_error bs false r e m is h n =
    parse_signed_digits own w128 bs (Err e) (subst (λ x. ParsesSigned w128 10 bs x) is h) (digits_of bs n) (some_of bs n, small bs n)

pub unreachable-requires : goal.unreachable-requires
unfolding is_integer
unreachable-requires c = absurd (no_error c.args.text.now (starts_with_minus c.args.text.now) _ _ refl c.in-Err.is c.parse.ensures.value.0 c.requires)
