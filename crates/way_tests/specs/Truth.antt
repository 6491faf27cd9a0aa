-- Truth of values that may be undefined.
use Rattle.std.specs.Prelude.{ℤ, Bool, false, not, Option, Some, int_lt, int_le}
use Rattle.std.specs.Ordering.{int_eq}
use Rattle.c_core.specs.Types.{is_zero}
use Rattle.c_core.specs.declared.number.BinOp.{BinOp}
use Rattle.c_core.specs.declared.number.BinOp.TheVariants.{Lt, Le, Gt, Ge, Eq, Ne}
use Rattle.c_meaning.specs.Value.{and_then}

-- whether a value isn't 0, where there is one
abbrev pub truth_in : Option ℤ → Option Bool
truth_in v = and_then v (λ x. Some (not (is_zero x)))

-- two values of one type compared (C11 6.5.8, 6.5.9)
abbrev pub is_so : BinOp → ℤ → ℤ → Bool
is_so Lt a b = int_lt a b
is_so Le a b = int_le a b
is_so Gt a b = int_lt b a
is_so Ge a b = int_le b a
is_so Eq a b = int_eq a b
is_so Ne a b = not (int_eq a b)
is_so _ a b = false
