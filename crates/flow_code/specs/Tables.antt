-- Where the values of a `switch` lead: an address for each, in the order of the values.
use Rattle.std.specs.Prelude.{ℕ, ℤ, List, Option}
use Rattle.std.specs.BTreeMap.{insert_entry, is_at}
use Rattle.std.specs.Map.{lookup}
use Rattle.std.specs.Option.{unwrap_or}
use Rattle.std.specs.Ordering.{int_cmp}

-- the address of a value, if it has one
abbrev pub address_in : List (ℤ × ℕ) → ℤ → Option ℕ
address_in t v = lookup (is_at (int_cmp v)) t

-- the same, or another where it has none
abbrev pub address_or : List (ℤ × ℕ) → ℕ → ℤ → ℕ
address_or t other v = unwrap_or (address_in t v) other

-- with an address for a value; where it has one already, that stays
abbrev pub added : List (ℤ × ℕ) → ℤ → ℕ → List (ℤ × ℕ)
added t v to = insert_entry int_cmp t v (address_or t to v)
