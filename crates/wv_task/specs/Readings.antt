-- Identifiers and creation times, as the crates `uuid` and `jiff` read them.
use Rattle.std.specs.Prelude.{ℕ, ℤ, pos, List, Option, option_map}
use Rattle.std.specs.Int.{int_div_euclid}
use Rattle.std.specs.Result.{result_ok}
use Rattle.jiff.specs.Words.{parse_timestamp}
use Rattle.uuid.specs.Text.{parsed, hyphenated_text, lower}

-- the identifier of a text, written in lower case with hyphens (RFC 9562, section 4)
abbrev pub identifier_of : List ℕ → Option (List ℕ)
identifier_of text = option_map (λ id. hyphenated_text lower id) (parsed text)

-- the whole second of an instant in nanoseconds, rounded down
abbrev pub second_of : ℤ → ℤ
second_of nanoseconds = int_div_euclid nanoseconds (pos 1000000000)

-- the seconds since 1970 of the instant that a text writes (RFC 3339)
abbrev pub created_of : List ℕ → Option ℤ
created_of text = option_map second_of (result_ok (parse_timestamp text))
