-- A line of a document, as the rules speak of it.
use Rattle.std.specs.Prelude.{ℕ, ◌+◌, ◌<◌, ◌^◌, List, length, Bool, refl}
use Rattle.std.specs.Coded.{Coded, code_by, coded×, coded_ℕ, coded_list, coded_bool}

-- this many spaces, the characters after them, and whether a line break ends it
pub record Line : Type 0 where
  pub indent : ℕ
  pub text : List ℕ
  pub ended : Bool

-- a line by its spaces, the text after them and whether a break ends it
abbrev pub line_at : ℕ → List ℕ → Bool → Line
line_at n text ended = record { indent = n; text = text; ended = ended }

abbrev pub coded_line : Coded Line
coded_line = code_by (ℕ × (List ℕ × Bool)) (coded× coded_ℕ (coded× (coded_list coded_ℕ) coded_bool))
    (λ l. (l.indent, (l.text, l.ended))) (λ p. record { indent = p.0; text = p.1.0; ended = p.1.1 }) (λ _. refl)

-- a column in this line is a number that fits
abbrev pub IsSmall : Line → Type 0
IsSmall l = l.indent + length l.text < 2 ^ 63
