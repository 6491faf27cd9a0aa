-- The tokens of property texts (SV-COMP rules, 'Properties').
use Rattle.std.specs.Prelude.{ℕ, Bool, false, ◌&&◌, ◌||◌, ◌==◌, nat_le, List, [], ◌∷◌, bytes_eq, if◌then◌else◌}
use Rattle.std.specs.Cmp.Lexicographic.{pointwise}
use Rattle.std.specs.List.{prefix_len}

-- space, tab, carriage return, line feed
abbrev pub is_blank : ℕ → Bool
is_blank b = (b == 32) || (b == 9) || (b == 13) || (b == 10)

-- `a` to `z`, `A` to `Z`, `_`
abbrev pub is_letter : ℕ → Bool
is_letter b = (nat_le 97 b && nat_le b 122) || (nat_le 65 b && nat_le b 90) || (b == 95)

-- a letter stands first
abbrev pub begins_with_letter : List ℕ → Bool
begins_with_letter [] = false
begins_with_letter (b ∷ text) = is_letter b

-- the tokens of which the first has this byte more at its front
abbrev pub longer : ℕ → List (List ℕ) → List (List ℕ)
longer b [] = (b ∷ []) ∷ []
longer b (w ∷ ts) = (b ∷ w) ∷ ts

-- the words of letters, each as long as it can be, and every other byte by itself; blanks are none
abbrev pub tokens : List ℕ → List (List ℕ)
tokens [] = []
tokens (b ∷ text) =
    if is_blank b then tokens text
    else if is_letter b && begins_with_letter text then longer b (tokens text)
    else (b ∷ []) ∷ tokens text

-- two texts of the same tokens
abbrev pub reads_as : List ℕ → List ℕ → Bool
reads_as text formula = pointwise bytes_eq (tokens text) (tokens formula)

-- how long the first token is, where no blank stands before it
abbrev pub token_length : List ℕ → ℕ
token_length [] = 0
token_length (b ∷ text) = if is_letter b then prefix_len is_letter (b ∷ text) else 1
