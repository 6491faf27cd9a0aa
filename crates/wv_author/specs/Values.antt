-- Values for the inputs of a program, as a text: a whole number on each line.
use Rattle.std.specs.Prelude.{◌≡◌, ◌≤◌, ◌⊎◌, ℕ, ℤ, ◌+◌, ◌<◌, pos, neg_ℤ, true, List, [], ◌∷◌, ◌++◌, length, take, drop, Option, Some, None, Result, Ok, Err}
use Rattle.std.specs.Str.{all_ascii_digits}
use Rattle.std.specs.Str.Parse.{digits_value}
use Rattle.wv_author.specs.declared.values.ValuesFault.{ValuesFault}
use Rattle.wv_author.specs.declared.values.ValuesFault.TheVariants.{Form, OutOfMemory}

-- one to twenty decimal digits
pub record AreDigits (digits : List ℕ) : Type 0 where
  pub some : 1 ≤ length digits
  pub few : length digits ≤ 20
  pub decimal : all_ascii_digits digits ≡ true

-- a number without a sign, or with a minus
abbrev pub IsNumber : ℤ → List ℕ → Type 0
IsNumber v text = (digits : List ℕ) × AreDigits digits
    × (((text ≡ digits) × (v ≡ pos (digits_value 10 digits))) ⊎ ((text ≡ 45 ∷ digits) × (v ≡ neg_ℤ (pos (digits_value 10 digits)))))

-- each number on a line of its own, which a line feed ends; no numbers are no bytes
abbrev pub AreValues : List ℤ → List ℕ → Type 0
AreValues [] text = text ≡ []
AreValues (v ∷ vs) text = (line : List ℕ) × (rest : List ℕ) × IsNumber v line × (text ≡ line ++ 10 ∷ rest) × AreValues vs rest

-- the values that stand in these bytes; `Form` exactly where none do
abbrev pub ReadsValues : List ℕ → Result (List ℤ) ValuesFault → Type 0
ReadsValues bytes (Ok vs) = AreValues vs bytes
ReadsValues bytes (Err Form) = (vs : List ℤ) → AreValues vs bytes → ⊥
ReadsValues bytes (Err OutOfMemory) = Unit {0}

-- the number that a line writes, if it writes one
abbrev pub ReadsNumber : List ℕ → Option ℤ → Type 0
ReadsNumber line (Some v) = IsNumber v line
ReadsNumber line None = (v : ℤ) → IsNumber v line → ⊥

-- no line feed stands among these bytes
abbrev pub HasNoFeed : List ℕ → Type 0
HasNoFeed [] = Unit {0}
HasNoFeed (b ∷ bs) = (b ≡ 10 → ⊥) × HasNoFeed bs

-- the first line has this many bytes before its line feed
pub record IsLine (text : List ℕ) (size : ℕ) : Type 0 where
  pub within : size < length text
  pub ended : text ≡ take size text ++ 10 ∷ drop (size + 1) text
  pub first : HasNoFeed (take size text)

-- the size of the first line; none where no line feed stands
abbrev pub FindsLine : List ℕ → Option ℕ → Type 0
FindsLine text (Some size) = IsLine text size
FindsLine text None = (line rest : List ℕ) → text ≡ line ++ 10 ∷ rest → ⊥

-- a text has one list of values at most
abbrev pub OneListOfValues : Type 0
OneListOfValues = (text : List ℕ) (these those : List ℤ) → AreValues these text → AreValues those text → these ≡ those
