-- Ranges of numbers modulo 2^w.
use Rattle.std.specs.Prelude.{ℕ, ◌+◌, ◌%◌, ◌^◌, ◌≤◌, ◌<◌, Bool, true, false}
use Rattle.circuits.specs.declared.ranges.Range.{Range}

pub record IsWithin (r : Range) (n : ℕ) : Type 0 where
  pub above : r.least ≤ n
  pub below : n ≤ r.most

-- whether n reaches 2^w
abbrev pub Reaches : ℕ → ℕ → Bool → Type 0
Reaches w n true = 2 ^ w ≤ n
Reaches w n false = n < 2 ^ w

-- all sums of a number of a range and another reach 2^w, or none does
abbrev pub Wraps : ℕ → Range → ℕ → Bool → Type 0
Wraps w r by is = (n : ℕ) → IsWithin r n → Reaches w (n + by) is

-- the sums of a number below 2^w of a range and another are in a range, modulo 2^w
abbrev pub IsMoved : ℕ → Range → ℕ → Range → Type 0
IsMoved w r by new = (n : ℕ) → n < 2 ^ w → IsWithin r n → IsWithin new ((n + by) % 2 ^ w)
