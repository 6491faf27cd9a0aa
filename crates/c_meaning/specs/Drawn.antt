-- What the values of a run's draws are.
use Rattle.std.specs.Prelude.{◌-◌, ◌^◌, ◌≤ℤ◌, ℤ, pos, neg_ℤ, List}
use Rattle.std.specs.Bool.{IsTrue}
use Rattle.std.specs.List.{All}
use Rattle.c_core.specs.Types.{in_range}
use Rattle.c_core.specs.declared.number.DataModel.{DataModel}
use Rattle.c_meaning.specs.declared.run.Draw.{Draw}

-- its value is one of its type (C11 6.2.6.2)
abbrev pub IsFitting : DataModel → Draw → Type 0
IsFitting m draw = IsTrue (in_range m draw.ty draw.value)

-- a whole number from -2^63 to 2^64 - 1, as the values of all types are
abbrev pub IsIn64Bits : ℤ → Type 0
IsIn64Bits n = (neg_ℤ (pos (2 ^ 63)) ≤ℤ n) × (n ≤ℤ pos (2 ^ 64 - 1))

-- every draw is so
pub record AreFitting (m : DataModel) (draws : List Draw) : Type 0 where
  pub in_types : All (IsFitting m) draws
  pub in_64_bits : All (λ draw. IsIn64Bits draw.value) draws
