-- Tests of what calls came back with, for equality with a value.
use Rattle.std.specs.Prelude.{◌≡◌, ℤ, true, Some, Result, Ok, Err}
use Rattle.c_core.specs.Tree.{Program}
use Rattle.c_core.specs.Types.{in_range}
use Rattle.c_core.specs.declared.number.BinOp.TheVariants.{Eq}
use Rattle.c_core.specs.declared.number.IntType.{IntType}
use Rattle.way_bind.specs.declared.fault.Unbound.{Unbound}
use Rattle.way_bind.specs.declared.fault.Unbound.TheVariants.{NoPlace, Expression, Scope, OutOfMemory}
use Rattle.way_match.specs.Passing.{constant_of, meets}
use Rattle.way_match.specs.Points.{ReturnTest}

-- `\result` is equal to a constant of this value, which meets the test at every type that has it
pub record IsEqualTo (p : Program) (v : ℤ) (t : ReturnTest) : Type 0 where
  pub compares : t.op ≡ Eq
  pub value : constant_of p t.constant ≡ Some v
  pub met : (ty : IntType) → in_range p.model ty v ≡ true → meets p t ty v ≡ true

-- such a test, unless memory ran out: no refusal applies
abbrev pub IsTestFor : Program → ℤ → Result ReturnTest Unbound → Type 0
IsTestFor p v (Ok t) = IsEqualTo p v t
IsTestFor p v (Err NoPlace) = ⊥
IsTestFor p v (Err Expression) = ⊥
IsTestFor p v (Err Scope) = ⊥
IsTestFor p v (Err OutOfMemory) = Unit {0}
