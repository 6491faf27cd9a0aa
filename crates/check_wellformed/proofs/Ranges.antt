-- Values of each type: zero, and what is converted.
use Rattle.std.proofs.Common.{◌≡◌, ℤ, pos, true, List, ◌∷◌, Option, Some, None, refl}
use Rattle.std.specs.Prelude.{count_by}
use Rattle.c_core.specs.Types.{in_range}
use Rattle.c_core.specs.Typing.{is_default, label_fits}
use Rattle.c_core.proofs.Fits.{fit_in_range}
use Rattle.c_core.specs.declared.number.IntType.{IntType}
use Rattle.c_core.specs.declared.number.IntType.TheVariants as types
use Rattle.c_core.specs.declared.number.DataModel.{DataModel}
use Rattle.c_core.specs.declared.number.DataModel.TheVariants as model
use Rattle.c_core.specs.declared.tree.Label.{Label as ArmLabel}
use Rattle.check_rules.specs.Arms.{case_of}
use Rattle.check_rules.specs.Checked.{label_or_zero}

pub zero_in_range : (m : DataModel) (ty : IntType) → in_range m ty (pos 0) ≡ true
zero_in_range m types.Bool = refl
zero_in_range m types.Char = refl
zero_in_range m types.SChar = refl
zero_in_range m types.UChar = refl
zero_in_range m types.Short = refl
zero_in_range m types.UShort = refl
zero_in_range m types.Int = refl
zero_in_range m types.UInt = refl
zero_in_range model.Ilp32 types.Long = refl
zero_in_range model.Lp64 types.Long = refl
zero_in_range model.Ilp32 types.ULong = refl
zero_in_range model.Lp64 types.ULong = refl
zero_in_range m types.LongLong = refl
zero_in_range m types.ULongLong = refl

-- a case constant is one of the type to which it is converted, and no `default`
pub case_fits : (m : DataModel) (ty : IntType) (v : Option ℤ) → label_fits m ty (label_or_zero (case_of m ty v)) ≡ true
case_fits m ty None = zero_in_range m ty
case_fits m ty (Some v) = fit_in_range m ty v

pub no_default : (m : DataModel) (ty : IntType) (v : Option ℤ) (ls : List ArmLabel) → count_by is_default (label_or_zero (case_of m ty v) ∷ ls) ≡ count_by is_default ls
no_default m ty None ls = refl
no_default m ty (Some v) ls = refl
