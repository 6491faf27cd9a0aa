-- Which constants of a switch its test equals (C11 6.8.4.2).
use Rattle.std.specs.Prelude.{◌≡◌, ℕ, ◌+◌, ◌*◌, Bool, List, [], ◌∷◌, map}
use Rattle.c_core.specs.Tree.{Program}
use Rattle.c_core.specs.Types.{width_of}
use Rattle.c_core.specs.declared.number.DataModel.{DataModel}
use Rattle.c_core.specs.declared.number.IntType.{IntType}
use Rattle.c_core.specs.declared.tree.Label.{Label as ArmLabel}
use Rattle.c_core.specs.declared.tree.Label.TheVariants.{Case, Default}
use Rattle.c_meaning.specs.Run.{is_case}
use Rattle.circuits.specs.declared.net.Bit.{Bit}
use Rattle.circuits.specs.Net.{holds}
use Rattle.circuits.specs.Numbers.{typed, AreIn}
use Rattle.sym_state.specs.declared.state.Sym.{Sym}
use Rattle.sym_state.specs.Standing.{Turned}

-- and-nodes of a comparison with a constant, and of its truth value
abbrev pub equality_cost : DataModel → IntType → ℕ
equality_cost m ty = 16 * width_of m ty + 32

-- of a label of a switch whose test has this promoted type
abbrev pub case_cost : DataModel → IntType → ArmLabel → ℕ
case_cost m ty (Case c) = equality_cost m ty
case_cost m ty Default = 0

abbrev pub cases_cost : DataModel → IntType → List ArmLabel → ℕ
cases_cost m ty [] = 0
cases_cost m ty (l ∷ ls) = case_cost m ty l + cases_cost m ty ls

-- label by label, whether a value is the constant of the case
pub record AreCases (p : Program) (ty : IntType) (x : List Bit) (ls : List ArmLabel) (old new : Sym) (bits : List Bit) : Type 0 where
  pub turned : Turned p (cases_cost p.model ty ls) 0 old new (λ v s. s)
  pub inside : AreIn new.net bits
  pub are : (v : ℕ → Bool) → map (holds v new.net) bits ≡ map (is_case (typed p.model ty v old.net x)) ls
