-- Which arms of a switch are done: the chosen one, and those after it (C11 6.8.4.2).
use Rattle.std.specs.Prelude.{◌≡◌, ℕ, zero, suc, Bool, true, false, ◌||◌, ℤ, List, [], ◌∷◌, map}
use Rattle.c_core.specs.Tree.{Program}
use Rattle.c_core.specs.declared.tree.Label.{Label as ArmLabel}
use Rattle.c_core.specs.declared.tree.Label.TheVariants.{Case, Default}
use Rattle.c_meaning.specs.Run.{arm_for}
use Rattle.circuits.specs.declared.net.Bit.{Bit}
use Rattle.circuits.specs.declared.net.NetNode.{NetNode}
use Rattle.circuits.specs.Net.{holds, Grown}
use Rattle.circuits.specs.Numbers.{AreIn}
use Rattle.sym_state.specs.declared.state.Sym.{Sym}
use Rattle.sym_state.specs.Standing.{Turned}

-- arm by arm, where the arm of a number is chosen
abbrev pub done_from : ℕ → List ArmLabel → List Bool
done_from n [] = []
done_from zero (l ∷ ls) = true ∷ done_from zero ls
done_from (suc n) (l ∷ ls) = false ∷ done_from n ls

-- where an arm is entered: at its constant, or as the default of a value that is none of the constants
abbrev pub entry_of : {A : Type 0} → ArmLabel → A → A → A
entry_of (Case c) case none = case
entry_of Default case none = none

-- arm by arm, whether it or one before it is entered
abbrev pub entered_by : Bool → Bool → List ArmLabel → List Bool → List Bool
entered_by before none [] cases = []
entered_by before none (l ∷ ls) [] = []
entered_by before none (l ∷ ls) (c ∷ cases) = (before || entry_of l c none) ∷ entered_by (before || entry_of l c none) none ls cases

-- the same as bits of a net
pub record AreEntries (most : ℕ) (ls : List ArmLabel) (cases : List Bit) (none : Bit) (old new : List NetNode) (bits : List Bit) : Type 0 where
  pub grown : Grown most old new
  pub inside : AreIn new bits
  pub are : (v : ℕ → Bool) → map (holds v new) bits ≡ entered_by false (holds v old none) ls (map (holds v old) cases)

-- arm by arm, whether it is done for the value under inputs
pub record Entered (p : Program) (ands : ℕ) (ls : List ArmLabel) (value : (ℕ → Bool) → ℤ) (old new : Sym) (bits : List Bit) : Type 0 where
  pub turned : Turned p ands 0 old new (λ v s. s)
  pub inside : AreIn new.net bits
  pub are : (v : ℕ → Bool) → map (holds v new.net) bits ≡ done_from (arm_for (value v) ls) ls
