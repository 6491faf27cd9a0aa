-- Which arm of a switch is chosen.
use Rattle.std.specs.Prelude.{◌≡◌, ℕ, ℤ, true, List}
use Rattle.std.specs.List.{list_any}
use Rattle.c_core.specs.declared.tree.Label.{Label as ArmLabel}
use Rattle.c_meaning.specs.Run.{first_label, is_case}

-- the first label with a constant
pub record IsFirstCase (v : ℤ) (ls : List ArmLabel) (n : ℕ) : Type 0 where
  pub any : list_any (is_case v) ls ≡ true
  pub first : n ≡ first_label (is_case v) ls
