-- The labels of the arms of a `switch`, with the constants among them in a set.
use Rattle.std.specs.Prelude.{◌≡◌, ℤ}
use Rattle.std.specs.List.{list_any}
use Rattle.std.specs.Ordering.{int_cmp}
use Rattle.std.specs.BTreeSet.{contains}
use Rattle.c_core.specs.declared.tree.Label.TheVariants.{Case, Default}
use Rattle.check_rules.specs.Codes.{same_label}
use Rattle.check_elaborate.specs.declared.arm_labels.ArmLabels.{ArmLabels}

-- the set and the mark are those of the list
pub record AreFound (labels : ArmLabels) : Type 0 where
  pub constants : (c : ℤ) → contains int_cmp labels.constants c ≡ list_any (same_label (Case c)) labels.all
  pub default : labels.has_default ≡ list_any (same_label Default) labels.all
