-- The arms of a `switch`: their labels as those of the program (C11 6.8.4.2).
use Rattle.std.specs.Prelude.{ℕ, ℤ, List, Option, Some, None}
use Rattle.c_core.specs.Types.{fit, promote_of}
use Rattle.c_core.specs.declared.number.IntType.{IntType}
use Rattle.c_core.specs.declared.number.DataModel.{DataModel}
use Rattle.c_core.specs.declared.tree.Label.{Label as ArmLabel}
use Rattle.c_core.specs.declared.tree.Label.TheVariants.{Case, Default}
use Rattle.c_parser.specs.Tree as raw
use Rattle.check_rules.specs.Names.{Entry}
use Rattle.check_rules.specs.Constants.{constant, valued}
use Rattle.check_rules.specs.Typed.{typed}

-- the type of the constants: the promoted one of the test
abbrev pub switch_type : Option IntType → IntType
switch_type test = promote_of (valued test)

-- the constant of an arm, converted to that type
abbrev pub case_of : DataModel → IntType → Option ℤ → Option ArmLabel
case_of m ty None = None
case_of m ty (Some v) = Some (Case (fit m ty v))

module _ (m : DataModel) (bodies : List (List ℕ)) where
  -- the label of an arm; none where its constant is none
  abbrev pub label_of : List Entry → IntType → raw.ArmLabel → Option ArmLabel
  label_of es ty (raw.Case e) = case_of m ty (constant m (typed m bodies es e))
  label_of es ty raw.Default = Some Default
