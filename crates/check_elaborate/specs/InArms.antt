-- The statements of an arm, each of which is a block.
use Rattle.std.specs.Prelude.{ℕ, List, [], ◌∷◌, ◌++◌, Option}
use Rattle.c_core.specs.Tree as t
use Rattle.c_core.specs.declared.number.DataModel.{DataModel}
use Rattle.c_core.specs.declared.number.IntType.{IntType}
use Rattle.c_parser.specs.Tree as raw
use Rattle.check_rules.specs.Checked.{typed_statement}
use Rattle.check_rules.specs.declared.within.Within.{Within}
use Rattle.check_rules.specs.Parts.{Part, parts_of_statement}
use Rattle.check_rules.specs.Scopes.{Scope, opened, closed, after_statement}

module _ (m : DataModel) (bodies : List (List ℕ)) where
  -- the scope after one of them
  abbrev pub behind : Scope → raw.Stm → Scope
  behind s x = closed s (after_statement m bodies (opened s) x)

  abbrev pub after_in_arm : Scope → List raw.Stm → Scope
  after_in_arm s [] = s
  after_in_arm s (x ∷ xs) = after_in_arm (behind s x) xs

  abbrev pub typed_in_arm : Scope → List raw.Stm → t.Stms
  typed_in_arm s [] = t.NoStm
  typed_in_arm s (x ∷ xs) = t.MoreStm (typed_statement m bodies (opened s) x) (typed_in_arm (behind s x) xs)

  abbrev pub parts_in_arm : Option IntType → Within → Scope → List raw.Stm → List Part
  parts_in_arm result within s [] = []
  parts_in_arm result within s (x ∷ xs) = parts_of_statement m bodies result within (opened s) x ++ parts_in_arm result within (behind s x) xs
