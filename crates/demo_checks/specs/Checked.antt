-- What an answer of the checks to the items of a demo is.
use Rattle.std.specs.Prelude.{◌≡◌, List, [], ◌∷◌, Result, Ok, Err, codes}
use Rattle.c_core.specs.View.{program_view}
use Rattle.c_core.specs.declared.number.DataModel.{DataModel}
use Rattle.c_core.specs.declared.number.Property.{Property}
use Rattle.c_core.specs.declared.program.Program.{Program}
use Rattle.c_check.specs.Checking.{names_of}
use Rattle.c_parser.specs.Tree.{Item}
use Rattle.check_rules.specs.Checked.{program_of}
use Rattle.check_rules.specs.declared.fault.CheckFault.{CheckFault}
use Rattle.check_rules.specs.declared.fault.CheckFault.TheVariants.{Refused, OutOfMemory}

-- the program of these items, whose only function is `main`, unless memory ran out
abbrev pub IsProgramOf : DataModel → Property → List Item → Result Program CheckFault → Type 0
IsProgramOf m property items (Ok p) = (program_view p ≡ program_of m property items) × (names_of p.functions ≡ codes "main" ∷ [])
IsProgramOf m property items (Err (Refused code spot)) = ⊥
IsProgramOf m property items (Err OutOfMemory) = Unit {0}
