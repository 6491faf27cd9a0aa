-- What `check` answers.
use Rattle.std.specs.Prelude.{◌≡◌, ℕ, List, map, Result, Ok, Err}
use Rattle.c_core.specs.View.{program_view}
use Rattle.c_core.specs.declared.number.DataModel.{DataModel}
use Rattle.c_core.specs.declared.number.Property.{Property}
use Rattle.c_core.specs.declared.program.Program.{Program}
use Rattle.c_core.specs.declared.tree.Function.{Function}
use Rattle.c_parser.specs.Tree as raw
use Rattle.check_rules.specs.Checked.{HasProgram}
use Rattle.check_rules.specs.First.{Refuses, refusal}
use Rattle.check_rules.specs.declared.fault.CheckFault.{CheckFault}
use Rattle.check_rules.specs.declared.fault.CheckFault.TheVariants.{Refused, OutOfMemory}

-- the names of functions, in their order
abbrev pub names_of : List Function → List (List ℕ)
names_of functions = map (λ f. f.name) functions

-- the program of the source, or its first refusal
abbrev pub Answers : DataModel → Property → List raw.Item → Result Program CheckFault → Type 0
Answers m property items (Ok p) = HasProgram m property items (program_view p) (names_of p.functions)
Answers m property items (Err (Refused code spot)) = Refuses m items (refusal code spot)
Answers m property items (Err OutOfMemory) = Unit {0}

-- two answers between which contracts see no difference; out of memory says nothing
abbrev pub AreSame : Result Program CheckFault → Result Program CheckFault → Type 0
AreSame (Err OutOfMemory) b = Unit {0}
AreSame a (Err OutOfMemory) = Unit {0}
AreSame (Ok p) (Ok q) = (program_view p ≡ program_view q) × (names_of p.functions ≡ names_of q.functions)
AreSame (Err (Refused code spot)) (Err (Refused code' spot')) = (code ≡ code') × (spot ≡ spot')
AreSame (Ok p) (Err (Refused code spot)) = ⊥
AreSame (Err (Refused code spot)) (Ok p) = ⊥
