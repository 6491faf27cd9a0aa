-- What `parse` answers.
use Rattle.std.specs.Prelude.{◌≡◌, List, map, Result, Ok, Err}
use Rattle.c_core.specs.declared.number.Spot.{Spot}
use Rattle.c_tokens.specs.declared.token.Token.{Token}
use Rattle.c_parser.specs.Tree as t
use Rattle.c_parser.specs.Sources.{IsSource, IsSyntax}
use Rattle.c_parser.specs.ReadItems as o
use Rattle.c_parser.specs.SourceView.{item_view}
use Rattle.c_parser.specs.declared.item.Source.{Source}
use Rattle.c_parser.specs.declared.fault.ParseFault.{ParseFault}
use Rattle.c_parser.specs.declared.fault.ParseFault.TheVariants.{Syntax, OutOfMemory}

-- a source that was read, as the tree of definitions
abbrev pub source_view : Source → List t.Item
source_view s = map item_view s.items

-- a source that the tokens spell, or the place of the first item that fits no form
abbrev pub Answers : List Token → Result Source ParseFault → Type 0
Answers ts (Ok s) = IsSource ts (source_view s)
Answers ts (Err (Syntax line column)) = IsSyntax ts (record { line = line; column = column })
Answers ts (Err OutOfMemory) = Unit {0}

-- these items are what was found, unless memory ran out
abbrev pub IsFound : Result Source ParseFault → List t.Item → Type 0
IsFound (Ok s) xs = source_view s ≡ xs
IsFound (Err (Syntax line column)) xs = ⊥
IsFound (Err OutOfMemory) xs = Unit {0}

-- this is the place that was refused, unless memory ran out
abbrev pub IsRefused : Result Source ParseFault → Spot → Type 0
IsRefused (Ok s) p = ⊥
IsRefused (Err (Syntax line column)) p = p ≡ record { line = line; column = column }
IsRefused (Err OutOfMemory) p = Unit {0}

-- what the function of the specification reads
abbrev pub Outcomes : Result Source ParseFault → o.Outcome → Type 0
Outcomes (Ok s) read = read ≡ o.Source (source_view s)
Outcomes (Err (Syntax line column)) read = read ≡ o.Syntax (record { line = line; column = column })
Outcomes (Err OutOfMemory) read = Unit {0}
