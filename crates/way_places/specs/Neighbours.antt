-- The statements of blocks and arms, each under the place of the one after it.
use Rattle.std.specs.Prelude.{List, [], ◌∷◌, ◌++◌, Option, Some, None, map}
use Rattle.std.specs.List.{flat_map}
use denote.Ref.{Bor}
use Rattle.c_core.specs.Tree as t
use Rattle.c_core.specs.Tree.{Stm, Form, Block, Switch, Stms, NoStm, MoreStm, MoreCase}
use Rattle.c_core.specs.Parts.{spot_of_statement}
use Rattle.c_core.specs.View.{stmt_view}
use Rattle.c_core.specs.declared.number.Spot.{Spot}
use Rattle.c_core.specs.declared.tree.Stmt.{Stmt}

abbrev pub pair_view : Spot × Bor Stmt → Spot × Stm
pair_view c = (c.0, stmt_view c.1.now)

abbrev pub pairs_view : List (Spot × Bor Stmt) → List (Spot × Stm)
pairs_view cs = map pair_view cs

abbrev pub pair_of : Stm → Stms → List (Spot × Stm)
pair_of s NoStm = []
pair_of s (MoreCase spot l b) = []
pair_of s (MoreStm behind b) = (spot_of_statement behind, s) ∷ []

abbrev pub pairs_in : Stms → List (Spot × Stm)
pairs_in NoStm = []
pairs_in (MoreStm s b) = pair_of s b ++ pairs_in b
pairs_in (MoreCase spot l b) = pairs_in b

abbrev pub pairs_in_form : Form → List (Spot × Stm)
pairs_in_form (Block b) = pairs_in b
pairs_in_form (Switch e b) = pairs_in b
pairs_in_form _ = []

abbrev pub pairs_of : Stm → List (Spot × Stm)
pairs_of (t.Stmt at f) = pairs_in_form f

abbrev pub among : List Stm → List (Spot × Stm)
among ss = flat_map pairs_of ss

-- those in these statements, behind the last one
abbrev pub pairs_behind : Option Stm → Stms → List (Spot × Stm)
pairs_behind None b = pairs_in b
pairs_behind (Some s) b = pairs_in (MoreStm s b)
