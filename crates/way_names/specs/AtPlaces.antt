-- What is visible at a statement or a loop that is at hand.
use Rattle.std.specs.Prelude.{ℕ, List}
use Rattle.c_core.specs.Tree.{Program}
use Rattle.c_core.specs.View.{program_view}
use Rattle.c_core.specs.declared.tree.Object.{Object}
use Rattle.way_names.specs.Visible.{names_at}
use Rattle.way_names.specs.declared.named.NamesAt.{NamesAt}

-- the program of a place
abbrev pub program_at : NamesAt → Program
program_at at = program_view at.names.now.program.now

-- its objects
abbrev pub objects_of : NamesAt → List Object
objects_of at = at.names.now.program.now.objects

-- the objects that are visible there
abbrev pub visible : NamesAt → List ℕ
visible at = names_at (program_at at) at.kind at.spot
