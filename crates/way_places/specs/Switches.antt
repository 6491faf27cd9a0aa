-- The switches of a program, by their places.
use Rattle.std.specs.Prelude.{cond, List, [], ◌∷◌, Option, Some, None, map}
use Rattle.std.specs.List.{flat_map}
use Rattle.c_core.specs.Parts.{same_spot, statements_of_program, type_of}
use Rattle.c_core.specs.Places.{first_some}
use Rattle.c_core.specs.Tree.{Stm, Stmt, Form, Switch, Program}
use Rattle.c_core.specs.Types.{promote_of}
use Rattle.c_core.specs.declared.number.IntType.{IntType}
use Rattle.c_core.specs.declared.number.Spot.{Spot}

-- the promoted type of a test, where it has a value
abbrev pub promoted_if : Option IntType → Option IntType
promoted_if None = None
promoted_if (Some ty) = Some (promote_of ty)

-- of a switch (C11 6.8.4.2p5)
abbrev pub switch_of : Form → Option IntType
switch_of (Switch e b) = promoted_if (type_of e)
switch_of _ = None

-- of the one that stands there
abbrev pub switch_in : Spot → Stm → Option IntType
switch_in spot (Stmt at f) = cond (same_spot at spot) (switch_of f) None

-- the promoted type of the test of the switch at a place
abbrev pub switch_at : Program → Spot → Option IntType
switch_at p spot = first_some (map (switch_in spot) (statements_of_program p))

-- the type, where there is one, under a place
abbrev pub typed_at : Spot → Option IntType → List (Spot × IntType)
typed_at at None = []
typed_at at (Some ty) = (at, ty) ∷ []

-- that of a statement, if it is a switch
abbrev pub tests_of : Stm → List (Spot × IntType)
tests_of (Stmt at f) = typed_at at (switch_of f)

-- the promoted types of the tests of the switches among statements, each under its place
abbrev pub tests_among : List Stm → List (Spot × IntType)
tests_among ss = flat_map tests_of ss
