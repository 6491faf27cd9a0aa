-- Loops, by the statements that they are and by their places.
use Rattle.std.specs.Prelude.{ℕ, Bool, true, false, ◌&&◌, List, [], ◌∷◌, Option, Some, None, cond}
use Rattle.c_core.specs.Parts.{same_spot, statements_of_program}
use Rattle.c_core.specs.Tree.{Stm, Stmt, Form, While, DoWhile, For, Program}
use Rattle.c_core.specs.declared.number.Spot.{Spot}
use Rattle.c_meaning.specs.Changed.{changed_by}
use Rattle.c_meaning.specs.Meaning.{Loop, WhileLoop, DoLoop, ForLoop}
use Rattle.c_meaning.specs.Parts.{declared_in}

-- the loop that a statement is (C11 6.8.5)
abbrev pub loop_of : Form → Option Loop
loop_of (While e b) = Some (WhileLoop e b)
loop_of (DoWhile b e) = Some (DoLoop b e)
loop_of (For i e s b) = Some (ForLoop e s b)
loop_of _ = None

abbrev pub is_loop : Form → Bool
is_loop (While e b) = true
is_loop (DoWhile b e) = true
is_loop (For i e s b) = true
is_loop _ = false

abbrev pub loop_if : Option Form → Option Loop
loop_if None = None
loop_if (Some f) = loop_of f

-- what a loop changes, and nothing where there is none
abbrev pub changed_if : Program → Option Loop → List ℕ
changed_if p None = []
changed_if p (Some l) = changed_by p l

-- the objects declared in a loop's body
abbrev pub declared_in_loop : Form → List ℕ
declared_in_loop (While e b) = declared_in b
declared_in_loop (DoWhile b e) = declared_in b
declared_in_loop (For i e s b) = declared_in b
declared_in_loop _ = []

-- this form, where none was found before, and where it is a loop at the place
abbrev pub or_loop_at : Spot → Option Form → Stm → Option Form
or_loop_at spot None (Stmt at f) = cond (same_spot at spot && is_loop f) (Some f) None
or_loop_at spot (Some found) s = Some found

-- the first loop at a place among these statements, where none was found before
abbrev pub first_loop : Spot → Option Form → List Stm → Option Form
first_loop spot found [] = found
first_loop spot found (s ∷ ss) = first_loop spot (or_loop_at spot found s) ss

-- the loop at a place: the places of a checked program's statements differ
abbrev pub loop_at : Program → Spot → Option Loop
loop_at p spot = loop_if (first_loop spot None (statements_of_program p))
