-- A program as code.
use Rattle.std.specs.Prelude.{◌≡◌, ℕ, ◌+◌, ◌<◌, List, [], ◌∷◌, ◌++◌, length, Option, Some, None, slice_get}
use Rattle.std.specs.List.{All}
use Rattle.c_core.specs.Tree.{Stm, Stmt, Function, Program}
use Rattle.c_core.specs.Program.{IsProgram}
use Rattle.c_core.specs.declared.number.DataModel.{DataModel}
use Rattle.c_core.specs.declared.tree.Object.{Object}
use Rattle.c_meaning.specs.Objects.{type_of_object}
use Rattle.c_meaning.specs.Cells.{Cell}
use Rattle.c_meaning.specs.Run.{first_cells}
use Rattle.flow_code.specs.declared.code.Action.TheVariants.{Rest, End, Leave}
use Rattle.flow_code.specs.declared.code.Op.{Op}
use Rattle.flow_code.specs.declared.code.Parameter.{Parameter}
use Rattle.flow_code.specs.declared.code.Body.{Body}
use Rattle.flow_code.specs.declared.code.First.{First}
use Rattle.flow_code.specs.declared.code.Code.{Code}
use Rattle.flow_code.specs.declared.statements.Inside.{Inside}
use Rattle.flow_code.specs.Preparing.{followed, op}
use Rattle.flow_code.specs.Sizes.{outermost, size_of_form}
use Rattle.flow_code.specs.Statements.{form_code}
use Rattle.flow_code.specs.Words.{native, native_if}

-- in a function, whose last operation stands at an address
abbrev pub in_function : DataModel → ℕ → Function → Inside
in_function m leave f = record { broken = leave; again = leave; depth = outermost; result = native_if m f.result }

-- of a cell that lives when a run begins
abbrev pub cell_of : First → Cell
cell_of f = record { key = record { object = f.object; index = f.index }; value = f.value }

-- the cells that live when a run begins
abbrev pub cells_of : List First → List Cell
cells_of [] = []
cells_of (f ∷ fs) = cell_of f ∷ cells_of fs

-- the number of each object's cells
abbrev pub sizes_of : List Object → List ℕ
sizes_of [] = []
sizes_of (o ∷ os) = o.cells ∷ sizes_of os

-- where a function begins, if there is one; a run without `main` ends at the first operation
abbrev pub entry_of : Option Body → ℕ
entry_of None = 0
entry_of (Some b) = b.entry

module _ (p : Program) where
  -- a function's body: its step, its statements, and the way back
  abbrev pub body_code : ℕ → Function → Stm → List Op
  body_code i f (Stmt at x) = followed i (op 1 Rest ∷ []) (λ j. form_code p j (in_function p.model (j + size_of_form outermost x) f) at x) ++ op 0 Leave ∷ []

  -- a function of the program
  abbrev pub function_code : ℕ → Function → List Op
  function_code i f = body_code i f f.body

  -- functions one behind another
  abbrev pub functions_code : ℕ → List Function → List Op
  functions_code i [] = []
  functions_code i (f ∷ fs) = followed i (function_code i f) (λ j. functions_code j fs)

  -- parameters, each with its type as the processor has it
  abbrev pub parameters_of : List ℕ → List Parameter
  parameters_of [] = []
  parameters_of (o ∷ os) = record { object = o; ty = native p.model (type_of_object p o) } ∷ parameters_of os

  -- where functions that stand one behind another begin, and their parameters
  abbrev pub bodies : ℕ → List Function → List Body
  bodies i [] = []
  bodies i (f ∷ fs) = record { entry = i; parameters = parameters_of f.params } ∷ bodies (i + length (function_code i f)) fs

-- the code of a program: one list of operations, in which a run without `main` ends at once; where its functions begin, their parameters;
-- the cells that live at the start
pub record IsCodeOf (p : Program) (c : Code) : Type 0 where
  -- the data model
  pub model : c.model ≡ p.model
  -- what is to be verified
  pub property : c.property ≡ p.property
  -- the functions' operations, behind the end of a run without `main`
  pub ops : c.ops ≡ op 0 End ∷ functions_code p 1 p.functions
  -- where each function begins
  pub functions : c.functions ≡ bodies p 1 p.functions
  -- static storage
  pub first : cells_of c.first ≡ first_cells p
  -- how many cells each object has
  pub sizes : c.sizes ≡ sizes_of p.objects
  -- where a run begins
  pub main : c.main ≡ entry_of (slice_get (bodies p 1 p.functions) p.main)
  -- the program passed the front end's checks
  pub checked : IsProgram p
  -- an index that is found in an array fits 32 bits
  pub small : All (λ o. o.cells < 4294967296) p.objects
