-- The invariant of a checked program.
use Rattle.std.specs.Prelude.{ℕ, zero, suc, nat_eq, nat_le, ◌%◌, Bool, true, false, not, ◌&&◌, List, [], ◌∷◌, length, Option, Some, None, slice_get, map, IsTrue}
use Rattle.std.specs.List.{list_all, range_with_len, sum_by}
use Rattle.c_core.specs.Types.{in_range}
use Rattle.c_core.specs.Parts.{is_empty, same_spot, names_of_program}
use Rattle.c_core.specs.Tree.{Function, Program}
use Rattle.c_core.specs.Typing.{is_array, function_fits}
use Rattle.c_core.specs.Scope.{is_in, owned_by, is_owned_once, is_object, function_reaches, function_nests, function_jumps}
use Rattle.c_core.specs.TextOrder.{rises, spots_of_functions, spots_of_objects}
use Rattle.c_core.specs.declared.number.DataModel.{DataModel}
use Rattle.c_core.specs.declared.number.Spot.{Spot}
use Rattle.c_core.specs.declared.tree.Object.{Object}
use Rattle.c_core.specs.declared.tree.Start.{Start}

-- at most two dimensions, and one column unless there are two
abbrev pub shape_fits : ℕ → ℕ → ℕ → Bool
shape_fits zero cells columns = nat_eq cells 1 && nat_eq columns 1
shape_fits (suc zero) cells columns = nat_le 1 cells && nat_eq columns 1
shape_fits (suc (suc zero)) cells columns = nat_le 1 cells && (nat_le 1 columns && nat_eq (cells % columns) 0)
shape_fits (suc (suc (suc n))) cells columns = false

-- a scalar has one cell, an array at least one, and whole rows
abbrev pub object_fits : Object → Bool
object_fits o = shape_fits o.dims o.cells o.columns

-- each object has the cells that its kind wants
abbrev pub objects_fit : Program → Bool
objects_fit p = list_all object_fits p.objects

-- the most cells that all objects have together
abbrev pub most_declared_cells : ℕ
most_declared_cells = 100000

-- at most this many cells are declared (a limit of the profile)
abbrev pub cells_fit : Program → Bool
cells_fit p = nat_le (sum_by (λ o. o.cells) p.objects) most_declared_cells

-- objects are numbered in the order of their declarations
abbrev pub objects_rise : Program → Bool
objects_rise p = rises (spots_of_objects p.objects)

-- the object there is declared at this place
abbrev pub stands_at : Spot → Option Object → Bool
stands_at spot None = false
stands_at spot (Some o) = same_spot o.spot spot

-- a declared name stands where its object does
abbrev pub names_in_place : Program → Bool
names_in_place p = list_all (λ name. stands_at name.spot (slice_get p.objects name.object)) (names_of_program p)

-- of static storage, with a value for each cell, each of the object's type (C11 6.7.9p4, p10)
abbrev pub start_fits : DataModel → Start → Option Object → Bool
start_fits m s None = false
start_fits m s (Some o) = o.fixed && (nat_eq (length s.values) o.cells && list_all (in_range m o.ty) s.values)

-- each value of a static initializer is one of its object's cells and type (C11 6.7.9)
abbrev pub starts_fit : Program → Bool
starts_fit p = list_all (λ s. start_fits p.model s (slice_get p.objects s.object)) p.starts

-- the objects that have a value at the start
abbrev pub started_objects : List Start → List ℕ
started_objects ss = map (λ s. s.object) ss

-- no number comes twice
abbrev pub are_distinct : List ℕ → Bool
are_distinct [] = true
are_distinct (o ∷ os) = not (is_in o os) && are_distinct os

-- no object of static storage has two initial values
abbrev pub starts_differ : Program → Bool
starts_differ p = are_distinct (started_objects p.starts)

-- C11 5.1.2.2.1
abbrev pub is_main : Option Function → Bool
is_main None = false
is_main (Some f) = is_empty f.params

-- `main` is among the functions, and takes nothing
abbrev pub has_main : Program → Bool
has_main p = is_main (slice_get p.functions p.main)

-- a parameter is a scalar
abbrev pub is_param : Option Object → Bool
is_param None = false
is_param (Some o) = not (is_array o)

-- the parameters of each function are scalars (C11 6.9.1)
abbrev pub params_fit : Program → Bool
params_fit p = list_all (λ f. list_all (λ o. is_param (slice_get p.objects o)) f.params) p.functions

-- parts are well typed, numbers in range, targets can be assigned
abbrev pub types_fit : Program → Bool
types_fit p = list_all (function_fits p) p.functions

-- parameters and declared names are objects
abbrev pub names_known : Program → Bool
names_known p = list_all (is_object p) (owned_by p.functions)

-- each object belongs to one place: static storage, a parameter list or a declaration
abbrev pub owned_once : Program → Bool
owned_once p = list_all (is_owned_once p) (range_with_len 0 (length p.objects))

-- each function names only objects that are in scope where it names them (C11 6.2.1)
abbrev pub names_in_reach : Program → Bool
names_in_reach p = list_all (function_reaches p) p.functions

-- declarations stand in blocks alone, and bodies are blocks
abbrev pub blocks_fit : Program → Bool
blocks_fit p = list_all function_nests p.functions

-- `continue` stands in loops alone, `break` in loops and switches (C11 6.8.6)
abbrev pub jumps_fit : Program → Bool
jumps_fit p = list_all function_jumps p.functions

-- the places of parts follow the order of the text
abbrev pub places_rise : Program → Bool
places_rise p = rises (spots_of_functions p.functions)

-- what the checker promises of a program, and what each law on runs asks
pub record IsProgram (p : Program) : Type 0 where
  pub objects : IsTrue (objects_fit p)
  pub cells : IsTrue (cells_fit p)
  pub numbered : IsTrue (objects_rise p)
  pub named : IsTrue (names_in_place p)
  pub starts : IsTrue (starts_fit p)
  pub started_once : IsTrue (starts_differ p)
  pub main : IsTrue (has_main p)
  pub params : IsTrue (params_fit p)
  pub types : IsTrue (types_fit p)
  pub known : IsTrue (names_known p)
  pub owned : IsTrue (owned_once p)
  pub reach : IsTrue (names_in_reach p)
  pub blocks : IsTrue (blocks_fit p)
  pub jumps : IsTrue (jumps_fit p)
  pub in_order : IsTrue (places_rise p)
