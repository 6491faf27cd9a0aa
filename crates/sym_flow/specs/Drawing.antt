-- Cells of objects that draw their values in turn: those of a declared object, and those of an object that a loop changes.
use Rattle.std.specs.Prelude.{ℕ, zero, suc, ◌+◌, ◌*◌, List, [], ◌∷◌}
use Rattle.c_core.specs.Tree.{Program}
use Rattle.c_core.specs.Types.{width_of}
use Rattle.c_core.specs.declared.number.Spot.{Spot}
use Rattle.c_meaning.specs.declared.run.DrawKind.{DrawKind}
use Rattle.c_meaning.specs.Acts.{Res, Go, bind, write}
use Rattle.c_meaning.specs.Objects.{type_of_object, size_of_object}
use Rattle.c_meaning.specs.Havoc.{Stopped}
use Rattle.sym_meaning.specs.Mode.{JudgedState, cells_judged, with_cells_judged}
use Rattle.sym_meaning.specs.Judged.{draw}
use Rattle.sym_state.specs.Places.{key}

module _ (p : Program) where
  -- a cell draws its value
  abbrev pub cell_drawn : DrawKind → Spot → ℕ → ℕ → JudgedState → Res Stopped JudgedState (Unit {0})
  cell_drawn from spot o i s = bind (draw p from spot (type_of_object p o) s) (λ z. write Stopped JudgedState cells_judged with_cells_judged (key o i) z)

  -- this many cells of an object, from an index on
  abbrev pub cells_drawn : DrawKind → Spot → ℕ → ℕ → ℕ → JudgedState → Res Stopped JudgedState (Unit {0})
  cells_drawn from spot o i zero s = Go tt s
  cells_drawn from spot o i (suc n) s = bind (cell_drawn from spot o i s) (λ u. cells_drawn from spot o (suc i) n)

  -- the bits of this many cells of an object
  abbrev pub bits_of_cells : ℕ → ℕ → ℕ
  bits_of_cells o n = n * width_of p.model (type_of_object p o)

  -- the bits of objects
  abbrev pub bits_of_objects : List ℕ → ℕ
  bits_of_objects [] = 0
  bits_of_objects (o ∷ os) = bits_of_cells o (size_of_object p o) + bits_of_objects os
