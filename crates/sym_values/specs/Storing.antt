-- Stores, draws and ends, as the definition of judged runs has them.
use Rattle.std.specs.Prelude.{ℕ, ◌+◌, ◌*◌, ℤ, List}
use Rattle.c_core.specs.Tree.{Program}
use Rattle.c_core.specs.Types.{width_of}
use Rattle.c_core.specs.declared.number.DataModel.{DataModel}
use Rattle.c_core.specs.declared.number.IntType.{IntType}
use Rattle.c_core.specs.declared.number.Spot.{Spot}
use Rattle.c_meaning.specs.declared.run.DrawKind.TheVariants.{Input}
use Rattle.c_meaning.specs.Cells.{Key}
use Rattle.c_meaning.specs.Havoc.{Passes}
use Rattle.sym_meaning.specs.Mode.{Mode}
use Rattle.sym_meaning.specs.Judged.{judged, draw, reached, stop}
use Rattle.c_meaning.specs.Eval.{store}
use Rattle.c_meaning.specs.Meaning.{Site}
use Rattle.circuits.specs.declared.net.Bit.{Bit}
use Rattle.circuits.specs.Numbers.{typed}
use Rattle.circuits.specs.Outcome.{conversion_cost}
use Rattle.sym_state.specs.declared.state.Sym.{Sym}
use Rattle.sym_state.specs.declared.state.Around.{Around}
use Rattle.sym_state.specs.Following.{Deed, Follows}
use Rattle.sym_values.specs.Valuing.{where_of}

-- and-nodes of a store into a scalar object
abbrev pub stored_cost : DataModel → IntType → IntType → ℕ
stored_cost m from to = conversion_cost m from to + 4 * width_of m to

module _ (p : Program) (W : Mode) where
  abbrev pub stored_in : Key → IntType → IntType → List Bit → Sym → Deed ℤ
  stored_in k from to y old v s = store p (judged p W) k from to (typed p.model from v old.net y) s

  abbrev pub input_of : Spot → IntType → Deed ℤ
  input_of spot ty v s = draw p Input spot ty s

  abbrev pub reach_of : Around → Site → Deed ℤ
  reach_of at site v s = reached p W p.property (where_of at) site s

  abbrev pub end_of : Deed ℤ
  end_of v s = stop Passes s

  -- a part that gives no value
  abbrev pub Ends : ℕ → Sym → Sym → Deed ℤ → Type 0
  Ends ands old new deed = Follows W.duties p ands 0 old new (λ v z. Unit {0}) deed
