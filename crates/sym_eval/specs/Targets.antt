-- Targets of assignments and steps that were found: the cell that is meant under each input.
use Rattle.std.specs.Prelude.{◌≡◌, ℕ, List}
use Rattle.c_core.specs.Tree.{Program, Exp, Expr, Node, Var, Index, Exps, NoExp, MoreExp}
use Rattle.c_core.specs.declared.number.IntType.{IntType}
use Rattle.c_meaning.specs.Objects.{type_of, type_of_object}
use Rattle.sym_meaning.specs.Mode.{Mode}
use Rattle.circuits.specs.declared.net.NetNode.{NetNode}
use Rattle.sym_state.specs.declared.state.Sym.{Sym}
use Rattle.sym_state.specs.declared.state.Around.{Around}
use Rattle.sym_state.specs.Places.{key}
use Rattle.sym_values.specs.Storing.{stored_cost as stored_in_scalar}
use Rattle.sym_elements.specs.Elements.{key_at, ArePlaces, found_cost, found_row_cost, read_cost, stored_cost}
use Rattle.sym_exprs.specs.Targeting.{Keys, Targets}
use Rattle.sym_eval.specs.declared.targets.Target.{Target}
use Rattle.sym_eval.specs.declared.targets.Target.TheVariants.{Scalar, Element}

-- the object of which it is a cell
abbrev pub object_of : Target → ℕ
object_of (Scalar o) = o
object_of (Element o places) = o

-- the cell under each input
abbrev pub keys_of : Target → List NetNode → Keys
keys_of (Scalar o) net v = key o 0
keys_of (Element o places) net v = key_at o v net places.bits

-- an expression means it
abbrev pub IsMeant : Node → Target → Type 0
IsMeant node (Scalar o) = node ≡ Var o
IsMeant node (Element o places) = (is : Exps) × (node ≡ Index o is)

abbrev pub node_of : Exp → Node
node_of (Expr spot ty node) = node

module _ (p : Program) where
  -- its places are the state's
  abbrev pub IsTarget : Sym → Target → Type 0
  IsTarget s (Scalar o) = Unit {0}
  IsTarget s (Element o places) = ArePlaces p s o places

  -- and-nodes of the places of an element, by its indexes
  abbrev pub finding_by : ℕ → Exps → ℕ
  finding_by o (MoreExp i NoExp) = found_cost p (type_of i) o
  finding_by o (MoreExp i (MoreExp j NoExp)) = found_row_cost p (type_of i) (type_of j) o
  finding_by o _ = 0

  abbrev pub finding_in : Node → ℕ
  finding_in (Index o is) = finding_by o is
  finding_in _ = 0

  -- and-nodes of a target, besides its weight
  abbrev pub finding : Exp → ℕ
  finding (Expr spot ty node) = finding_in node

  -- of what it holds
  abbrev pub reading : Target → ℕ
  reading (Scalar o) = 0
  reading (Element o places) = read_cost p o

  -- of a value of a type that is stored in it
  abbrev pub storing : IntType → Target → ℕ
  storing from (Scalar o) = stored_in_scalar p.model from (type_of_object p o)
  storing from (Element o places) = stored_cost p from o

  -- an expression was evaluated to the cell that it means
  pub record Found (W : Mode) (n : ℕ) (at : Around) (a : Exp) (old new : Sym) (t : Target) : Type 0 where
    pub meant : IsMeant (node_of a) t
    pub is : IsTarget new t
    pub targets : Targets p W n at (finding a) a (keys_of t new.net) old new
