-- What the value of an expression over symbolic cells is to be: bits, and a bit that is true where there is a value.
--
-- Nothing ends a run here: overflow wraps, and where the value is undefined or a cell that is read isn't live, there is none.
use Rattle.std.specs.Prelude.{ℕ, ◌+◌, ◌*◌, ◌<◌, zero, suc, ◌^◌, length, get_or, map, Bool, false, not, cond, ℤ, pos, List, Option, Some, None, IfSome, IsTrue, is_some}
use Rattle.c_core.specs.Tree.{Program, Exp}
use Rattle.c_core.specs.Types.{width_of, promote_of, is_zero, number_of}
use Rattle.c_core.specs.Operators.{type_for, right_type_for}
use Rattle.c_core.specs.Parts.{type_of as type_if}
use Rattle.c_core.specs.Typing.{is_typed, has_value}
use Rattle.c_core.specs.declared.number.BinOp.{BinOp}
use Rattle.c_core.specs.declared.number.DataModel.{DataModel}
use Rattle.c_core.specs.declared.number.IntType.{IntType}
use Rattle.c_core.specs.declared.number.IntType.TheVariants.{Bool as BoolType}
use Rattle.c_core.specs.declared.number.UnOp.{UnOp}
use Rattle.c_meaning.specs.Objects.{type_of_object, size_of_object}
use Rattle.c_meaning.specs.Value.{and_then, value_of, seen_at, holds}
use Rattle.circuits.specs.declared.net.Bit.{Bit}
use Rattle.circuits.specs.declared.net.NetNode.{NetNode}
use Rattle.circuits.specs.Net.{Means}
use Rattle.circuits.specs.Net as net_of
use Rattle.circuits.specs.Outcome.{conversion_cost, binary_cost, one_cost}
use Rattle.sym_state.specs.declared.state.Sym.{Sym}
use Rattle.sym_state.specs.Places.{key}
use Rattle.sym_state.specs.Standing.{stand, IsState, Turned}
use Rattle.sym_state.specs.Following.{AreOf, IsNumber}
use Rattle.sym_values.specs.Valuing.{Decided}
use Rattle.sym_elements.specs.Placing.{index_cost, row_cost}
use Rattle.sym_weight.specs.Sum.{expression}
use Rattle.sym_weight.specs.Table.{tested}
use Rattle.sym_weight.specs.Weight.{weighing}

-- of each input, the value if there is one
abbrev pub Perhaps : Type 0
Perhaps = (ℕ → Bool) → Option ℤ

-- the bits are the value, in a type, wherever there is one, and a bit says where
pub record IsSeen (m : DataModel) (ty : Option IntType) (net : List NetNode) (bits : List Bit) (there : Bit) (value : Perhaps) : Type 0 where
  pub bits_in : AreOf m ty net bits
  pub defined : Means net there (λ v. is_some (value v))
  pub is : (v : ℕ → Bool) → IfSome (value v) (IsNumber m ty net bits v)

-- nothing changes but the net
pub record Sees (p : Program) (ands : ℕ) (old new : Sym) (ty : Option IntType) (bits : List Bit) (there : Bit) (value : Perhaps) : Type 0 where
  pub turned : Turned p ands 0 old new (λ v s. s)
  pub seen : IsSeen p.model ty new.net bits there value

-- ---- operators of values that there may be

abbrev pub then_value : Perhaps → (ℤ → Option ℤ) → Perhaps
then_value f k v = and_then (f v) k

abbrev pub then_both : Perhaps → Perhaps → (ℤ → ℤ → Option ℤ) → Perhaps
then_both f g k v = and_then (f v) (λ x. and_then (g v) (k x))

-- where there is a value, it is other than zero or not
abbrev pub truth_in : Option ℤ → Option ℤ
truth_in f = and_then f (λ x. Some (number_of (not (is_zero x))))

-- `&&` and `||`: the right side counts only where the left one doesn't decide
abbrev pub logic_in : Bool → Option ℤ → Option ℤ → Option ℤ
logic_in both f g = and_then f (λ x. cond both (cond (is_zero x) (Some (pos 0)) (truth_in g)) (cond (is_zero x) (truth_in g) (Some (pos 1))))

-- `?:`: the side that isn't chosen doesn't count
abbrev pub choice_in : Option ℤ → Option ℤ → Option ℤ → Option ℤ
choice_in e f g = and_then e (λ x. cond (is_zero x) g f)

-- of a side of `?:`, the type of its bits before it is converted; a side of a void one is of no type
abbrev pub side_type : Option IntType → IntType → Option IntType
side_type None from = None
side_type (Some to) from = Some from

-- what the last of the first n cells holds whose place is true; none where no place is
abbrev pub seen_last : (ℕ → Bool) → (ℕ → Option ℤ) → ℕ → Option ℤ
seen_last place held zero = None
seen_last place held (suc i) = cond (place i) (held i) (seen_last place held i)

-- and-nodes of operators with their conversions, and of the bits that say where there is a value
abbrev pub one_weight : DataModel → UnOp → IntType → ℕ
one_weight m op a = 1 + (conversion_cost m a (promote_of a) + one_cost m op (promote_of a))

abbrev pub both_weight : DataModel → BinOp → IntType → IntType → ℕ
both_weight m op a b = 2 + (conversion_cost m a (type_for m op a b) + (conversion_cost m b (right_type_for op (type_for m op a b) b) + binary_cost m op (type_for m op a b)))

abbrev pub logic_weight : DataModel → IntType → IntType → ℕ
logic_weight m a b = 3 + (conversion_cost m a BoolType + conversion_cost m b BoolType)

module _ (p : Program) where
  -- ---- elements of arrays

  -- of the first n cells of an object what that one holds whose place is true
  abbrev pub held_in : ℕ → Sym → List Bit → ℕ → Perhaps
  held_in o s places n v = seen_last (λ i. get_or (map (net_of.holds v s.net) places) i false) (λ i. seen_at p (key o i) (stand p v s).cells) n

  -- what a cell of an object holds, if it is live
  abbrev pub seen_cell : ℕ → (ℕ → Bool) → Sym → ℕ → Option ℤ
  seen_cell o v s k = seen_at p (key o k) (stand p v s).cells

  -- and-nodes of an element after its places: the tree of choices, and 3 for each cell that say whether it is live
  abbrev pub cell_cost : ℕ → ℕ
  cell_cost o = size_of_object p o * (4 * width_of p.model (type_of_object p o) + 3)

  -- of an element at an index of a type
  abbrev pub element_cost : IntType → ℕ → ℕ
  element_cost from o = index_cost (size_of_object p o) (width_of p.model from) + cell_cost o

  -- of an element at a row and a column of two types
  abbrev pub row_element_cost : IntType → IntType → ℕ → ℕ
  row_element_cost row column o = 1 + (row_cost (size_of_object p o) (width_of p.model row) (width_of p.model column) + cell_cost o)

  -- ---- expressions

  -- it calls nothing
  abbrev pub weight_of : Exp → ℕ
  weight_of e = expression p (weighing (λ f. 0)) e

  -- the value in the cells of the run under each input
  abbrev pub value_in : Sym → Exp → Perhaps
  value_in s e v = value_of p e (stand p v s).cells

  -- an expression's value can be made from a state
  pub record Ready (s : Sym) (e : Exp) : Type 0 where
    pub fits : IsState p s
    pub types : IsTrue (is_typed p e)
    pub room : length s.net + weight_of e < 2 ^ 27

  -- the value of an expression, in its type
  abbrev pub SeesExpression : Exp → Sym → Sym → List Bit → Bit → Type 0
  SeesExpression e old new bits there = Sees p (weight_of e) old new (type_if e) bits there (value_in old e)

  -- an invariant can be tested
  pub record ReadyToTest (s : Sym) (e : Exp) : Type 0 where
    pub fits : IsState p s
    pub types : IsTrue (is_typed p e)
    pub value : IsTrue (has_value e)
    pub room : length s.net + (1 + (weight_of e + tested p.model e)) < 2 ^ 27

  -- a bit that is true where the expression holds, with a node more than its evaluation weighs
  abbrev pub Holds : Exp → Sym → Sym → Bit → Type 0
  Holds e old new bit = Decided p (1 + (weight_of e + tested p.model e)) old new bit (λ v. holds p e (stand p v old).cells)
