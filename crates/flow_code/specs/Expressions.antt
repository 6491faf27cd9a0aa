-- The code of an expression: operations that begin at an address, the first of which takes some steps besides its own.
use Rattle.std.specs.Prelude.{ℕ, suc, ◌+◌, pos, Bool, true, false, not, ◌&&◌, is_some, negsuc, List, [], ◌∷◌, ◌++◌, length, Option, Some, None, slice_get, ◌/◌}
use Rattle.c_core.specs.Types.{number_of, promote_of}
use Rattle.c_core.specs.Operators.{type_for, right_type_for, op_of_step, is_prefix}
use Rattle.c_core.specs.Tree.{Exp, Expr, Node, Const, Var, Index, Unary, Cast, Step, Binary, Logic, Choose, Comma, Assign, Call, Exps, NoExp, MoreExp, Program, Function}
use Rattle.c_core.specs.declared.number.BinOp.{BinOp}
use Rattle.c_core.specs.declared.number.DataModel.{DataModel}
use Rattle.c_core.specs.declared.number.IntType.{IntType}
use Rattle.c_core.specs.declared.number.IntType.TheVariants.{Int}
use Rattle.c_core.specs.declared.number.Spot.{Spot}
use Rattle.c_core.specs.declared.tree.Callee.{Callee}
use Rattle.c_core.specs.declared.tree.Callee.TheVariants.{Defined, Input as InputOf, ReachError, Abort, Exit}
use Rattle.c_meaning.specs.Meaning.{Use, Used, Unused}
use Rattle.c_meaning.specs.Eval.{is_used}
use Rattle.c_meaning.specs.Objects.{type_of, size_of_object, columns_of_object}
use Rattle.run_state.specs.declared.machine.Around.{Around}
use Rattle.run_state.specs.declared.machine.CallSite.{CallSite}
use Rattle.flow_code.specs.declared.code.Operand.{Operand}
use Rattle.flow_code.specs.declared.code.Operand.TheVariants.{Top, Cell, Number}
use Rattle.flow_code.specs.declared.code.Place.{Place}
use Rattle.flow_code.specs.declared.code.Place.TheVariants.{Fixed, Element}
use Rattle.flow_code.specs.declared.code.Then.{Then}
use Rattle.flow_code.specs.declared.code.Then.TheVariants.{Push, Drop, Skip, Branch}
use Rattle.flow_code.specs.declared.code.Into.{Into}
use Rattle.flow_code.specs.declared.code.Source.{Source}
use Rattle.flow_code.specs.declared.code.Action.{Action}
use Rattle.flow_code.specs.declared.code.Action.TheVariants.{Give, Truth, Convert, Look, Aim, Row, Operate, OperateOne, Jump, Enter, Call as CallOf, Input, Reach, End}
use Rattle.flow_code.specs.declared.code.Op.{Op}
use Rattle.flow_code.specs.Choosing.{by_some}
use Rattle.flow_code.specs.Preparing.{followed, op, only, stored_in, give, Ready, ReadyPair, prepared, taken, taken_both, with_operand, paired_at}
use Rattle.flow_code.specs.Words.{word_of, native}
use Rattle.flow_code.specs.Sizes.{operand_in, operand_of, with_one, is_binary, size}

-- the cell of a target; the index of an element is on the stack
abbrev pub place_of : Node → Place
place_of (Index o is) = Element o
place_of (Var o) = Fixed o 0
-- no target of a checked program
place_of _ = Fixed 0 0

-- the steps that arguments leave to the operation behind them
abbrev pub left_by : Exps → ℕ → ℕ
left_by NoExp k = k
left_by (MoreExp e es) k = 0

-- the number of arguments
abbrev pub count_of : Exps → ℕ
count_of NoExp = 0
count_of (MoreExp e es) = suc (count_of es)

-- where the value of an argument goes: an input function takes none
abbrev pub argument_to : Callee → Then
argument_to (InputOf ty) = Drop
argument_to _ = Push

-- a place in the program
abbrev pub source : Around → Spot → Source
source at spot = record { around = at; spot = spot }

-- where both are to hold the value that is known without the second is 0, else it is 1
abbrev pub constant : Bool → Operand
constant both = Number (number_of (not both))

-- converted to a conditional's type, if it has one
abbrev pub as_type : DataModel → Option IntType → Into → Op
as_type m None x = op 0 (Give Top x)
as_type m (Some ty) x = op 0 (Convert (native m ty) Top x)

-- the call of a function of the program: a step for each parameter
abbrev pub call_of : ℕ → ℕ → CallSite → Option Function → Op
-- no checked program calls it
call_of f n site None = op 0 End
call_of f n site (Some g) = op (length g.params) (CallOf f n site)

-- a value stored in a target, as its type has it
abbrev pub stored_at : DataModel → Exp → Bool → Then → Into
stored_at m (Expr spot ty n) old then = stored_in (place_of n) (native m (type_of (Expr spot ty n))) old then

-- a call, its place, and whether its value is asked for
abbrev pub site_at : Spot → Spot → Use → Option IntType → CallSite
site_at spot close want ty = record { spot = spot; close = close; needed = is_used want && is_some ty }

module _ (p : Program) where
  -- the number of rows of an object
  abbrev pub rows_of_object : ℕ → ℕ
  rows_of_object o = size_of_object p o / columns_of_object p o

  -- the cell of an element that has two indexes, which are ready, for the element at a place
  abbrev pub in_row : ℕ → Spot → ReadyPair → Ready
  in_row o spot q = record { ops = taken_both q (λ y z. Row (rows_of_object o) (columns_of_object p o) y z spot); operand = Top; steps = 0 }

  -- an operator over operands that are ready
  abbrev pub operator : Source → BinOp → IntType → IntType → Into → Operand → Operand → Action
  operator at o a b x left right = Operate o (word_of p.model (type_for p.model o a b)) (word_of p.model (right_type_for o (type_for p.model o a b) b)) left right at x

  -- the same behind what makes them ready
  abbrev pub operated : Source → BinOp → IntType → IntType → Into → ReadyPair → List Op
  operated at o a b x q = taken_both q (operator at o a b x)

  -- what a call does behind its arguments
  abbrev pub callee_code : Around → CallSite → ℕ → Then → Callee → List Op
  callee_code at site n then (Defined f) = call_of f n site (slice_get p.functions f) ∷ give 0 Top then ∷ []
  callee_code at site n then (InputOf ty) = op 0 (Input site.spot site.close ty (only then)) ∷ []
  callee_code at site n then ReachError = op 0 (Reach at site.spot) ∷ []
  callee_code at site n then Abort = op 0 End ∷ []
  callee_code at site n then Exit = op 0 End ∷ []

  -- a value that is stored: a binary operation stores by itself
  abbrev pub stored_by : Bool → Option Operand → ℕ → Into → List Op → List Op → List Op
  stored_by true y k x value storing = storing
  stored_by false y k x value storing = with_operand y k value (λ z. Give z x)

  module _ (at : Around) where
    abbrev mutual
      -- from an address on, with so many steps more
      pub code : ℕ → ℕ → Use → Exp → Then → List Op
      code i k want (Expr spot ty n) then = node_code i (k + 1) want spot ty n (only then)

      -- by its form, where its value goes to a place that is said
      pub node_code : ℕ → ℕ → Use → Spot → Option IntType → Node → Into → List Op
      node_code i k want spot ty (Const v) x = op k (Give (Number v) x) ∷ []
      node_code i k want spot ty (Var o) x = op k (Give (Cell o) x) ∷ []
      node_code i k want spot ty (Index o is) x = taken (element_code i k spot o is) (λ y. Look o (size_of_object p o) y spot x)
      node_code i k want spot ty (Unary o a) x = with_operand (operand_of a) k (code i k Used a Push) (λ y. OperateOne o (word_of p.model (promote_of (type_of a))) y (source at spot) x)
      node_code i k want spot ty (Cast a) x =
          by_some ty (code i k Unused a x.then) (λ to. with_operand (operand_of a) k (code i k Used a Push) (λ y. Convert (native p.model to) y x))
      node_code i k want spot ty (Step o t) x =
          let j = aim_code i k t true in
          operated (source at spot) (op_of_step o) (type_of t) Int (stored_at p.model t (not (is_prefix o)) x.then) (record { ops = j.ops; left = j.operand; right = Number (pos 1); steps = j.steps })
      node_code i k want spot ty (Binary o a b) x =
          operated (source at spot) o (type_of a) (type_of b) x (paired_at i (prepared (operand_of a) k (code i k Used a Push)) (operand_of b) (λ j l. code j l Used b Push))
      node_code i k want spot ty (Logic both a b) x =
          let decided = i + (size a + (with_one (operand_of b) (size b) + 1)) in
          followed i (code i k Used a (Skip (not both) decided)) (λ j. with_operand (operand_of b) 0 (code j 0 Used b Push) (λ y. Truth y x))
          ++ op 0 (Jump (decided + 1)) ∷ op 0 (Give (constant both) x) ∷ []
      node_code i k want spot ty (Choose mark e a b) x =
          let second = i + (size e + size a + 2) in
          followed i (followed i (followed i (code i k Used e (Branch mark false second)) (λ j. code j 0 Used a Push ++ as_type p.model ty x ∷ [])) (λ j. op 0 (Jump (second + (size b + 1))) ∷ []))
          (λ j. code j 0 Used b Push ++ as_type p.model ty x ∷ [])
      node_code i k want spot ty (Comma a b) x = followed i (code i k Unused a Drop) (λ j. code j 0 Used b x.then)
      node_code i k want spot ty (Assign op t e) x =
          let j = aim_code i k t false in
          by_some op (followed i j.ops (λ l. stored_code l j.steps e (stored_at p.model t false x.then)))
          (λ o. operated (source at spot) o (type_of t) (type_of e) (stored_at p.model t false x.then) (paired_at i (aim_code i k t true) (operand_of e) (λ j l. code j l Used e Push)))
      node_code i k want spot ty (Call callee es close) x =
          args_code i k (argument_to callee) es ++ op (left_by es k) (Enter close) ∷ callee_code at (site_at spot close want ty) (count_of es) x.then callee

      -- a value that is stored, and then goes on
      pub stored_code : ℕ → ℕ → Exp → Into → List Op
      stored_code i k (Expr s u n) x = stored_by (is_binary n) (operand_in n) k x (node_code i (k + 1) Used s u n (only Push)) (node_code i (k + 1) Used s u n x)

      -- a target: what finds its element, then the value that it has, where it is read
      pub aim_code : ℕ → ℕ → Exp → Bool → Ready
      aim_code i k (Expr spot ty n) reads = place_code i (k + 1) spot n reads

      -- a target by its form
      pub place_code : ℕ → ℕ → Spot → Node → Bool → Ready
      place_code i k spot (Index o is) reads = record { ops = taken (element_code i k spot o is) (λ y. Aim o (size_of_object p o) y spot reads); operand = Top; steps = 0 }
      place_code i k spot (Var o) reads = record { ops = []; operand = Cell o; steps = k }
      -- no target of a checked program
      place_code i k spot _ reads = record { ops = []; operand = Cell 0; steps = k }

      -- the cell of an element among those of its object, from its indexes
      pub element_code : ℕ → ℕ → Spot → ℕ → Exps → Ready
      element_code i k spot o (MoreExp a NoExp) = prepared (operand_of a) k (code i k Used a Push)
      element_code i k spot o (MoreExp a (MoreExp b NoExp)) =
          in_row o spot (paired_at i (prepared (operand_of a) k (code i k Used a Push)) (operand_of b) (λ j l. code j l Used b Push))
      -- no element of a checked program: all are evaluated, and no cell is found
      element_code i k spot o NoExp = record { ops = []; operand = Number (negsuc 0); steps = k }
      element_code i k spot o (MoreExp a (MoreExp b (MoreExp c es))) = record {
        ops = followed i (code i k Used a Drop) (λ j. followed j (code j 0 Used b Drop) (λ l. followed l (code l 0 Used c Drop) (λ m. args_code m 0 Drop es)));
        operand = Number (negsuc 0);
        steps = 0;
      }

      -- arguments from left to right
      pub args_code : ℕ → ℕ → Then → Exps → List Op
      args_code i k then NoExp = []
      args_code i k then (MoreExp e es) = followed i (code i k Used e then) (λ j. args_code j 0 then es)

    -- both operands of an operator
    abbrev pub both_ready : ℕ → ℕ → Exp → Exp → ReadyPair
    both_ready i k a b = paired_at i (prepared (operand_of a) k (code i k Used a Push)) (operand_of b) (λ j l. code j l Used b Push)

    -- an arm of a conditional, as its type has it
    abbrev pub conditional_arm : ℕ → Option IntType → Exp → Into → List Op
    conditional_arm i ty e x = code i 0 Used e Push ++ as_type p.model ty x ∷ []
