-- The values that a violation witness gives to the input calls of a program, and the run that draws them.
use Rattle.std.specs.Prelude.{ℕ, ℤ, Bool, true, false, cond, not, nat_eq, ◌&&◌, List, [], ◌∷◌, ◌++◌, Option, Some, None, map}
use Rattle.std.specs.List.{filter_map}
use Rattle.c_core.specs.Types.{fit}
use Rattle.c_core.specs.Tree.{Exp, Expr, Node, Var, Index, Binary, Logic, Assign, Init, Absent, One, Many, Rows, Names, NoName, MoreName, Stm, Stmt, Form, Do, Declare, Program}
use Rattle.c_core.specs.Parts.{exps_of_program, same_spot}
use Rattle.c_core.specs.Places.{InputCall, input_of, input_at, stmt_before, first_some}
use Rattle.c_core.specs.declared.number.Spot.{Spot}
use Rattle.c_core.specs.declared.number.BinOp.{BinOp}
use Rattle.c_core.specs.declared.number.BinOp.TheVariants.{Eq}
use Rattle.c_meaning.specs.declared.run.Choices.{Choices}
use Rattle.c_meaning.specs.declared.run.Choices.TheVariants.{Given}
use Rattle.c_meaning.specs.declared.run.Run.{Run as GivenRun}
use Rattle.c_meaning.specs.Parts.{some_node}
use Rattle.c_meaning.specs.Run.{Run}
use Rattle.c_meaning.specs.Value.{and_then}
use Rattle.way_match.specs.Points.{ReturnTest, Point, Assume, Return, BoundSegment}
use Rattle.way_match.specs.Passing.{constant_of}
use Rattle.way_match.specs.Matching.{Seen, SeenIn}

-- a value for the input call at a place
pub record GivenValue : Type 0 where
  pub spot : Spot
  pub value : ℤ

-- fitted to the type of the call
abbrev pub given_value : Program → InputCall → ℤ → GivenValue
given_value p call v = record { spot = call.spot; value = fit p.model call.ty v }

-- `== E` gives the value of E, and nothing where that is undefined
abbrev pub given_by_constant : Program → InputCall → Exp → Option GivenValue
given_by_constant p call e = and_then (constant_of p e) (λ v. Some (given_value p call v))

-- of all comparisons `==` alone fixes a value
abbrev pub is_equality : BinOp → Bool
is_equality Eq = true
is_equality _ = false

-- `\result == E` where an input call comes back
abbrev pub given_by_return : Program → Option InputCall → Option ReturnTest → Option GivenValue
given_by_return p None test = None
given_by_return p (Some call) None = None
given_by_return p (Some call) (Some t) = cond (is_equality t.op) (given_by_constant p call t.constant) None

-- an object that a statement stores the value of an input call in, and the call
pub record StoredInput : Type 0 where
  pub object : ℕ
  pub call : InputCall

-- the call where there is one, with the object that takes its value
abbrev pub stored_input : ℕ → Option InputCall → Option StoredInput
stored_input o None = None
stored_input o (Some call) = Some (record { object = o; call = call })

-- the target is an object by its name, no element of an array
abbrev pub stored_by_target : Exp → Exp → Option StoredInput
stored_by_target (Expr spot ty (Var o)) e = stored_input o (input_of e)
stored_by_target (Expr spot ty _) e = None

-- `x = input()`
abbrev pub stored_by_node : Node → Option StoredInput
stored_by_node (Assign None a b) = stored_by_target a b
stored_by_node _ = None

-- an expression that is such an assignment as a whole
abbrev pub stored_by_exp : Exp → Option StoredInput
stored_by_exp (Expr spot ty n) = stored_by_node n

-- an initializer that is an input call; a list of values or of rows is none
abbrev pub stored_by_init : ℕ → Init → Option StoredInput
stored_by_init o Absent = None
stored_by_init o (One e) = stored_input o (input_of e)
stored_by_init o (Many es) = None
stored_by_init o (Rows rows) = None

-- a declaration of one object, `T x = input()`
abbrev pub stored_by_names : Names → Option StoredInput
stored_by_names NoName = None
stored_by_names (MoreName spot o i NoName) = stored_by_init o i
stored_by_names (MoreName spot o i (MoreName spot' o' i' ns)) = None

-- an assignment by itself, or a declaration of one object; a statement under a label stores nothing here
abbrev pub stored_by_form : Form → Option StoredInput
stored_by_form (Do e) = stored_by_exp e
stored_by_form (Declare ns) = stored_by_names ns
stored_by_form _ = None

-- the object and the call of a statement that stores an input, or none
abbrev pub stored_by : Stm → Option StoredInput
stored_by (Stmt at f) = stored_by_form f

-- the operands of a chain of `&&`, from left to right
abbrev mutual
  pub operands : Exp → List Exp
  operands (Expr spot ty n) = operands_of (Expr spot ty n) n

  pub operands_of : Exp → Node → List Exp
  operands_of e (Logic true a b) = operands a ++ operands b
  operands_of e _ = e ∷ []

-- a node that reads an object
abbrev pub node_names : Node → Bool
node_names (Var o) = true
node_names (Index o is) = true
node_names _ = false

-- an expression that reads an object somewhere
abbrev pub has_names : Exp → Bool
has_names e = some_node node_names e

-- an expression that is this object by its name
abbrev pub is_object : ℕ → Exp → Bool
is_object o (Expr spot ty (Var x)) = nat_eq x o
is_object o (Expr spot ty _) = false

-- of `a == b`, the side without names where the other side is the object
abbrev pub constant_beside : ℕ → Exp → Exp → Option Exp
constant_beside o a b = cond (is_object o a && not (has_names b)) (Some b) (cond (is_object o b && not (has_names a)) (Some a) None)

-- E, where an operand is `x == E` or `E == x` and E holds no names
abbrev pub constant_in : ℕ → Node → Option Exp
constant_in o (Binary op a b) = cond (is_equality op) (constant_beside o a b) None
constant_in o _ = None

-- the same of an operand
abbrev pub constant_compared : ℕ → Exp → Option Exp
constant_compared o (Expr spot ty n) = constant_in o n

-- the first operand of that form counts
abbrev pub first_constant : ℕ → List Exp → Option Exp
first_constant o es = first_some (map (constant_compared o) es)

-- an assumption at a statement, of the input call in the statement directly before
abbrev pub given_by_assumption : Program → Option StoredInput → Exp → Option GivenValue
given_by_assumption p None test = None
given_by_assumption p (Some x) test = and_then (first_constant x.object (operands test)) (given_by_constant p x.call)

-- what a follow gives, if anything
abbrev pub given_by_follow : Program → Point → Option GivenValue
given_by_follow p (Return close test) = given_by_return p (input_at p close) test
given_by_follow p (Assume spot test) = given_by_assumption p (and_then (stmt_before p spot) stored_by) test
given_by_follow p _ = None

-- a given value where it is for the call at this place
abbrev pub value_if_at : Spot → Option GivenValue → List ℤ
value_if_at spot None = []
value_if_at spot (Some g) = cond (same_spot g.spot spot) (g.value ∷ []) []

-- the values given to the input call at a place, in witness order
abbrev pub values_at : Program → Spot → List BoundSegment → List ℤ
values_at p spot [] = []
values_at p spot (s ∷ ss) = value_if_at spot (given_by_follow p s.follow) ++ values_at p spot ss

-- the input calls of a program
abbrev pub input_calls : Program → List InputCall
input_calls p = filter_map input_of (exps_of_program p)

-- for each input call of the program the values given to it
abbrev pub given_by : Program → List BoundSegment → Choices
given_by p ss = Given (map (λ call. record { spot = call.spot; values = values_at p call.spot ss }) (input_calls p))

-- the run that draws them
abbrev pub RunGiven : Program → List BoundSegment → ℕ → GivenRun
RunGiven p ss N = Run p (given_by p ss) N

-- the events of that run, each with the memory of its moment
abbrev pub SeenGiven : Program → List BoundSegment → ℕ → List Seen
SeenGiven p ss N = SeenIn p (given_by p ss) N
