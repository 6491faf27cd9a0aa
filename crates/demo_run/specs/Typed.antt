-- The typed programs of a demo: their statements, loop by loop, with the numbers of their objects.
use Rattle.std.specs.Prelude.{ℕ, ◌+◌, pos, false, List, [], ◌∷◌, ◌++◌, length, Some, None, codes}
use Rattle.c_core.specs.Tree.{Exp, Expr, Node, Const, Var, Binary, Assign, Call, NoExp, One, NoName, MoreName, Stm, Stmt, Do, Declare, Block, If, While, Return, NoElse, Stms, NoStm, MoreStm, Program}
use Rattle.c_core.specs.declared.number.BinOp.{BinOp}
use Rattle.c_core.specs.declared.number.BinOp.TheVariants as binary
use Rattle.c_core.specs.declared.number.DataModel.TheVariants.{Ilp32}
use Rattle.c_core.specs.declared.number.IntType.TheVariants.{Int}
use Rattle.c_core.specs.declared.number.Property.TheVariants.{UnreachCall}
use Rattle.c_core.specs.declared.number.Spot.{Spot}
use Rattle.c_core.specs.declared.tree.Callee.TheVariants.{Input, ReachError}
use Rattle.c_core.specs.declared.tree.Object.{Object}
use Rattle.demo_laws.specs.DemoLines.{name}
use Rattle.demo_laws.specs.Source.{declared_at, looped_at, tested_at, drawn_at, chosen_at, ended_at, main_at, line_behind}

-- ---- statements, by the places of their tokens

-- an expression of type `int`
abbrev pub int_exp : Spot → Node → Exp
int_exp at n = Expr at (Some Int) n

-- the object of this number
abbrev pub variable : ℕ → Spot → Exp
variable o at = int_exp at (Var o)

abbrev pub constant : ℕ → Spot → Exp
constant v at = int_exp at (Const (pos v))

-- `x op v`
abbrev pub operation : BinOp → ℕ → ℕ → Spot → Spot → Exp
operation op o v at right = int_exp at (Binary op (variable o at) (constant v right))

-- `int x = 0;`
abbrev pub declaration : ℕ → (ℕ → Spot) → Stm
declaration o at = Stmt (at 0) (Declare (MoreName (at 1) o (One (constant 0 (at 3))) NoName))

-- `x = x + 1;`
abbrev pub step : ℕ → (ℕ → Spot) → Stm
step o at = Stmt (at 7) (Do (int_exp (at 7) (Assign None (variable o (at 7)) (operation binary.Add o 1 (at 9) (at 11)))))

-- `{ x = x + 1; }`
abbrev pub step_block : ℕ → (ℕ → Spot) → Stm
step_block o at = Stmt (at 6) (Block (MoreStm (step o at) NoStm))

-- `while (x < b) { x = x + 1; }`
abbrev pub counting : ℕ → ℕ → (ℕ → Spot) → Stm
counting o b at = Stmt (at 0) (While (operation binary.Lt o b (at 2) (at 4)) (step_block o at))

-- `reach_error()`
abbrev pub error_call : (ℕ → Spot) → Exp
error_call at = Expr (at 7) None (Call ReachError NoExp (at 9))

-- `{ reach_error(); }`
abbrev pub error_block : (ℕ → Spot) → Stm
error_block at = Stmt (at 6) (Block (MoreStm (Stmt (at 7) (Do (error_call at))) NoStm))

-- `if (x op v) { reach_error(); }`
abbrev pub error_if : BinOp → ℕ → ℕ → (ℕ → Spot) → Stm
error_if op o v at = Stmt (at 0) (If (operation op o v (at 2) (at 4)) (error_block at) NoElse)

-- `__VERIFIER_nondet_int()`
abbrev pub input_call : (ℕ → Spot) → Exp
input_call at = int_exp (at 3) (Call (Input Int) NoExp (at 5))

-- `int y = __VERIFIER_nondet_int();`
abbrev pub input : ℕ → (ℕ → Spot) → Stm
input o at = Stmt (at 0) (Declare (MoreName (at 1) o (One (input_call at)) NoName))

-- `return 0;`
abbrev pub end : (ℕ → Spot) → Stm
end at = Stmt (at 0) (Return (Some (constant 0 (at 1))))

-- ---- the program

-- the statements of loops with these bounds, the first of which stands on this line, is the k-th and counts in object o; and others after them
abbrev pub loops : ℕ → ℕ → ℕ → List ℕ → Stms → Stms
loops l k o [] rest = rest
loops l k o (b ∷ bs) rest =
    MoreStm (declaration o (declared_at l k)) (
    MoreStm (counting o b (looped_at (l + 1) k b)) (
    MoreStm (error_if binary.Ne o b (tested_at (l + 1 + 1 + 1 + 1) k b)) (loops (l + 1 + 1 + 1 + 1 + 1 + 1 + 1) (k + 1) (o + 1) bs rest)))

-- y is drawn and compared with n, and the program ends
abbrev pub last_statements : ℕ → ℕ → (ℕ → Spot) → (ℕ → Spot) → (ℕ → Spot) → Stms
last_statements o n drawn chosen ended = MoreStm (input o drawn) (MoreStm (error_if binary.Eq o n chosen) (MoreStm (end ended) NoStm))

-- the same from a line on
abbrev pub faulty_rest : ℕ → ℕ → ℕ → Stms
faulty_rest l o n = last_statements o n (drawn_at l) (chosen_at (l + 1) n) (ended_at (l + 1 + 1 + 1 + 1))

-- a local object of one cell
abbrev pub local : List ℕ → Spot → Object
local name at = record { name = name; ty = Int; cells = 1; columns = 1; dims = 0; fixed = false; spot = at }

-- the objects of loops
abbrev pub loop_objects : ℕ → ℕ → List ℕ → List Object
loop_objects l k [] = []
loop_objects l k (b ∷ bs) = local (name k) (declared_at l k 1) ∷ loop_objects (l + 1 + 1 + 1 + 1 + 1 + 1 + 1) (k + 1) bs

-- a program of `main` alone, without static objects
abbrev pub main_alone : List Object → Stms → Program
main_alone objects body = record {
  model = Ilp32;
  property = UnreachCall;
  objects = objects;
  starts = [];
  functions = record { result = Some Int; params = []; body = Stmt (main_at 4) (Block body) } ∷ [];
  main = 0;
}

abbrev pub faulty_objects : List ℕ → List Object
faulty_objects bs = loop_objects 4 1 bs ++ local (codes "y") (drawn_at (line_behind 4 bs) 1) ∷ []

-- the program whose loops have these bounds and whose input reaches the error where it is n
abbrev pub faulty_typed : ℕ → List ℕ → Program
faulty_typed n bs = main_alone (faulty_objects bs) (loops 4 1 0 bs (faulty_rest (line_behind 4 bs) (length bs) n))

-- the program that has the loops alone
abbrev pub correct_typed : List ℕ → Program
correct_typed bs = main_alone (loop_objects 4 1 bs) (loops 4 1 0 bs (MoreStm (end (ended_at (line_behind 4 bs))) NoStm))
