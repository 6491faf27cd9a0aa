-- A walk over functions that numbers their scopes, and notes those that statements and loops see.
use Rattle.std.specs.Prelude.{ℕ, Bool, true, false, cond, List, [], ◌∷◌, ◌++◌, Option, Some, None, length}
use Rattle.c_core.specs.Tree.{Stm, Stmt, Form, Empty, Do, Declare, Block, If, While, DoWhile, For, Break, Continue, Return, Label, Switch, Else, NoElse, OrElse, Stms, NoStm, MoreStm, MoreCase, Function}
use Rattle.c_core.specs.Parts.{declared_by, objects_of_first}
use Rattle.c_core.specs.declared.number.Spot.{Spot}
use Rattle.way_names.specs.declared.scope.Scope.{Scope}
use Rattle.way_names.specs.declared.walk.Walk as rust

-- scopes by their numbers, and places with the scopes that they see, in the order of the text
pub record Walk : Type 0 where
  pub scopes : List Scope
  pub statements : List (Spot × Option ℕ)
  pub loops : List (Spot × Option ℕ)

abbrev pub walk_of : List Scope → List (Spot × Option ℕ) → List (Spot × Option ℕ) → Walk
walk_of scopes statements loops = record { scopes = scopes; statements = statements; loops = loops }

-- a walk of the code as lists
unfoldable pub walk_view : rust.Walk → Walk
walk_view w = walk_of w.scopes.items w.statements.items w.loops.items

abbrev pub start : Walk
start = walk_of [] [] []

-- the number of the next scope
abbrev pub last_scope : Walk → Option ℕ
last_scope w = Some (length w.scopes)

-- a scope that names this object too
abbrev pub scope_around : Option ℕ → ℕ → Scope
scope_around outer o = record { outer = outer; object = o }

-- with a scope for one object more
abbrev pub with_scope : Walk → Option ℕ → ℕ → Walk
with_scope w outer o = walk_of (w.scopes ++ scope_around outer o ∷ []) w.statements w.loops

-- with a statement that sees this scope
abbrev pub with_statement : Walk → Spot → Option ℕ → Walk
with_statement w at scope = walk_of w.scopes (w.statements ++ (at, scope) ∷ []) w.loops

-- with a loop that sees this scope
abbrev pub with_loop : Walk → Spot → Option ℕ → Walk
with_loop w at scope = walk_of w.scopes w.statements (w.loops ++ (at, scope) ∷ [])

-- with it, where it is a loop
abbrev pub with_loop_if : Bool → Walk → Spot → Option ℕ → Walk
with_loop_if looped w at scope = cond looped (with_loop w at scope) w

-- with a scope for each of these objects, one in the other
abbrev pub with_names : Walk → Option ℕ → List ℕ → Walk
with_names w outer [] = w
with_names w outer (o ∷ os) = with_names (with_scope w outer o) (last_scope w) os

-- the innermost of them
abbrev pub innermost : Walk → Option ℕ → List ℕ → Option ℕ
innermost w outer [] = outer
innermost w outer (o ∷ os) = innermost (with_scope w outer o) (last_scope w) os

-- the objects that are declared in the parentheses of `for`
abbrev pub in_parentheses : Form → List ℕ
in_parentheses (For i e s b) = objects_of_first i
in_parentheses _ = []

abbrev pub is_loop : Form → Bool
is_loop (While e b) = true
is_loop (DoWhile b e) = true
is_loop (For i e s b) = true
is_loop _ = false

abbrev mutual
  -- after a statement
  pub walked : Walk → Option ℕ → Stm → Walk
  walked w scope (Stmt at f) =
      walked_form
      (with_loop_if (is_loop f) (with_names (with_statement w at scope) scope (in_parentheses f)) at (innermost (with_statement w at scope) scope (in_parentheses f)))
      (innermost (with_statement w at scope) scope (in_parentheses f)) f

  -- after the statements in it, which see this scope
  pub walked_form : Walk → Option ℕ → Form → Walk
  walked_form w scope Empty = w
  walked_form w scope (Do e) = w
  walked_form w scope (Declare ns) = w
  walked_form w scope (Block b) = walked_block w scope b
  walked_form w scope (If e a b) = walked_else (walked w scope a) scope b
  walked_form w scope (While e b) = walked w scope b
  walked_form w scope (DoWhile b e) = walked w scope b
  walked_form w scope (For i e s b) = walked w scope b
  walked_form w scope Break = w
  walked_form w scope Continue = w
  walked_form w scope (Return e) = w
  walked_form w scope (Label b) = walked w scope b
  walked_form w scope (Switch e b) = walked_block w scope b

  pub walked_else : Walk → Option ℕ → Else → Walk
  walked_else w scope NoElse = w
  walked_else w scope (OrElse b) = walked w scope b

  -- what a declaration declares is visible after it
  pub walked_block : Walk → Option ℕ → Stms → Walk
  walked_block w scope NoStm = w
  walked_block w scope (MoreStm s b) =
      walked_block (with_names (walked w scope s) scope (declared_by s)) (innermost (walked w scope s) scope (declared_by s)) b
  walked_block w scope (MoreCase spot l b) = walked_block w scope b

-- the scope after statements
abbrev pub scope_behind : Walk → Option ℕ → Stms → Option ℕ
scope_behind w scope NoStm = scope
scope_behind w scope (MoreStm s b) =
    scope_behind (with_names (walked w scope s) scope (declared_by s)) (innermost (walked w scope s) scope (declared_by s)) b
scope_behind w scope (MoreCase spot l b) = scope_behind w scope b

-- a function's body is no place
abbrev pub walked_within : Walk → Option ℕ → Stm → Walk
walked_within w scope (Stmt at f) = walked_form (with_names w scope (in_parentheses f)) (innermost w scope (in_parentheses f)) f

-- after a body, which sees the parameters
abbrev pub walked_body : Walk → List ℕ → Stm → Walk
walked_body w objects s = walked_within (with_names w None objects) (innermost w None objects) s

-- after these functions
abbrev pub walked_functions : Walk → List Function → Walk
walked_functions w [] = w
walked_functions w (f ∷ fs) = walked_functions (walked_body w f.params f.body) fs
