-- The places of a program, and what witnesses name by them.
use Rattle.std.specs.Prelude.{ℕ, nat_eq, nat_lt, Bool, true, false, cond, ◌&&◌, List, [], ◌∷◌, ◌++◌, Option, Some, None, map}
use Rattle.std.specs.List.{list_any, filter, find, flat_map}
use Rattle.c_core.specs.Tree.{Exp, Expr, Node, Const, Var, Index, Unary, Cast, Step, Binary, Logic, Choose, Comma, Assign, Call, Exps, NoExp, MoreExp, Init, Absent, One, Many, Rows, Names, NoName, MoreName, First, NoFirst, FirstExp, FirstNames, Stm, Stmt, Form, Empty, Do, Declare, Block, If, While, DoWhile, For, Break, Continue, Return, Label, Switch, Else, NoElse, OrElse, Stms, NoStm, MoreStm, MoreCase, Program}
use Rattle.c_core.specs.Parts.{same_spot, spot_of, spot_of_statement, fulls_of_program, exps_of_program, statements_of_program}
use Rattle.c_core.specs.declared.number.IntType.{IntType}
use Rattle.c_core.specs.declared.number.Property.{Property}
use Rattle.c_core.specs.declared.number.Property.TheVariants.{UnreachCall, NoOverflow}
use Rattle.c_core.specs.declared.number.Spot.{Spot}
use Rattle.c_core.specs.declared.place.PlaceKind.{PlaceKind}
use Rattle.c_core.specs.declared.place.PlaceKind.TheVariants.{Statement, Loop, Branch, CallEnd}
use Rattle.c_core.specs.declared.place.Place.{Place}
use Rattle.c_core.specs.declared.tree.Callee.{Callee}
use Rattle.c_core.specs.declared.tree.Callee.TheVariants.{Input, ReachError}

-- kinds of places, numbered as they are listed
abbrev pub number_of_kind : PlaceKind → ℕ
number_of_kind Statement = 0
number_of_kind Loop = 1
number_of_kind Branch = 2
number_of_kind CallEnd = 3

-- the same kind
abbrev pub same_kind : PlaceKind → PlaceKind → Bool
same_kind a b = nat_eq (number_of_kind a) (number_of_kind b)

-- a place of a kind
abbrev pub place : PlaceKind → Spot → Place
place kind spot = record { kind = kind; spot = spot }

-- the places in an expression: the `?` of a conditional, the closing parenthesis of a call
abbrev mutual
  pub places_in : Exp → List Place
  places_in (Expr spot ty n) = places_in_node n

  pub places_in_node : Node → List Place
  places_in_node (Const v) = []
  places_in_node (Var o) = []
  places_in_node (Index o is) = places_in_arguments is
  places_in_node (Unary op a) = places_in a
  places_in_node (Cast a) = places_in a
  places_in_node (Step op a) = places_in a
  places_in_node (Binary op a b) = places_in a ++ places_in b
  places_in_node (Logic both a b) = places_in a ++ places_in b
  places_in_node (Choose mark e a b) = places_in e ++ place Branch mark ∷ places_in a ++ places_in b
  places_in_node (Comma a b) = places_in a ++ places_in b
  places_in_node (Assign op a b) = places_in a ++ places_in b
  places_in_node (Call callee es close) = places_in_arguments es ++ place CallEnd close ∷ []

  pub places_in_arguments : Exps → List Place
  places_in_arguments NoExp = []
  places_in_arguments (MoreExp e es) = places_in e ++ places_in_arguments es

-- the places in it, where there is one
abbrev pub places_if : Option Exp → List Place
places_if None = []
places_if (Some e) = places_in e

-- the places in an initializer
abbrev pub places_in_init : Init → List Place
places_in_init Absent = []
places_in_init (One e) = places_in e
places_in_init (Many es) = places_in_arguments es
places_in_init (Rows rows) = flat_map places_in_arguments rows

-- the places in the initializers of declared names
abbrev pub places_in_names : Names → List Place
places_in_names NoName = []
places_in_names (MoreName spot o i ns) = places_in_init i ++ places_in_names ns

-- a declaration in `for (` is no place
abbrev pub places_in_first : First → List Place
places_in_first NoFirst = []
places_in_first (FirstExp e) = places_in e
places_in_first (FirstNames ns) = places_in_names ns

-- the places of a statement in the order of the text, those at one spot in the order of their kinds
abbrev mutual
  pub places_of_statement : Stm → List Place
  places_of_statement (Stmt at f) = place Statement at ∷ places_of_form at f

  pub places_of_form : Spot → Form → List Place
  places_of_form at Empty = []
  places_of_form at (Do e) = places_in e
  places_of_form at (Declare ns) = places_in_names ns
  places_of_form at (Block b) = places_of_block b
  places_of_form at (If e a b) = place Branch at ∷ places_in e ++ places_of_statement a ++ places_of_else b
  places_of_form at (While e b) = place Loop at ∷ place Branch at ∷ places_in e ++ places_of_statement b
  places_of_form at (DoWhile b e) = place Loop at ∷ place Branch at ∷ places_of_statement b ++ places_in e
  places_of_form at (For i e s b) =
      place Loop at ∷ place Branch at ∷ places_in_first i ++ places_if e ++ places_if s ++ places_of_statement b
  places_of_form at Break = []
  places_of_form at Continue = []
  places_of_form at (Return e) = places_if e
  places_of_form at (Label b) = places_of_statement b
  places_of_form at (Switch e b) = place Branch at ∷ places_in e ++ places_of_block b

  pub places_of_else : Else → List Place
  places_of_else NoElse = []
  places_of_else (OrElse b) = places_of_statement b

  pub places_of_block : Stms → List Place
  places_of_block NoStm = []
  places_of_block (MoreStm s b) = places_of_statement s ++ places_of_block b
  places_of_block (MoreCase spot l b) = places_of_block b

-- a function's body is no place, what stands in it is
abbrev pub places_of_body : Stm → List Place
places_of_body (Stmt at f) = places_of_form at f

-- all places of a program, function by function
abbrev pub places_of : Program → List Place
places_of p = flat_map (λ f. places_of_body f.body) p.functions

-- the places among these of one kind
abbrev pub of_kind : PlaceKind → List Place → List Spot
of_kind kind [] = []
of_kind kind (p ∷ places) = cond (same_kind kind p.kind) (p.spot ∷ of_kind kind places) (of_kind kind places)

-- where a program has places of a kind
abbrev pub spots_of_kind : PlaceKind → Program → List Spot
spots_of_kind kind p = of_kind kind (places_of p)

-- exactly there, or on the line where no column is named
abbrev pub is_named : ℕ → Option ℕ → Spot → Bool
is_named line None spot = nat_eq spot.line line
is_named line (Some column) spot = nat_eq spot.line line && nat_eq spot.column column

-- the one of the smaller column; the first of two that are equal
abbrev pub lefter : Spot → Option Spot → Spot
lefter a None = a
lefter a (Some b) = cond (nat_lt b.column a.column) b a

-- of places on one line
abbrev pub leftmost : List Spot → Option Spot
leftmost [] = None
leftmost (spot ∷ spots) = Some (lefter spot (leftmost spots))

-- the place that a location names: of its kind, the leftmost on the line where it has no column
abbrev pub place_at : Program → PlaceKind → ℕ → Option ℕ → Option Spot
place_at p kind line column = leftmost (filter (is_named line column) (spots_of_kind kind p))

-- `reach_error`
abbrev pub is_reach_error : Callee → Bool
is_reach_error ReachError = true
is_reach_error _ = false

-- a call of `reach_error`
abbrev pub node_reaches_error : Node → Bool
node_reaches_error (Call callee es close) = is_reach_error callee
node_reaches_error _ = false

-- a call of `reach_error`
abbrev pub calls_reach_error : Exp → Bool
calls_reach_error (Expr spot ty n) = node_reaches_error n

-- where calls of `reach_error` begin, if the property is about them
abbrev pub starts_of_reach_error : Property → List Exp → List Spot
starts_of_reach_error UnreachCall es = map spot_of (filter calls_reach_error es)
starts_of_reach_error NoOverflow es = []

-- where a target may stand: at the start of a statement, of a full expression, of a call of `reach_error` where that is the property
abbrev pub aims_of : Program → List Spot
aims_of p = spots_of_kind Statement p ++ map spot_of (fulls_of_program p) ++ starts_of_reach_error p.property (exps_of_program p)

-- the places that a target names: all on the line where it has no column
abbrev pub aims_at : Program → ℕ → Option ℕ → List Spot
aims_at p line column = filter (is_named line column) (aims_of p)

-- a target may stand there: exactly at the column, or anywhere on the line without one
abbrev pub aim_fits : Program → ℕ → Option ℕ → Bool
aim_fits p line column = list_any (is_named line column) (aims_of p)

-- a call whose arguments end at this parenthesis
abbrev pub node_ends_at : Spot → Node → Bool
node_ends_at close (Call callee es end) = same_spot end close
node_ends_at close _ = false

-- a call whose arguments end at this parenthesis
abbrev pub ends_at : Spot → Exp → Bool
ends_at close (Expr spot ty n) = node_ends_at close n

-- the call whose closing parenthesis stands there
abbrev pub call_at : Program → Spot → Option Exp
call_at p close = find (ends_at close) (exps_of_program p)

-- an input call's place is its start
pub record InputCall : Type 0 where
  pub spot : Spot
  pub ty : IntType

-- an input call at this place, if the callee is an input function
abbrev pub input_by : Spot → Callee → Option InputCall
input_by spot (Input ty) = Some (record { spot = spot; ty = ty })
input_by spot _ = None

-- an input call at this place, if the node is one
abbrev pub input_of_node : Spot → Node → Option InputCall
input_of_node spot (Call callee es close) = input_by spot callee
input_of_node spot _ = None

-- the input call that an expression is, if it is one
abbrev pub input_of : Exp → Option InputCall
input_of (Expr spot ty n) = input_of_node spot n

-- the same, where there is an expression
abbrev pub input_if : Option Exp → Option InputCall
input_if None = None
input_if (Some e) = input_of e

-- the input call whose closing parenthesis stands there
abbrev pub input_at : Program → Spot → Option InputCall
input_at p close = input_if (call_at p close)

-- a block's rest begins with the statement at this place; an arm's body is a block of its own
abbrev pub begins_at : Spot → Stms → Bool
begins_at spot NoStm = false
begins_at spot (MoreStm s b) = same_spot (spot_of_statement s) spot
begins_at spot (MoreCase at l b) = false

-- the statement directly before the one at a place, in these statements
abbrev pub before_in : Spot → Stms → Option Stm
before_in spot NoStm = None
before_in spot (MoreStm s b) = cond (begins_at spot b) (Some s) (before_in spot b)
before_in spot (MoreCase at l b) = before_in spot b

-- the statement before the one at this place, in the form's own block
abbrev pub before_in_form : Spot → Form → Option Stm
before_in_form spot (Block b) = before_in spot b
before_in_form spot (Switch e b) = before_in spot b
before_in_form spot _ = None

-- the statement before the one at this place, in the statement's own block
abbrev pub before_in_statement : Spot → Stm → Option Stm
before_in_statement spot (Stmt at f) = before_in_form spot f

-- the first that there is
abbrev pub first_some : {A : Type 0} → List (Option A) → Option A
first_some [] = None
first_some (None ∷ os) = first_some os
first_some (Some a ∷ os) = Some a

-- the statement or declaration directly before the one at a place in the same block
abbrev pub stmt_before : Program → Spot → Option Stm
stmt_before p spot = first_some (map (before_in_statement spot) (statements_of_program p))
