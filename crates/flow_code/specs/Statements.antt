-- The code of a statement.
use Rattle.std.specs.Prelude.{ℕ, zero, suc, ◌+◌, ℤ, Bool, true, false, List, [], ◌∷◌, ◌++◌, Option, Some, None}
use Rattle.c_core.specs.Tree.{Exp, Expr, Exps, NoExp, MoreExp, Init, Absent, One, Many, Rows, Names, NoName, MoreName, First, NoFirst, FirstExp, FirstNames, Stm, Stmt, Form, Empty, Do, Declare, Block, If, While, DoWhile, For, Break, Continue, Return, Label, Switch, Else, NoElse, OrElse, Stms, NoStm, MoreStm, MoreCase, Program}
use Rattle.c_core.specs.Types.{promote_of}
use Rattle.c_core.specs.Typing.{is_default, labels_in}
use Rattle.c_core.specs.declared.number.IntType.{IntType}
use Rattle.c_core.specs.declared.number.Spot.{Spot}
use Rattle.c_core.specs.declared.tree.Label.{Label as ArmLabel}
use Rattle.c_core.specs.declared.tree.Label.TheVariants.{Case, Default}
use Rattle.c_meaning.specs.Meaning.{Used, Unused}
use Rattle.c_meaning.specs.Objects.{type_of, type_of_object, size_of_object, columns_of_object}
use Rattle.c_core.specs.Parts.{spot_of}
use Rattle.c_meaning.specs.Run.{first_label}
use Rattle.run_state.specs.declared.machine.Around.{Around}
use Rattle.flow_code.specs.declared.code.Place.TheVariants.{Fixed}
use Rattle.flow_code.specs.declared.code.Then.TheVariants.{Push, Drop, Branch}
use Rattle.flow_code.specs.declared.code.Action.TheVariants.{Arrive, Convert, Jump, Select, Leave, Declare as DeclareOf, Return as ReturnOf}
use Rattle.flow_code.specs.declared.code.Op.{Op}
use Rattle.flow_code.specs.declared.sizes.Depth.{Depth}
use Rattle.flow_code.specs.declared.statements.Inside.{Inside}
use Rattle.flow_code.specs.Preparing.{followed, op, only, stored_in, with_operand, scope, all_closed}
use Rattle.flow_code.specs.Sizes.{operand_of, size, size_if, size_of_statement, size_of_arm, size_of_arms, size_of_test, leaks, any_leaks, first_leaks, deep, in_turn, in_arms}
use Rattle.flow_code.specs.Expressions.{code, stored_code}
use Rattle.flow_code.specs.Tables.{added}
use Rattle.flow_code.specs.Words.{native}

-- the full expression of a statement
abbrev pub full_of : Spot → Exp → Around
full_of at e = record { statement = at; full = spot_of e }

-- inside one scope more, where it is there
abbrev pub deeper : Bool → Inside → Inside
deeper b w = record w { depth = deep b w.depth }

-- in a loop whose body `continue` leads to an address, and `break` to another
abbrev pub in_loop : ℕ → ℕ → Inside → Inside
in_loop again broken w = record w { broken = broken; again = again; depth = in_turn w.depth }

-- among the arms of a `switch`, where `break` leads to an address
abbrev pub in_switch : ℕ → Inside → Inside
in_switch broken w = record w { broken = broken; depth = in_arms w.depth }

-- out of so many scopes, to an address
abbrev pub jump_out : ℕ → ℕ → List Op
jump_out n to = all_closed n ++ op 0 (Jump to) ∷ []

-- `return` without a value, out of so many scopes
abbrev pub leaving : ℕ → List Op
leaving n = all_closed n ++ op 0 Leave ∷ []

-- a name without an initializer draws its cells' values
abbrev pub draws : Init → Bool
draws Absent = true
draws _ = false

-- the way of the first arm around the second
abbrev pub else_jump : Else → ℕ
else_jump NoElse = 0
else_jump (OrElse b) = 1

-- where the statements of the arm with this number begin, if those of the first begin at an address; where all end, if there are fewer arms
abbrev pub arm_at : Depth → ℕ → ℕ → Stms → ℕ
arm_at d to n NoStm = to
arm_at d to n (MoreStm s b) = arm_at d (to + size_of_statement d s) n b
arm_at d to zero (MoreCase spot l b) = to
arm_at d to (suc n) (MoreCase spot l b) = arm_at d to n b

-- a table with the address of an arm's constant
abbrev pub with_case : List (ℤ × ℕ) → ArmLabel → ℕ → List (ℤ × ℕ)
with_case t (Case v) to = added t v to
with_case t Default to = t

-- a table with the addresses of the constants of arms that begin at an address
abbrev pub with_cases : List (ℤ × ℕ) → Depth → ℕ → Stms → List (ℤ × ℕ)
with_cases t d to NoStm = t
with_cases t d to (MoreStm s b) = with_cases t d (to + size_of_statement d s) b
with_cases t d to (MoreCase spot l b) = with_cases (with_case t l to) d to b

-- the value on the stack chooses one of the arms that begin at an address; any other goes to the `default`, or after them all
abbrev pub selection_code : Depth → Spot → ℕ → Stms → List Op
selection_code d at to b = op 0 (Select at (with_cases [] d to b) (arm_at d to (first_label is_default (labels_in b)) b)) ∷ []

module _ (p : Program) where
  -- the test of a `switch`, which stays on the stack in its promoted type
  abbrev pub switch_test_code : ℕ → Spot → Exp → List Op
  switch_test_code i at e =
      with_operand (operand_of e) 0 (code p (full_of at e) i 0 Used e Push) (λ y. Convert (native p.model (promote_of (type_of e))) y (only Push))

  -- the value of a cell
  abbrev pub initial_code : ℕ → Spot → ℕ → ℕ → Exp → List Op
  initial_code i at o j (Expr s u n) =
      stored_code p (record { statement = at; full = s }) i 0 (Expr s u n) (stored_in (Fixed o j) (native p.model (type_of_object p o)) false Drop)

  -- the values of a list
  abbrev pub initials_code : ℕ → Spot → ℕ → ℕ → Exps → List Op
  initials_code i at o j NoExp = []
  initials_code i at o j (MoreExp e es) = followed i (initial_code i at o j e) (λ l. initials_code l at o (j + 1) es)

  -- the values of rows, each row from its own cell on
  abbrev pub rows_code : ℕ → Spot → ℕ → ℕ → List Exps → List Op
  rows_code i at o j [] = []
  rows_code i at o j (es ∷ rows) = followed i (initials_code i at o j es) (λ l. rows_code l at o (j + columns_of_object p o) rows)

  -- an initializer
  abbrev pub init_code : ℕ → Spot → ℕ → Init → List Op
  init_code i at o Absent = []
  init_code i at o (One e) = initial_code i at o 0 e
  init_code i at o (Many es) = initials_code i at o 0 es
  init_code i at o (Rows rows) = rows_code i at o 0 rows

  -- a declared name: its cells, then its initializer
  abbrev pub name_code : ℕ → Spot → Spot → ℕ → Init → List Op
  name_code i at spot o j =
      followed i (op (size_of_object p o) (DeclareOf spot o (size_of_object p o) (type_of_object p o) (draws j)) ∷ []) (λ l. init_code l at o j)

  -- declared names in their order
  abbrev pub names_code : ℕ → Spot → Names → List Op
  names_code i at NoName = []
  names_code i at (MoreName spot o j ns) = followed i (name_code i at spot o j) (λ l. names_code l at ns)

  -- the first part of a `for`
  abbrev pub first_code : ℕ → Spot → First → List Op
  first_code i at NoFirst = []
  first_code i at (FirstExp e) = code p (full_of at e) i 0 Unused e Drop
  first_code i at (FirstNames ns) = names_code i at ns

  -- an expression whose value is not used, where there is one
  abbrev pub only_if : ℕ → Spot → Option Exp → List Op
  only_if i at None = []
  only_if i at (Some e) = code p (full_of at e) i 0 Unused e Drop

  -- a loop's test, which leads to an address where it holds
  abbrev pub test_code : ℕ → Spot → Option Exp → ℕ → List Op
  test_code i at None to = op 0 (Jump to) ∷ []
  test_code i at (Some e) to = code p (full_of at e) i 0 Used e (Branch at true to)

  -- `return` with a value, behind so many open scopes
  abbrev pub return_code : ℕ → Spot → Option IntType → Exp → ℕ → List Op
  return_code i at ty e n = code p (full_of at e) i 0 Used e Push ++ all_closed n ++ op 0 (ReturnOf ty) ∷ []

  -- what a `for` does again and again, around the code of its body
  abbrev pub turns : ℕ → ℕ → ℕ → Spot → Option Exp → Option Exp → (ℕ → List Op) → List Op
  turns i start head at e s body = followed i (followed i (followed i (op 0 (Jump head) ∷ []) body) (λ j. only_if j at s)) (λ j. test_code j at e start)

  abbrev mutual
    -- a statement: its step and its event, then its form
    pub statement_code : ℕ → Inside → Stm → List Op
    statement_code i w (Stmt at f) = followed i (op 1 (Arrive at) ∷ []) (λ j. form_code j w at f)

    -- by its form
    pub form_code : ℕ → Inside → Spot → Form → List Op
    form_code i w at Empty = []
    form_code i w at (Do e) = code p (full_of at e) i 0 Unused e Drop
    form_code i w at (Declare ns) = names_code i at ns
    form_code i w at (Block b) = scope (any_leaks b) i (λ j. block_code j (deeper (any_leaks b) w) b)
    form_code i w at (If e a b) =
        let to = i + (size e + size_of_arm w.depth a + else_jump b) in
        followed i (followed i (code p (full_of at e) i 0 Used e (Branch at false to)) (λ j. scope (leaks a) j (λ l. statement_code l (deeper (leaks a) w) a))) (λ j. else_code j to w b)
    form_code i w at (While e b) =
        let again = i + 1 + size_of_arm (in_turn w.depth) b in
        let v = in_loop again (again + size e) w in
        followed i (followed i (op 0 (Jump again) ∷ []) (λ j. scope (leaks b) j (λ l. statement_code l (deeper (leaks b) v) b))) (λ j. test_code j at (Some e) (i + 1))
    form_code i w at (DoWhile b e) =
        let again = i + size_of_arm (in_turn w.depth) b in
        let v = in_loop again (again + size e) w in
        followed i (scope (leaks b) i (λ l. statement_code l (deeper (leaks b) v) b)) (λ j. test_code j at (Some e) i)
    form_code i w at (For first e s b) =
        let u = deeper (first_leaks first) w in
        scope (first_leaks first) i (λ l. followed l (first_code l at first) (λ m.
        let again = m + 1 + size_of_arm (in_turn u.depth) b in
        let head = again + size_if s in
        let v = in_loop again (head + size_of_test e) u in
        turns m (m + 1) head at e s (λ j. scope (leaks b) j (λ k. statement_code k (deeper (leaks b) v) b))))
    form_code i w at Break = jump_out w.depth.inner w.broken
    form_code i w at Continue = jump_out w.depth.turn w.again
    form_code i w at (Return None) = leaving w.depth.scopes
    form_code i w at (Return (Some e)) = return_code i at w.result e w.depth.scopes
    form_code i w at (Label b) = statement_code i w b
    form_code i w at (Switch e b) = followed i (switch_test_code i at e) (λ j.
        let v = deeper (any_leaks b) (in_switch (j + size_of_arms w.depth b) w) in
        scope (any_leaks b) j (λ l. followed l (selection_code v.depth at (l + 1) b) (λ m. block_code m v b)))

    -- the second arm, and before it the way of the first around it
    pub else_code : ℕ → ℕ → Inside → Else → List Op
    else_code i to w NoElse = []
    else_code i to w (OrElse b) =
        followed i (op 0 (Jump (to + size_of_arm w.depth b)) ∷ []) (λ j. scope (leaks b) j (λ l. statement_code l (deeper (leaks b) w) b))

    -- the statements of a block
    pub block_code : ℕ → Inside → Stms → List Op
    block_code i w NoStm = []
    block_code i w (MoreStm s b) = followed i (statement_code i w s) (λ j. block_code j w b)
    block_code i w (MoreCase spot l b) = block_code i w b

  -- a block, which is a scope if it declares names
  abbrev pub scoped_block : ℕ → Inside → Stms → List Op
  scoped_block i w b = scope (any_leaks b) i (λ j. block_code j (deeper (any_leaks b) w) b)

  -- a statement that is a scope of its own, if it declares names
  abbrev pub arm_code : ℕ → Inside → Stm → List Op
  arm_code i w s = scope (leaks s) i (λ l. statement_code l (deeper (leaks s) w) s)

  -- the same around a statement
  abbrev pub turns_code : ℕ → Inside → Spot → Option Exp → Option Exp → Stm → List Op
  turns_code i w at e s b =
      let again = i + 1 + size_of_arm (in_turn w.depth) b in
      let head = again + size_if s in
      turns i (i + 1) head at e s (λ j. arm_code j (in_loop again (head + size_of_test e) w) b)

  -- the arms of a `switch`, after the operation that chooses one
  abbrev pub arms_code : ℕ → Inside → Spot → Stms → List Op
  arms_code i v at b = followed i (selection_code v.depth at (i + 1) b) (λ m. block_code m v b)
