-- The full expressions of a body (C11 6.8p4), in the order of the text, what they do and how they are tested.
use Rattle.std.specs.Prelude.{ℕ, false, List, [], ◌∷◌, ◌++◌, Option, Some, None, map}
use Rattle.std.specs.List.{flat_map}
use Rattle.c_core.specs.Tree as tree
use Rattle.c_core.specs.Tree.{Exp, Exps, NoExp, MoreExp, Init, Absent, One, Many, Rows, Names, NoName, MoreName, First, NoFirst, FirstExp, FirstNames, Stm, Stmt, Form, Empty, Do, Declare, Block, If, While, DoWhile, For, Break, Continue, Return, Label, Switch, Else, NoElse, OrElse, Stms, NoStm, MoreStm, MoreCase}
use Rattle.c_core.specs.TreeView.{expr_view}
use Rattle.c_core.specs.declared.tree.Object.{Object}
use Rattle.check_sequencing.specs.declared.bodies.FullExpression.{FullExpression}
use Rattle.check_sequencing.specs.declared.effect.Effect.{Effect}
use Rattle.check_sequencing.specs.Typed.{Initial, Test, effects, tested}

-- an initializer has its object
pub record Full : Type 0 where
  pub object : Option ℕ
  pub value : Exp

abbrev pub full : Option ℕ → Exp → Full
full o e = record { object = o; value = e }

abbrev pub full_if : Option Exp → List Full
full_if None = []
full_if (Some e) = full None e ∷ []

abbrev pub initializers : ℕ → Exps → List Full
initializers o NoExp = []
initializers o (MoreExp e es) = full (Some o) e ∷ initializers o es

abbrev pub fulls_of_init : ℕ → Init → List Full
fulls_of_init o Absent = []
fulls_of_init o (One e) = full (Some o) e ∷ []
fulls_of_init o (Many es) = initializers o es
fulls_of_init o (Rows rows) = flat_map (initializers o) rows

abbrev pub fulls_of_names : Names → List Full
fulls_of_names NoName = []
fulls_of_names (MoreName spot o i ns) = fulls_of_init o i ++ fulls_of_names ns

abbrev pub fulls_of_first : First → List Full
fulls_of_first NoFirst = []
fulls_of_first (FirstExp e) = full None e ∷ []
fulls_of_first (FirstNames ns) = fulls_of_names ns

abbrev mutual
  pub fulls : Stm → List Full
  fulls (Stmt p f) = fulls_in f

  pub fulls_in : Form → List Full
  fulls_in Empty = []
  fulls_in (Do e) = full None e ∷ []
  fulls_in (Declare ns) = fulls_of_names ns
  fulls_in (Block b) = fulls_of_block b
  fulls_in (If e a b) = full None e ∷ fulls a ++ fulls_of_else b
  fulls_in (While e b) = full None e ∷ fulls b
  fulls_in (DoWhile b e) = fulls b ++ full None e ∷ []
  fulls_in (For i e s b) = fulls_of_first i ++ full_if e ++ full_if s ++ fulls b
  fulls_in Break = []
  fulls_in Continue = []
  fulls_in (Return e) = full_if e
  fulls_in (Label b) = fulls b
  fulls_in (Switch e b) = full None e ∷ fulls_of_block b

  pub fulls_of_else : Else → List Full
  fulls_of_else NoElse = []
  fulls_of_else (OrElse b) = fulls b

  pub fulls_of_block : Stms → List Full
  fulls_of_block NoStm = []
  fulls_of_block (MoreStm s b) = fulls s ++ fulls_of_block b
  fulls_of_block (MoreCase spot l b) = fulls_of_block b

abbrev pub full_view : FullExpression → Full
full_view f = record { object = f.object; value = expr_view f.value.now }

abbrev pub fulls_view : List FullExpression → List Full
fulls_view fs = map full_view fs

abbrev pub tests_with : Option ℕ → Exp → List Test
tests_with None e = tested e
tests_with (Some o) e = Initial o e ∷ tested e

abbrev pub tests_of : Full → List Test
tests_of f = tests_with f.object f.value

-- the tests of full expressions, one after another
abbrev pub tested_fulls : List Full → List Test
tested_fulls fs = flat_map tests_of fs

-- what full expressions do
abbrev pub effects_of_fulls : List Object → ℕ → List Full → List Effect
effects_of_fulls objects count fs = flat_map (λ f. effects objects count false f.value) fs
