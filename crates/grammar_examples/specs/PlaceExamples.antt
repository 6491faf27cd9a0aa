-- Where the parts of small texts stand.
use Rattle.std.specs.Prelude.{◌≡◌, refl, codes, ℕ, true, false, [], ◌∷◌, Some}
use Rattle.c_core.specs.declared.number.Spot.{Spot}
use Rattle.c_core.specs.declared.number.BinOp.TheVariants as op
use Rattle.c_core.specs.declared.number.StepOp.TheVariants as step
use Rattle.c_core.specs.declared.number.IntType.TheVariants.{Int}
use Rattle.c_parser.specs.Tree.{Expr, Number, Var, Index, Step, Binary, Choose, Call, exps, Absent, Stmt, Do, Declare, Block, Label, Break, Switch, Case, Default, NoStm, MoreStm, MoreCase, stms, Function}
use Rattle.c_parser.specs.Signs.{expr}
use Rattle.c_parser.specs.Declarations.{declared}
use Rattle.c_parser.specs.ReadExpressions.{read, level, within}
use Rattle.c_parser.specs.ReadStatements.{rows_within, header_within, statement_level, braced_within, armed_within}
use Rattle.c_parser.specs.ReadItems.{Source, read_items}
use Rattle.grammar_examples.specs.Shown.{tokens_of}

abbrev column : ℕ → Spot
column n = record { line = 1; column = n }

-- an operation begins at its first token, and a parenthesis moves the expression, not the name
example_0 : read 9 9 expr (tokens_of (codes "(a) + b")) ≡
    Some (Expr (column 1) (Binary op.Add (Expr (column 1) (Var (codes "a") (column 2))) (Expr (column 7) (Var (codes "b") (column 7)))), [])
unfolding level within
example_0 = refl

example_1 : read 9 9 expr (tokens_of (codes "(x)++")) ≡ Some (Expr (column 1) (Step step.PostInc (Expr (column 1) (Var (codes "x") (column 2)))), [])
unfolding level within
example_1 = refl

-- a choice has the place of its `?`, a call that of its closing parenthesis
example_2 : read 9 9 expr (tokens_of (codes "a ? b : c")) ≡
    Some (Expr (column 1) (Choose (column 3) (Expr (column 1) (Var (codes "a") (column 1))) (Expr (column 5) (Var (codes "b") (column 5))) (Expr (column 9) (Var (codes "c") (column 9)))), [])
unfolding level within
example_2 = refl

example_3 : read 9 9 expr (tokens_of (codes "f(a )")) ≡ Some (Expr (column 1) (Call (codes "f") (column 1) (exps (Expr (column 3) (Var (codes "a") (column 3)) ∷ [])) (column 5)), [])
unfolding level within
example_3 = refl

-- a statement begins at its label, a declaration at its type; declared names have their own places
example_4 : read_items 9 9 30 (tokens_of (codes "int f() { l: a; int b; }")) ≡
    Source (Function (column 5) (codes "f") (Some Int) [] (Stmt (column 9) (Block (stms (
    Stmt (column 11) (Label (codes "l") (Stmt (column 14) (Do (Expr (column 14) (Var (codes "a") (column 14)))))) ∷
    Stmt (column 17) (Declare (declared (column 21) (codes "b") Int [] Absent ∷ [])) ∷ [])))) ∷ [])
unfolding level within rows_within header_within statement_level braced_within armed_within
example_4 = refl

-- an arm has the place of its word, an element that of its name
example_5 : read_items 9 9 40 (tokens_of (codes "int f() { switch (a) { case 1: default: break; } }")) ≡
    Source (Function (column 5) (codes "f") (Some Int) [] (Stmt (column 9) (Block (stms (
    Stmt (column 11) (Switch (Expr (column 19) (Var (codes "a") (column 19)))
    (MoreCase (column 24) (Case (Expr (column 29) (Number 1 true false 0))) (MoreCase (column 32) Default (MoreStm (Stmt (column 41) Break) NoStm)))) ∷ [])))) ∷ [])
unfolding level within rows_within header_within statement_level braced_within armed_within
example_5 = refl

example_6 : read 9 9 expr (tokens_of (codes "(a)[b]")) ≡ Some (Expr (column 1) (Var (codes "a") (column 2)), tokens_of (codes "   [b]"))
unfolding level within
example_6 = refl

example_7 : read 9 9 expr (tokens_of (codes "a[b][c]")) ≡
    Some (Expr (column 1) (Index (codes "a") (column 1) (exps (Expr (column 3) (Var (codes "b") (column 3)) ∷ Expr (column 6) (Var (codes "c") (column 6)) ∷ []))), [])
unfolding level within
example_7 = refl
