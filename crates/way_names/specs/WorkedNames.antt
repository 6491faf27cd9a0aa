-- Which objects are visible at places of worked programs.
use Rattle.std.specs.Prelude.{◌≡◌, ℕ, ℤ, Bool, pos, true, false, [], ◌∷◌, Some, None}
use Rattle.c_core.specs.Tree as t
use Rattle.c_core.specs.Program.{IsProgram}
use Rattle.c_core.specs.WorkedPrograms.{at, one_input, a_recursion}
use Rattle.c_core.specs.declared.number.BinOp.TheVariants as b
use Rattle.c_core.specs.declared.number.DataModel.TheVariants.{Ilp32}
use Rattle.c_core.specs.declared.number.IntType.TheVariants.{Int}
use Rattle.c_core.specs.declared.number.Property.TheVariants.{UnreachCall}
use Rattle.c_core.specs.declared.number.Spot.{Spot}
use Rattle.c_core.specs.declared.place.PlaceKind.TheVariants.{Statement, Loop}
use Rattle.c_core.specs.declared.tree.Object.{Object}
use Rattle.way_names.specs.Visible.{is_scoped, names_at}

abbrev pub number : Spot → ℤ → t.Exp
number spot v = t.Expr spot (Some Int) (t.Const v)

abbrev pub variable : Spot → ℕ → t.Exp
variable spot o = t.Expr spot (Some Int) (t.Var o)

abbrev pub declares : Spot → Spot → ℕ → t.Exp → t.Stm
declares spot name o e = t.Stmt spot (t.Declare (t.MoreName name o (t.One e) t.NoName))

abbrev pub assigns : Spot → ℕ → t.Exp → t.Stm
assigns spot o e = t.Stmt spot (t.Do (t.Expr spot (Some Int) (t.Assign None (variable spot o) e)))

-- `for (int i = 0; i < 3;) {`, `    int x = i;`, `    g = x;`, `  }`
abbrev pub turns : t.Stm
turns = t.Stmt (at 4 3) (t.For
    (t.FirstNames (t.MoreName (at 4 12) 2 (t.One (number (at 4 16) (pos 0))) t.NoName))
    (Some (t.Expr (at 4 19) (Some Int) (t.Binary b.Lt (variable (at 4 19) 2) (number (at 4 23) (pos 3)))))
    None
    (t.Stmt (at 4 27) (t.Block (t.MoreStm (declares (at 5 5) (at 5 9) 3 (variable (at 5 13) 2)) (t.MoreStm (assigns (at 6 5) 0 (variable (at 6 9) 3)) t.NoStm)))))

-- `do x = g; while (0);`
abbrev pub turns_once : t.Stm
turns_once = t.Stmt (at 8 3) (t.DoWhile (assigns (at 8 6) 1 (variable (at 8 10) 0)) (number (at 8 20) (pos 0)))

abbrev pub an_int : Bool → Spot → Object
an_int fixed spot = record { name = []; ty = Int; cells = 1; columns = 1; dims = 0; fixed = fixed; spot = spot }

-- `int g;`, `int main() {`, `  int x = 0;`, the loops, `  return 0;`, `}`, `int late;`
abbrev pub hidden_names : t.Program
hidden_names = record {
  model = Ilp32;
  property = UnreachCall;
  objects = an_int true (at 1 5) ∷ an_int false (at 3 7) ∷ an_int false (at 4 12) ∷ an_int false (at 5 9) ∷ an_int true (at 11 5) ∷ [];
  starts = [];
  functions = record {
    result = Some Int;
    params = [];
    body = t.Stmt (at 2 12) (t.Block
        (t.MoreStm (declares (at 3 3) (at 3 7) 1 (number (at 3 11) (pos 0)))
        (t.MoreStm turns
        (t.MoreStm turns_once
        (t.MoreStm (t.Stmt (at 9 3) (t.Return (Some (number (at 9 10) (pos 0))))) t.NoStm)))));
  } ∷ [];
  main = 0;
}

-- objects by number, innermost last
pub record WorkedNames : Type 0 where
  pub checked : IsProgram hidden_names
  -- a declaration is not before itself; what is declared after the function is not visible
  pub before_the_first : names_at hidden_names Statement (at 3 3) ≡ 0 ∷ []
  pub before_the_loop : names_at hidden_names Statement (at 4 3) ≡ 0 ∷ 1 ∷ []
  -- the controlling expression sees what is declared in the parentheses
  pub in_the_parentheses : names_at hidden_names Loop (at 4 3) ≡ 0 ∷ 1 ∷ 2 ∷ []
  pub before_the_inner : names_at hidden_names Statement (at 5 5) ≡ 0 ∷ 1 ∷ 2 ∷ []
  -- the inner `x` is the last
  pub behind_the_inner : names_at hidden_names Statement (at 6 5) ≡ 0 ∷ 1 ∷ 2 ∷ 3 ∷ []
  pub at_the_keyword : names_at hidden_names Loop (at 8 3) ≡ 0 ∷ 1 ∷ []
  pub under_the_keyword : names_at hidden_names Statement (at 8 6) ≡ 0 ∷ 1 ∷ []
  pub in_an_arm : names_at one_input Statement (at 6 5) ≡ 0 ∷ []
  -- a parameter is visible in its function alone
  pub the_parameter : names_at a_recursion Statement (at 2 30) ≡ 0 ∷ []
  pub no_parameter : names_at a_recursion Statement (at 5 3) ≡ []
  pub the_loop_is_there : is_scoped hidden_names Loop (at 4 3) ≡ true
  pub no_loop_is_there : is_scoped hidden_names Loop (at 3 3) ≡ false
