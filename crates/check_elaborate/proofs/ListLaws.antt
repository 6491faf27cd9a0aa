-- Lists of expressions, and their views.
use Rattle.std.proofs.Common.{◌≡◌, ◌<◌, ◌+◌, ◌++◌, ◌||◌, ℕ, suc, nat_lt, Bool, List, [], ◌∷◌, length, map, drop, get_or, Option, Some, None, refl, ap, sym, ◌∙◌}
use Rattle.std.proofs.lemmas.List.{drop_more}
use Rattle.std.specs.List.{list_any}
use native.Mathlib.Numerals.{unary_clauses}
use Rattle.c_core.specs.Tree as t
use Rattle.c_core.specs.View.{expr_view as typed_view, exprs_view as typed_views}
use Rattle.c_core.specs.declared.tree.Expr.{Expr}
use Rattle.c_parser.specs.Tree as raw
use Rattle.c_parser.specs.Tree.{exps}
use Rattle.c_parser.specs.SourceView.{values_view}
use Rattle.c_parser.specs.View.{expr_view, exprs_view}
use Rattle.c_parser.specs.declared.tree.RawExpr.{RawExpr}
use Rattle.c_parser.specs.declared.tree.RawRow.{RawRow}
use Rattle.check_rules.specs.Codes.{count}

pub count_of_views : (es : List RawExpr) → count (exps (exprs_view es)) ≡ length es
count_of_views [] = refl
count_of_views (e ∷ es) = simp unary_clauses (ap suc (count_of_views es))

pub any_of_views : (b : ℕ) (rows : List RawRow) → list_any (λ row. nat_lt b (count (values_view row))) rows ≡ list_any (λ row. nat_lt b (count row)) (map values_view rows)
any_of_views b [] = refl
any_of_views b (row ∷ rows) = ap (λ (x : Bool). nat_lt b (count (values_view row)) || x) (any_of_views b rows)

pub views-next : (es : List RawExpr) (i : ℕ) (e : RawExpr) → i < length es → e ≡ get_or es i e → exps (exprs_view (drop i es)) ≡ raw.MoreExp (expr_view e) (exps (exprs_view (drop (i + 1) es)))
views-next es i e h q = ap (λ xs. exps (exprs_view xs)) (drop_more es i e h ∙ ap (λ (x : RawExpr). x ∷ drop (i + 1) es) (sym q))

-- these, and then the rest
abbrev pub before : List Expr → t.Exps → t.Exps
before [] rest = rest
before (e ∷ es) rest = t.MoreExp (typed_view e) (before es rest)

pub before_none : (es : List Expr) → before es t.NoExp ≡ typed_views es
before_none [] = refl
before_none (e ∷ es) = ap (t.MoreExp (typed_view e)) (before_none es)

pub before_one_more : (es : List Expr) (e : Expr) (rest : t.Exps) → before (es ++ e ∷ []) rest ≡ before es (t.MoreExp (typed_view e) rest)
before_one_more [] e rest = refl
before_one_more (x ∷ es) e rest = ap (t.MoreExp (typed_view x)) (before_one_more es e rest)
