-- Rows of initializers, one after another.
use Rattle.std.proofs.Common.{◌≡◌, ◌++◌, List, [], ◌∷◌, refl, ap}
use Rattle.c_core.specs.Tree as t
use Rattle.c_core.specs.View.{exprs_view, rows_view}
use Rattle.c_core.specs.declared.tree.Row.{Row}

-- these rows, and then others
abbrev pub rows_before : List Row → List t.Exps → List t.Exps
rows_before [] rest = rest
rows_before (r ∷ rows) rest = exprs_view r.values ∷ rows_before rows rest

pub rows_before-none : (rows : List Row) → rows_before rows [] ≡ rows_view rows
rows_before-none [] = refl
rows_before-none (r ∷ rows) = ap (λ xs. exprs_view r.values ∷ xs) (rows_before-none rows)

pub rows_before-one_more : (rows : List Row) (r : Row) (rest : List t.Exps) → rows_before (rows ++ r ∷ []) rest ≡ rows_before rows (exprs_view r.values ∷ rest)
rows_before-one_more [] r rest = refl
rows_before-one_more (x ∷ rows) r rest = ap (λ xs. exprs_view x.values ∷ xs) (rows_before-one_more rows r rest)
