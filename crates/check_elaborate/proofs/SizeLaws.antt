-- The sizes that a declaration states, one after another.
use Rattle.std.proofs.Common.{◌≡◌, ◌<◌, ◌+◌, ℕ, List, [], ◌∷◌, length, map, drop, get_or, Option, refl, ap, sym, ◌∙◌}
use Rattle.std.proofs.lemmas.List.{drop_more}
use Rattle.c_core.specs.declared.number.DataModel.{DataModel}
use Rattle.c_parser.specs.Tree as raw
use Rattle.c_parser.specs.Tree.{exps}
use Rattle.c_parser.specs.View.{expr_view, exprs_view}
use Rattle.c_parser.specs.SourceView.{values_view}
use Rattle.c_parser.specs.declared.tree.RawExpr.{RawExpr}
use Rattle.c_parser.specs.declared.tree.RawRow.{RawRow}
use Rattle.check_rules.specs.declared.sizes.Sizes.{Sizes}
use Rattle.check_rules.specs.declared.sizes.Sizes.TheVariants.{Scalar, Array, Table}
use Rattle.check_rules.specs.Names.{Entry}
use Rattle.check_rules.specs.Scopes.{dims_of, size_of, sizes_of}
use Rattle.check_elaborate.specs.Walks.{with_size, sizes_from, dims_in}

module _ (m : DataModel) (bodies : List (List ℕ)) (es : List Entry) where
  pub dims_are : (sizes : List raw.Exp) → dims_in (sizes_of m bodies es sizes) ≡ dims_of sizes
  dims_are [] = refl
  dims_are (e ∷ []) = refl
  dims_are (e ∷ f ∷ more) = refl

  table_stays : (a b : Option ℕ) (sizes : List raw.Exp) → sizes_from m bodies es (Table a b) sizes ≡ Table a b
  table_stays a b [] = refl
  table_stays a b (e ∷ sizes) = table_stays a b sizes

  pub all_sizes : (sizes : List raw.Exp) → sizes_from m bodies es Scalar sizes ≡ sizes_of m bodies es sizes
  all_sizes [] = refl
  all_sizes (e ∷ []) = refl
  all_sizes (e ∷ f ∷ more) = table_stays (size_of m bodies es e) (size_of m bodies es f) more

pub next_size : (es : List RawExpr) (i : ℕ) (e : RawExpr) → i < length es → e ≡ get_or es i e → exprs_view (drop i es) ≡ expr_view e ∷ exprs_view (drop (i + 1) es)
next_size es i e h q = ap exprs_view (drop_more es i e h ∙ ap (λ (x : RawExpr). x ∷ drop (i + 1) es) (sym q))

pub next_row : (rows : List RawRow) (i : ℕ) (r : RawRow) → i < length rows → r ≡ get_or rows i r → map values_view (drop i rows) ≡ values_view r ∷ map values_view (drop (i + 1) rows)
next_row rows i r h q = ap (map values_view) (drop_more rows i r h ∙ ap (λ (x : RawRow). x ∷ drop (i + 1) rows) (sym q))
