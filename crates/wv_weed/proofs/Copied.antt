-- Lists that are copied item by item.
use Rattle.std.proofs.Common.{◌≡◌, ◌<◌, ◌≤◌, ◌+◌, ◌-◌, ◌++◌, ℕ, Bool, true, false, List, [], ◌∷◌, length, drop, get_or, refl, ap, sym, subst, ◌∙◌, Some}
use Rattle.std.specs.Prelude.{slice_get}
use Rattle.std.specs.Option.{option_map}
use Rattle.std.proofs.lemmas.List.{append_assoc, append-nil, drop_all, drop_more, length-map, map-append}
use Rattle.std.proofs.lemmas.Option.{slice_get-map}
use Rattle.c_core.specs.Tree as t
use Rattle.c_core.specs.View.{expr_view, exprs_view}
use Rattle.c_core.specs.declared.tree.Expr.{Expr}
use Rattle.c_inductive.specs.Picking.{picked, IsSelection}
use Rattle.c_meaning.specs.declared.run.PlacedInvariant.{PlacedInvariant}
use Rattle.c_meaning.specs.Placing.{placed, placed_view}
use Rattle.wv_weed.specs.Numbers.{unflagged}
use Rattle.wv_weed.proofs.Picked.{next_picked, picked_none}

-- ---- expressions

pub views_next : (es : List Expr) (i : ℕ) (e : Expr) → i < length es → e ≡ get_or es i e
    → exprs_view (drop i es) ≡ t.MoreExp (expr_view e) (exprs_view (drop (i + 1) es))
views_next es i e lt item = ap exprs_view (drop_more es i e lt ∙ ap (λ (x : Expr). x ∷ drop (i + 1) es) (sym item))

-- these, and then the rest
abbrev pub before : List Expr → t.Exps → t.Exps
before [] rest = rest
before (e ∷ es) rest = t.MoreExp (expr_view e) (before es rest)

pub before_none : (es : List Expr) → before es t.NoExp ≡ exprs_view es
before_none [] = refl
before_none (e ∷ es) = ap (t.MoreExp (expr_view e)) (before_none es)

pub before_one_more : (es : List Expr) (e : Expr) (rest : t.Exps)
    → before (es ++ e ∷ []) rest ≡ before es (t.MoreExp (expr_view e) rest)
before_one_more [] e rest = refl
before_one_more (x ∷ es) e rest = ap (t.MoreExp (expr_view x)) (before_one_more es e rest)

-- ---- invariants

pub one_more_copy : (ns : List ℕ) (I copies after : List PlacedInvariant) (i n : ℕ) (x copy : PlacedInvariant)
    → IsSelection (length I) ns → i < length ns → n ≡ get_or ns i 0 → slice_get I (n - 1) ≡ Some x
    → placed copy ≡ placed x → after ≡ copies ++ copy ∷ []
    → placed_view copies ++ picked (drop i ns) (placed_view I) ≡ picked ns (placed_view I)
    → placed_view after ++ picked (drop (i + 1) ns) (placed_view I) ≡ picked ns (placed_view I)
one_more_copy ns I copies after i n x copy selection lt item at same pushed so_far =
    let all = placed_view I in
    let there : slice_get all (n - 1) ≡ Some (placed x) = slice_get-map placed I (n - 1) ∙ ap (option_map placed) at in
    let seen : placed_view after ≡ placed_view copies ++ placed x ∷ [] =
    ap placed_view pushed ∙ map-append placed copies (copy ∷ []) ∙ ap (λ y. placed_view copies ++ y ∷ []) same in
    ap (λ ys. ys ++ picked (drop (i + 1) ns) all) seen
    ∙ next_picked ns all i n (placed x) (placed_view copies)
    (subst (λ k. IsSelection k ns) (sym (length-map I placed)) selection) lt item there so_far

pub all_copied : (ns : List ℕ) (I copies : List PlacedInvariant) (i : ℕ) → length ns ≤ i
    → placed_view copies ++ picked (drop i ns) (placed_view I) ≡ picked ns (placed_view I)
    → placed_view copies ≡ picked ns (placed_view I)
all_copied ns I copies i le so_far =
    sym (append-nil (placed_view copies))
    ∙ ap (λ ys. placed_view copies ++ ys) (sym (picked_none 1 (placed_view I))
    ∙ ap (λ ms. picked ms (placed_view I)) (sym (drop_all i ns le))) ∙ so_far

-- ---- numbers without flags

-- the first of what is left of both lists
both : (flags : List Bool) (ns : List ℕ) (i : ℕ) → i < length ns → i < length flags
    → unflagged (drop i flags) (drop i ns) ≡ unflagged (get_or flags i false ∷ drop (i + 1) flags)
    (get_or ns i 0 ∷ drop (i + 1) ns)
both flags ns i lt within =
    ap (λ bs. unflagged bs (drop i ns)) (drop_more flags i false within)
    ∙ ap (unflagged (get_or flags i false ∷ drop (i + 1) flags)) (drop_more ns i 0 lt)

pub one_more_left : (flags : List Bool) (ns others after : List ℕ) (i n : ℕ) → i < length ns → i < length flags
    → get_or flags i false ≡ false → n ≡ get_or ns i 0 → after ≡ others ++ n ∷ []
    → others ++ unflagged (drop i flags) (drop i ns) ≡ unflagged flags ns
    → after ++ unflagged (drop (i + 1) flags) (drop (i + 1) ns) ≡ unflagged flags ns
one_more_left flags ns others after i n lt within off item pushed so_far =
    let rest = unflagged (drop (i + 1) flags) (drop (i + 1) ns) in
    ap (λ xs. xs ++ rest) pushed
    ∙ append_assoc others (n ∷ []) rest
    ∙ ap (λ m. others ++ m ∷ rest) item
    ∙ ap (λ xs. others ++ xs)
    (sym (both flags ns i lt within
    ∙ ap (λ b. unflagged (b ∷ drop (i + 1) flags) (get_or ns i 0 ∷ drop (i + 1) ns)) off))
    ∙ so_far

pub one_passed_over : (flags : List Bool) (ns others : List ℕ) (i : ℕ) → i < length ns → i < length flags
    → get_or flags i false ≡ true
    → others ++ unflagged (drop i flags) (drop i ns) ≡ unflagged flags ns
    → others ++ unflagged (drop (i + 1) flags) (drop (i + 1) ns) ≡ unflagged flags ns
one_passed_over flags ns others i lt within on so_far =
    ap (λ xs. others ++ xs)
    (sym (both flags ns i lt within
    ∙ ap (λ b. unflagged (b ∷ drop (i + 1) flags) (get_or ns i 0 ∷ drop (i + 1) ns)) on))
    ∙ so_far
