-- One more function, and one more kept value.
use Rattle.std.proofs.Common.{◌≡◌, ℕ, zero, suc, ◌+◌, ◌<◌, List, [], ◌∷◌, ◌++◌, map, get_or, length, take, drop, refl, ap, sym, subst, ◌∙◌, arith, add-one, append_assoc}
use Rattle.std.proofs.lemmas.Grind.{flat_map-append}
use Rattle.std.proofs.lemmas.List.{append-nil}
use Rattle.c_core.specs.TreeView.{functions_view, stmt_view}
use Rattle.c_core.specs.declared.tree.Function.{Function}
use Rattle.c_core.specs.declared.tree.Object.{Object}
use Rattle.check_rules.specs.Kept as rules
use Rattle.check_sequencing.specs.declared.kept.Kept.{Kept}
use Rattle.check_sequencing.specs.declared.walk.Walk.{Walk}
use Rattle.check_sequencing.specs.Bodies.{Full, tested_fulls, tests_of}
use Rattle.check_sequencing.specs.Walking.{IsGone, IsSameWalk}
use Rattle.check_sequencing.proofs.WalkLaws.{gone_both}
use Rattle.check_unsequenced.specs.Bodies.{all_fulls, body_effects, function_effects, function_fulls, kept_full, kept_fulls, kept_view, kept_views}

pub get_kept : (kept : List (List Kept)) (i : ℕ) → get_or (map kept_views kept) i [] ≡ kept_views (get_or kept i [])
get_kept [] i = refl
get_kept (ks ∷ kept) zero = refl
get_kept (ks ∷ kept) (suc i) = get_kept kept i

get_behind : (kept : List (List rules.Kept)) (i : ℕ) → get_or (drop 1 kept) i [] ≡ get_or kept (suc i) []
get_behind [] i = refl
get_behind (ks ∷ kept) i = refl

-- ---- what functions do

more_effects : (objects : List Object) (count : ℕ) (fs : List Function) (kept : List (List rules.Kept)) (i : ℕ) (f : Function) → i < length fs
    → body_effects objects count (functions_view (take (suc i) fs)) kept ≡ body_effects objects count (functions_view (take i fs)) kept ++ function_effects objects count (stmt_view (get_or fs i f).body) (get_or kept i []) ∷ []
more_effects objects count [] kept i f l = absurd (omega (arith, l))
more_effects objects count (x ∷ fs) kept zero f l = refl
more_effects objects count (x ∷ fs) kept (suc i) f l =
    ap (λ es. function_effects objects count (stmt_view x.body) (get_or kept 0 []) ∷ es)
    (more_effects objects count fs (drop 1 kept) i f (omega (arith, l))
    ∙ ap (λ ks. body_effects objects count (functions_view (take i fs)) (drop 1 kept) ++ function_effects objects count (stmt_view (get_or fs i f).body) ks ∷ []) (get_behind kept i))

pub effects_more : (objects : List Object) (count : ℕ) (fs : List Function) (kept : List (List Kept)) (i : ℕ) (f : Function) → i < length fs → f ≡ get_or fs i f
    → body_effects objects count (functions_view (take (i + 1) fs)) (map kept_views kept)
    ≡ body_effects objects count (functions_view (take i fs)) (map kept_views kept) ++ function_effects objects count (stmt_view f.body) (kept_views (get_or kept i [])) ∷ []
effects_more objects count fs kept i f l is =
    let before = body_effects objects count (functions_view (take i fs)) (map kept_views kept) in
    ap (λ n. body_effects objects count (functions_view (take n fs)) (map kept_views kept)) (add-one i) ∙ more_effects objects count fs (map kept_views kept) i f l
    ∙ ap (λ (g : Function). before ++ function_effects objects count (stmt_view g.body) (get_or (map kept_views kept) i []) ∷ []) (sym is)
    ∙ ap (λ ks. before ++ function_effects objects count (stmt_view f.body) ks ∷ []) (get_kept kept i)

-- ---- the full expressions of functions

more_fulls : (fs : List Function) (kept : List (List rules.Kept)) (i : ℕ) (f : Function) → i < length fs
    → all_fulls (functions_view (take (suc i) fs)) kept ≡ all_fulls (functions_view (take i fs)) kept ++ function_fulls (stmt_view (get_or fs i f).body) (get_or kept i [])
more_fulls [] kept i f l = absurd (omega (arith, l))
more_fulls (x ∷ fs) kept zero f l = append-nil (function_fulls (stmt_view x.body) (get_or kept 0 []))
more_fulls (x ∷ fs) kept (suc i) f l =
    ap (λ gs. function_fulls (stmt_view x.body) (get_or kept 0 []) ++ gs)
    (more_fulls fs (drop 1 kept) i f (omega (arith, l))
    ∙ ap (λ ks. all_fulls (functions_view (take i fs)) (drop 1 kept) ++ function_fulls (stmt_view (get_or fs i f).body) ks) (get_behind kept i))
    ∙ sym (append_assoc (function_fulls (stmt_view x.body) (get_or kept 0 [])) (all_fulls (functions_view (take i fs)) (drop 1 kept)) (function_fulls (stmt_view (get_or fs i f).body) (get_or kept (suc i) [])))

fulls_more : (fs : List Function) (kept : List (List Kept)) (i : ℕ) (f : Function) → i < length fs → f ≡ get_or fs i f
    → all_fulls (functions_view (take (i + 1) fs)) (map kept_views kept) ≡ all_fulls (functions_view (take i fs)) (map kept_views kept) ++ function_fulls (stmt_view f.body) (kept_views (get_or kept i []))
fulls_more fs kept i f l is =
    let before = all_fulls (functions_view (take i fs)) (map kept_views kept) in
    ap (λ n. all_fulls (functions_view (take n fs)) (map kept_views kept)) (add-one i) ∙ more_fulls fs (map kept_views kept) i f l
    ∙ ap (λ (g : Function). before ++ function_fulls (stmt_view g.body) (get_or (map kept_views kept) i [])) (sym is)
    ∙ ap (λ ks. before ++ function_fulls (stmt_view f.body) ks) (get_kept kept i)

-- ---- walks

-- full expressions behind others
pub gone_fulls : (a b c : Walk) (fs gs all : List Full) → all ≡ fs ++ gs → IsSameWalk a b → IsGone a b (tested_fulls fs) → IsGone b c (tested_fulls gs) → IsGone a c (tested_fulls all)
gone_fulls a b c fs gs all e s g h =
    subst (IsGone a c) (sym (ap tested_fulls e ∙ flat_map-append tests_of fs gs)) (gone_both a b c (tested_fulls fs) (tested_fulls gs) s g h)

pub gone_function : (a b c : Walk) (fs : List Function) (kept : List (List Kept)) (i : ℕ) (f : Function) → i < length fs → f ≡ get_or fs i f → IsSameWalk a b
    → IsGone a b (tested_fulls (all_fulls (functions_view (take i fs)) (map kept_views kept)))
    → IsGone b c (tested_fulls (function_fulls (stmt_view f.body) (kept_views (get_or kept i []))))
    → IsGone a c (tested_fulls (all_fulls (functions_view (take (i + 1) fs)) (map kept_views kept)))
gone_function a b c fs kept i f l is s g h =
    gone_fulls a b c (all_fulls (functions_view (take i fs)) (map kept_views kept)) (function_fulls (stmt_view f.body) (kept_views (get_or kept i []))) (all_fulls (functions_view (take (i + 1) fs)) (map kept_views kept))
    (fulls_more fs kept i f l is) s g h

more_kept : (kept : List Kept) (i : ℕ) (k : Kept) → i < length kept → kept_fulls (kept_views (take (suc i) kept)) ≡ kept_fulls (kept_views (take i kept)) ++ kept_full (kept_view (get_or kept i k)) ∷ []
more_kept [] i k l = absurd (omega (arith, l))
more_kept (x ∷ kept) zero k l = refl
more_kept (x ∷ kept) (suc i) k l = ap (λ fs. kept_full (kept_view x) ∷ fs) (more_kept kept i k (omega (arith, l)))

pub gone_kept : (a b c : Walk) (kept : List Kept) (i : ℕ) (k : Kept) → i < length kept → k ≡ get_or kept i k → IsSameWalk a b
    → IsGone a b (tested_fulls (kept_fulls (kept_views (take i kept)))) → IsGone b c (tests_of (kept_full (kept_view k)))
    → IsGone a c (tested_fulls (kept_fulls (kept_views (take (i + 1) kept))))
gone_kept a b c kept i k l is s g h =
    let fs = kept_fulls (kept_views (take i kept)) in
    gone_fulls a b c fs (kept_full (kept_view k) ∷ []) (kept_fulls (kept_views (take (i + 1) kept)))
    (ap (λ n. kept_fulls (kept_views (take n kept))) (add-one i) ∙ more_kept kept i k l ∙ ap (λ (x : Kept). fs ++ kept_full (kept_view x) ∷ []) (sym is)) s g
    (subst (IsGone b c) (sym (append-nil (tests_of (kept_full (kept_view k))))) h)
