-- Arguments, one by one.
use Rattle.std.proofs.Common.{◌≡◌, ℕ, ◌+◌, ◌<◌, Bool, false, List, ◌∷◌, drop, get_or, length, ap, sym, subst, ◌∙◌}
use Rattle.std.proofs.lemmas.List.{drop_more}
use Rattle.c_core.specs.Tree.{Exp}
use Rattle.c_core.specs.TreeView.{expr_view, exprs_view}
use Rattle.c_core.specs.declared.tree.Expr.{Expr}
use Rattle.check_sequencing.specs.declared.effect.Effect.{Effect}
use Rattle.check_sequencing.specs.declared.clash.Source.{Source}
use Rattle.check_sequencing.specs.Deciding.{IsSameSource, Tells, bodies_of, count_of, objects_of}
use Rattle.check_sequencing.specs.Effects.{AreUnsequenced}
use Rattle.check_sequencing.specs.Typed.{effects}
use Rattle.check_sequencing.specs.Walking.{AreUnsequencedBy, arguments_by, effects_by}

pub same_effects : (s u : Source) (e : Exp) → IsSameSource s u → effects_by u e ≡ effects_by s e
same_effects s u e h = ap (λ o. effects o (count_of u) false e) h.objects ∙ ap (λ n. effects (objects_of s) n false e) h.count

pub told_at : (s u : Source) (b : Bool) (before : List Effect) (e : Exp) → IsSameSource s u → Tells b (AreUnsequencedBy u before (effects_by u e)) → Tells b (AreUnsequencedBy s before (effects_by s e))
told_at s u b before e h t =
    subst (λ x. Tells b (AreUnsequencedBy s before x)) (same_effects s u e h)
    (subst (λ o. Tells b (AreUnsequenced (bodies_of s) o before (effects_by u e))) h.objects
    (subst (λ f. Tells b (AreUnsequenced f (objects_of u) before (effects_by u e))) h.bodies t))

pub next_argument : (s : Source) (es : List Expr) (i : ℕ) (e : Expr) → i < length es → e ≡ get_or es i e
    → arguments_by s (exprs_view (drop i es)) ≡ effects_by s (expr_view e) ∷ arguments_by s (exprs_view (drop (i + 1) es))
next_argument s es i e l is = ap (λ xs. arguments_by s (exprs_view xs)) (drop_more es i e l ∙ ap (λ x. x ∷ drop (i + 1) es) (sym is))
