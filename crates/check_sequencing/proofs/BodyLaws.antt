-- Full expressions, one by one.
use Rattle.std.proofs.Common.{◌≡◌, ℕ, ◌+◌, ◌<◌, List, [], ◌∷◌, ◌++◌, get_or, length, take, ap, sym, subst, ◌∙◌, append_assoc}
use Rattle.std.proofs.lemmas.List.{append-nil, take_more}
use Rattle.check_sequencing.specs.Bodies.{full_view, fulls_view, tested_fulls, tests_of}
use Rattle.check_sequencing.specs.declared.bodies.FullExpression.{FullExpression}
use Rattle.check_sequencing.specs.declared.walk.Walk.{Walk}
use Rattle.check_sequencing.specs.Walking.{IsGone, IsSameWalk}
use Rattle.check_sequencing.proofs.WalkLaws.{gone_both}

tests_push : (fs : List FullExpression) (f : FullExpression) → tested_fulls (fulls_view (fs ++ f ∷ [])) ≡ tested_fulls (fulls_view fs) ++ tests_of (full_view f)
tests_push [] f = append-nil (tests_of (full_view f))
tests_push (g ∷ fs) f = ap (λ ts. tests_of (full_view g) ++ ts) (tests_push fs f) ∙ sym (append_assoc (tests_of (full_view g)) (tested_fulls (fulls_view fs)) (tests_of (full_view f)))

pub gone_full_more : (a b c : Walk) (fs : List FullExpression) (i : ℕ) (f : FullExpression) → i < length fs → f ≡ get_or fs i f → IsSameWalk a b
    → IsGone a b (tested_fulls (fulls_view (take i fs))) → IsGone b c (tests_of (full_view f)) → IsGone a c (tested_fulls (fulls_view (take (i + 1) fs)))
gone_full_more a b c fs i f l is s g h =
    subst (IsGone a c) (sym (ap (λ xs. tested_fulls (fulls_view xs)) (take_more fs i f l ∙ ap (λ x. take i fs ++ x ∷ []) (sym is)) ∙ tests_push (take i fs) f))
    (gone_both a b c (tested_fulls (fulls_view (take i fs))) (tests_of (full_view f)) s g h)
