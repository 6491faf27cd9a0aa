-- What is found while going through expressions, part by part.
use Rattle.std.proofs.Common.{◌≡◌, ℕ, ◌+◌, ◌<◌, ◌≤◌, Bool, true, false, List, [], ◌∷◌, ◌++◌, length, take, get_or, refl, sym, ap, subst, ◌∙◌, append_assoc}
use Rattle.std.specs.Prelude.{cond}
use Rattle.std.proofs.lemmas.Bool.{false≢true}
use Rattle.std.proofs.lemmas.List.{append-nil, take_more, take_all}
use Rattle.c_core.specs.Tree.{Exp, Exps}
use Rattle.c_core.specs.TreeView.{expr_view, exprs_view}
use Rattle.c_core.specs.declared.number.Spot.{Spot}
use Rattle.c_core.specs.declared.tree.Expr.{Expr}
use Rattle.c_core.specs.declared.tree.Object.{Object}
use Rattle.check_sequencing.specs.declared.effect.Effect.{Effect}
use Rattle.check_sequencing.specs.declared.walk.Walk.{Walk}
use Rattle.check_sequencing.specs.declared.clash.Source.{Source}
use Rattle.check_sequencing.specs.Deciding.{IsSameSource, Tells, bodies_of, count_of, objects_of}
use Rattle.check_sequencing.specs.Typed.{IsFound, Listed, Nothing, Passed, Told, Test, place, tested, tested_all}
use Rattle.check_sequencing.specs.Walking.{IsGone, IsSameWalk}

module _ (objects : List Object) (count : ℕ) (bodies : List (List Effect)) where
  pub listed_append : (ts us : List Test) (ps qs : List Spot) → Listed objects count bodies ts ps → Listed objects count bodies us qs → Listed objects count bodies (ts ++ us) (ps ++ qs)
  listed_append [] us [] qs Nothing m = m
  listed_append [] us (p ∷ ps) qs l m = elim l [ ]
  listed_append (t ∷ ts) us ps qs (Passed n l) m = Passed n (listed_append ts us ps qs l m)
  listed_append (t ∷ ts) us (p ∷ ps) qs (Told f l) m = Told f (listed_append ts us ps qs l m)

pub same_after : (a b c : Source) → IsSameSource a b → IsSameSource b c → IsSameSource a c
same_after a b c s t = record { bodies = t.bodies ∙ s.bodies; objects = t.objects ∙ s.objects; count = t.count ∙ s.count; known = t.known }

-- in the same source
same_listed : (a b : Walk) (ts : List Test) (ps : List Spot) → IsSameWalk a b → Listed (objects_of b.source) (count_of b.source) (bodies_of b.source) ts ps
    → Listed (objects_of a.source) (count_of a.source) (bodies_of a.source) ts ps
same_listed a b ts ps s l =
    subst (λ o. Listed o (count_of a.source) (bodies_of a.source) ts ps) s.objects
    (subst (λ n. Listed (objects_of b.source) n (bodies_of a.source) ts ps) s.count
    (subst (λ f. Listed (objects_of b.source) (count_of b.source) f ts ps) s.bodies l))

pub gone_both : (a b c : Walk) (ts us : List Test) → IsSameWalk a b → IsGone a b ts → IsGone b c us → IsGone a c (ts ++ us)
gone_both a b c ts us s g h = record {
  spots = g.spots ++ h.spots;
  listed = listed_append (objects_of a.source) (count_of a.source) (bodies_of a.source) ts us g.spots h.spots g.listed (same_listed a b us h.spots s h.listed);
  added = h.added ∙ ap (λ xs. xs ++ h.spots) g.added ∙ append_assoc a.unordered.items g.spots h.spots;
}

pub gone_three : (a b c d : Walk) (ts us vs : List Test) → IsSameWalk a b → IsSameWalk a c → IsGone a b ts → IsGone b c us → IsGone c d vs → IsGone a d (ts ++ us ++ vs)
gone_three a b c d ts us vs s t g h i = gone_both a c d (ts ++ us) vs t (gone_both a b c ts us s g h) i

pub gone_nothing : (a b : Walk) → b.unordered.items ≡ a.unordered.items → IsGone a b []
gone_nothing a b e = record { spots = []; listed = Nothing; added = e ∙ sym (append-nil a.unordered.items) }

pub gone_quiet : (a b : Walk) (ts : List Test) → Listed (objects_of a.source) (count_of a.source) (bodies_of a.source) ts [] → b.unordered.items ≡ a.unordered.items → IsGone a b ts
gone_quiet a b ts l e = record { spots = []; listed = l; added = e ∙ sym (append-nil a.unordered.items) }

pub gone_noted : (a b : Walk) (t : Test) (found : Bool) → Tells found (IsFound (objects_of a.source) (count_of a.source) (bodies_of a.source) t)
    → b.unordered.items ≡ a.unordered.items ++ cond found (place t ∷ []) [] → IsGone a b (t ∷ [])
gone_noted a b t true told e = record { spots = place t ∷ []; listed = Told (told.0 refl) Nothing; added = e }
gone_noted a b t false told e = record { spots = []; listed = Passed (λ f. false≢true (told.1 f)) Nothing; added = e }

-- ---- arguments, one more

tested_push : (es : List Expr) (e : Expr) → tested_all (exprs_view (es ++ e ∷ [])) ≡ tested_all (exprs_view es) ++ tested (expr_view e)
tested_push [] e = append-nil (tested (expr_view e))
tested_push (d ∷ es) e = ap (λ ts. tested (expr_view d) ++ ts) (tested_push es e) ∙ sym (append_assoc (tested (expr_view d)) (tested_all (exprs_view es)) (tested (expr_view e)))

pub gone_one_more : (a b c : Walk) (es : List Expr) (i : ℕ) (e : Expr) → i < length es → e ≡ get_or es i e → IsSameWalk a b
    → IsGone a b (tested_all (exprs_view (take i es))) → IsGone b c (tested (expr_view e)) → IsGone a c (tested_all (exprs_view (take (i + 1) es)))
gone_one_more a b c es i e l is s g h =
    subst (IsGone a c) (sym (ap (λ xs. tested_all (exprs_view xs)) (take_more es i e l ∙ ap (λ x. take i es ++ x ∷ []) (sym is)) ∙ tested_push (take i es) e))
    (gone_both a b c (tested_all (exprs_view (take i es))) (tested (expr_view e)) s g h)

pub gone_all : (a b : Walk) (es : List Expr) (i : ℕ) → length es ≤ i → IsGone a b (tested_all (exprs_view (take i es))) → IsGone a b (tested_all (exprs_view es))
gone_all a b es i l g = subst (λ xs. IsGone a b (tested_all (exprs_view xs))) (take_all i es l) g
