-- Segments that no event can move any more: an event leaves them as they are, and they stay such.
use Rattle.c_core.specs.Tree.{Program}
use Rattle.std.proofs.Common.{◌≡◌, ◌⊎◌, inl, inr, ℕ, zero, suc, ◌+◌, ◌<◌, ◌≤◌, Bool, true, false, List, [], ◌∷◌, ◌++◌, length, take, drop, get_or, slice_get, Option, Some, None, refl, sym, ◌∙◌, ap, subst, arith, add-one, is_some}
use Rattle.std.proofs.lemmas.List.{append_assoc, length-take-le}
use Rattle.std.proofs.Math.Seq.{drop-cons}
use Rattle.way_match.specs.Points.{BoundSegment}
use Rattle.way_match.specs.declared.states.Node.{Node}
use Rattle.way_match.specs.Matching.{Seen}
use Rattle.way_match.specs.inside.Steps.{is_there, step}
use Rattle.way_match.specs.inside.Arena.{way_of, ways_of}
use Rattle.way_match.specs.inside.Turning.{ArePassed, IsPassed, avoids_none}
use Rattle.way_match.proofs.Skips.{first_of, live_of, take_more}
use Rattle.way_match.proofs.Turn.{value, came_none, ways_append}

passed_step : (pr : Program) (e : Seen) (n : ℕ) (sh : Bool) (s t : BoundSegment) (ss : List BoundSegment) (v : Option (List ℕ)) (w : List ℕ) (ws : List (Option (List ℕ))) →
    s.avoids ≡ [] → t.avoids ≡ [] →
    step pr e n None sh (s ∷ t ∷ ss) (v ∷ Some w ∷ ws) ≡ v ∷ step pr e n None false (t ∷ ss) (Some w ∷ ws)
passed_step pr e n sh s t ss None w ws h g = rw (h, g) refl
passed_step pr e n sh s t ss (Some v) w ws h g = rw (h, g) refl

passed_one : (pr : Program) (e : Seen) (n : ℕ) (ns : List Node) (ss : List BoundSegment) (live : List (Option ℕ)) (i : ℕ) → i < length live → IsPassed ss live i →
    value pr e n ns ss live i None false ≡ value pr e n ns ss live (suc i) None false
passed_one pr e n ns ss live i lt h =
    let h1 = rw add-one at h.1 in
    let x = first_of ss i h.0 in
    let y = first_of ss (suc i) h1.0 in
    let z = live_of live (suc i) h1.1 in
    let d : drop i live ≡ get_or live i None ∷ drop (suc i) live = drop-cons live i None lt in
    let lf : length (take i live) ≡ i = length-take-le i live (omega arith) in
    let k : 0 + length (take i live) ≡ i = omega (arith, lf) in
    let w : Option (List ℕ) = way_of ns i (get_or live i None) in
    let front : ways_of ns 0 (take (suc i) live) ≡ ways_of ns 0 (take i live) ++ w ∷ [] =
    ap (ways_of ns 0) (take_more live i lt) ∙ ways_append ns 0 (take i live) (get_or live i None ∷ []) ∙
    ap (λ (j : ℕ). ways_of ns 0 (take i live) ++ way_of ns j (get_or live i None) ∷ []) k in
    let rest : List (Option (List ℕ)) = step pr e n None false (drop (suc i) ss) (ways_of ns (suc i) (drop (suc i) live)) in
    let inner : step pr e n None false (drop i ss) (ways_of ns i (drop i live)) ≡ w ∷ rest =
    rw (x.1, d, y.1, z.1) (passed_step pr e n false x.0 y.0 (drop (suc (suc i)) ss) w _ (ways_of ns (suc (suc i)) (drop (suc (suc i)) live)) x.2 y.2) in
    let here : value pr e n ns ss live i None false ≡ ways_of ns 0 (take i live) ++ w ∷ rest =
    rw (came_none ns i) (ap (λ (ws : List (Option (List ℕ))). ways_of ns 0 (take i live) ++ ws) inner) in
    let there : value pr e n ns ss live (suc i) None false ≡ ways_of ns 0 (take i live) ++ w ∷ rest =
    rw front (append_assoc (ways_of ns 0 (take i live)) (w ∷ []) rest) in
    here ∙ sym there

pub passed_to : (pr : Program) (e : Seen) (n : ℕ) (ns : List Node) (ss : List BoundSegment) (live : List (Option ℕ)) (low : ℕ) → low < length live → ArePassed ss live low →
    value pr e n ns ss live 0 None false ≡ value pr e n ns ss live low None false
passed_to pr e n ns ss live zero lt h = refl
passed_to pr e n ns ss live (suc low) lt h =
    passed_to pr e n ns ss live low (omega arith) (λ k g. h k (omega arith)) ∙
    passed_one pr e n ns ss live low (omega arith) (h low (omega arith))

pub within_of : (ss : List BoundSegment) (i : ℕ) → avoids_none (slice_get ss i) → i < length ss
within_of [] i h = absurd h
within_of (s ∷ ss) zero h = omega arith
within_of (s ∷ ss) (suc i) h = let l = within_of ss i h in omega (arith, l)

pub passed_within : (ss : List BoundSegment) (live : List (Option ℕ)) (low : ℕ) → ArePassed ss live low → low ≤ length ss
passed_within ss live zero h = omega arith
passed_within ss live (suc low) h = let l = within_of ss low (h low (omega arith)).0 in omega (arith, l)

pub one_passed : (ss : List BoundSegment) (live : List (Option ℕ)) (low : ℕ) → ArePassed ss live low → IsPassed ss live low → ArePassed ss live (low + 1)
one_passed ss live low h g k l = by_last (order k low (omega (arith, l)))
  where
    order : (k low : ℕ) → k ≤ low → (k < low) ⊎ (k ≡ low)
    order zero zero h = inr refl
    order zero (suc low) h = inl (omega arith)
    order (suc k) zero h = absurd (omega arith)
    order (suc k) (suc low) h = elim (order k low (omega arith)) [ inl e ↦ inl (omega (arith, e)) | inr e ↦ inr (ap suc e) ]

    by_last : (k < low) ⊎ (k ≡ low) → IsPassed ss live k
    by_last (inl e) = h k e
    by_last (inr e) = subst (λ (j : ℕ). IsPassed ss live j) (sym e) g

-- ---- they stay such

there_at : (ns : List Node) (j : ℕ) (live : List (Option ℕ)) (k : ℕ) → is_there (get_or (ways_of ns j live) k None) ≡ is_some (get_or live k None)
there_at ns j [] k = refl
there_at ns j (None ∷ live) zero = refl
there_at ns j (Some at ∷ live) zero = refl
there_at ns j (w ∷ live) (suc k) = there_at ns (suc j) live k

kept_step : (pr : Program) (e : Seen) (n : ℕ) (ss : List BoundSegment) (ws : List (Option (List ℕ))) (k : ℕ) (came : Option (List ℕ)) (sh : Bool) → avoids_none (slice_get ss k) →
    is_there (get_or ws k None) ≡ true → is_there (get_or (step pr e n came sh ss ws) k None) ≡ true
kept_step pr e n [] ws k came sh h t = absurd h
kept_step pr e n (s ∷ ss) [] k came sh h t = absurd (cc)
kept_step pr e n (s ∷ ss) (None ∷ ws) zero came sh h t = absurd (cc)
kept_step pr e n (s ∷ ss) (Some w ∷ ws) zero came sh h t = rw h refl
kept_step pr e n (s ∷ ss) (w ∷ ws) (suc k) came sh h t = kept_step pr e n ss ws k _ _ h t

pub stay_passed : (pr : Program) (e : Seen) (n : ℕ) (ns ms : List Node) (ss : List BoundSegment) (live more : List (Option ℕ)) (low later : ℕ) → ArePassed ss live low → later ≡ low →
    ways_of ms 0 more ≡ step pr e n None false ss (ways_of ns 0 live) → ArePassed ss more later
stay_passed pr e n ns ms ss live more low later h same w k l =
    let p = h k (omega (arith, same, l)) in
    let t = kept_step pr e n ss (ways_of ns 0 live) (k + 1) None false p.1.0 (there_at ns 0 live (k + 1) ∙ p.1.1) in
    (p.0, (p.1.0, sym (there_at ms 0 more (k + 1)) ∙ ap (λ (ws : List (Option (List ℕ))). is_there (get_or ws (k + 1) None)) w ∙ t))
