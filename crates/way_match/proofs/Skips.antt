-- Segments that an event leaves as they are.
use Rattle.c_core.specs.Tree.{Program}
use Rattle.std.proofs.Common.{◌≡◌, ◌⊎◌, inl, inr, ℕ, zero, suc, ◌+◌, ◌<◌, ◌≤◌, Bool, true, false, not, ◌&&◌, ◌||◌, List, [], ◌∷◌, ◌++◌, length, take, drop, get_or, slice_get, Option, Some, None, refl, sym, ◌∙◌, ap, arith, is_some}
use Rattle.std.proofs.lemmas.List.{append_assoc, length-take-le}
use Rattle.std.proofs.Math.Seq.{drop-cons}
use Rattle.way_match.specs.Points.{BoundSegment}
use Rattle.way_match.specs.declared.states.Node.{Node}
use Rattle.way_match.specs.Passing.{passes, passes_any, is_assumption}
use Rattle.way_match.specs.Matching.{Seen}
use Rattle.way_match.specs.inside.Steps.{is_there, only_if, way_now, step}
use Rattle.way_match.specs.inside.Arena.{way_of, ways_of, came_of}
use Rattle.way_match.specs.inside.Turning.{IsSettled, avoids_none}
use Rattle.way_match.proofs.Turn.{value, came_none, drop_past, eq_or, ways_append}

-- ---- where no way comes, it doesn't matter which follows share their event

no_share : (pr : Program) (e : Seen) (n : ℕ) (sh sh' : Bool) (ss : List BoundSegment) (ws : List (Option (List ℕ))) →
    step pr e n None sh ss ws ≡ step pr e n None sh' ss ws
no_share pr e n sh sh' [] [] = refl
no_share pr e n sh sh' [] (w ∷ ws) = refl
no_share pr e n sh sh' (s ∷ ss) [] = refl
no_share pr e n sh sh' (s ∷ ss) (w ∷ ws) = by_stay (only_if (not (passes_any pr s.avoids e.event e.cells)) w) (passes pr s.follow e.event e.cells)
  where
    by_stay : (v : Option (List ℕ)) (p : Bool) →
        (way_now n v None ∷ step pr e n (only_if (p && (is_there v || (sh && is_assumption s.follow))) (way_now n v None)) (is_assumption s.follow) ss ws) ≡
        (way_now n v None ∷ step pr e n (only_if (p && (is_there v || (sh' && is_assumption s.follow))) (way_now n v None)) (is_assumption s.follow) ss ws)
    by_stay (Some v) p = refl
    by_stay None false = refl
    by_stay None true = by_each (sh && is_assumption s.follow) (sh' && is_assumption s.follow)
      where
        by_each : (a b : Bool) →
            (None ∷ step pr e n (only_if a None) (is_assumption s.follow) ss ws) ≡ (None ∷ step pr e n (only_if b None) (is_assumption s.follow) ss ws)
        by_each true true = refl
        by_each true false = refl
        by_each false true = refl
        by_each false false = refl

pub shares_free : (pr : Program) (e : Seen) (n : ℕ) (ns : List Node) (ss : List BoundSegment) (live : List (Option ℕ)) (i : ℕ) (sh sh' : Bool) →
    value pr e n ns ss live i None sh ≡ value pr e n ns ss live i None sh'
shares_free pr e n ns ss live i sh sh' =
    let z = came_none ns i in
    rw z (ap (λ (ws : List (Option (List ℕ))). ways_of ns 0 (take i live) ++ ws) (no_share pr e n sh sh' (drop i ss) (ways_of ns i (drop i live))))

last_shares : (pr : Program) (e : Seen) (n : ℕ) (came : Option (List ℕ)) (sh sh' : Bool) (ws : List (Option (List ℕ))) →
    step pr e n came sh [] ws ≡ step pr e n came sh' [] ws
last_shares pr e n came sh sh' [] = refl
last_shares pr e n came sh sh' (w ∷ ws) = refl

pub shares_last : (pr : Program) (e : Seen) (n : ℕ) (ns : List Node) (ss : List BoundSegment) (live : List (Option ℕ)) (i : ℕ) (c : Option ℕ) (sh sh' : Bool) → length ss ≤ i →
    value pr e n ns ss live i c sh ≡ value pr e n ns ss live i c sh'
shares_last pr e n ns ss live i c sh sh' h =
    let z = drop_past i ss h in
    rw z (ap (λ (ws : List (Option (List ℕ))). ways_of ns 0 (take i live) ++ ws) (last_shares pr e n (came_of ns i c) sh sh' (ways_of ns i (drop i live))))

-- ---- a settled state stays, whatever comes

settled_step : (pr : Program) (e : Seen) (n : ℕ) (s : BoundSegment) (ss : List BoundSegment) (w : List ℕ) (ws : List (Option (List ℕ))) (a b : Option (List ℕ)) (sh sh' : Bool) →
    s.avoids ≡ [] → step pr e n a sh (s ∷ ss) (Some w ∷ ws) ≡ step pr e n b sh' (s ∷ ss) (Some w ∷ ws)
settled_step pr e n s ss w ws a b sh sh' h = rw h refl

pub first_of : (ss : List BoundSegment) (i : ℕ) → avoids_none (slice_get ss i) → (s : BoundSegment) × (drop i ss ≡ s ∷ drop (suc i) ss) × (s.avoids ≡ [])
first_of [] i h = absurd h
first_of (s ∷ ss) zero h = (s, refl, h)
first_of (s ∷ ss) (suc i) h = first_of ss i h

pub live_of : (live : List (Option ℕ)) (i : ℕ) → is_some (get_or live i None) ≡ true → (at : ℕ) × (drop i live ≡ Some at ∷ drop (suc i) live)
live_of [] i h = absurd (cc)
live_of (Some at ∷ live) zero h = (at, refl)
live_of (None ∷ live) zero h = absurd (cc)
live_of (w ∷ live) (suc i) h = live_of live i h

pub settled : (pr : Program) (e : Seen) (n : ℕ) (ns : List Node) (ss : List BoundSegment) (live : List (Option ℕ)) (i : ℕ) (c d : Option ℕ) (sh sh' : Bool) →
    IsSettled ss live i → value pr e n ns ss live i c sh ≡ value pr e n ns ss live i d sh'
settled pr e n ns ss live i c d sh sh' h =
    let x = first_of ss i h.0 in
    let y = live_of live i h.1 in
    rw (x.1, y.1)
    (ap (λ (ws : List (Option (List ℕ))). ways_of ns 0 (take i live) ++ ws)
    (settled_step pr e n x.0 (drop (suc i) ss) _ (ways_of ns (suc i) (drop (suc i) live)) (came_of ns i c) (came_of ns i d) sh sh' x.2))

-- ---- a segment that the event can't move, or whose state isn't live, stays where none comes

-- the event passes no waypoint of the segment
pub record Untouched (pr : Program) (e : Seen) (s : BoundSegment) : Type 0 where
  pub avoids : passes_any pr s.avoids e.event e.cells ≡ false
  pub follow : passes pr s.follow e.event e.cells ≡ false

stays_there : (pr : Program) (e : Seen) (n : ℕ) (sh : Bool) (s : BoundSegment) (ss : List BoundSegment) (w : Option (List ℕ)) (ws : List (Option (List ℕ))) → Untouched pr e s →
    step pr e n None sh (s ∷ ss) (w ∷ ws) ≡ w ∷ step pr e n None (is_assumption s.follow) ss ws
stays_there pr e n sh s ss None ws u = rw (u.avoids, u.follow) refl
stays_there pr e n sh s ss (Some w) ws u = rw (u.avoids, u.follow) refl

only_none : (b : Bool) → ◌≡◌ {A = Option (List ℕ)} (only_if b None) None
only_none true = refl
only_none false = refl

pub stays_away : (pr : Program) (e : Seen) (n : ℕ) (sh : Bool) (s : BoundSegment) (ss : List BoundSegment) (ws : List (Option (List ℕ))) →
    step pr e n None sh (s ∷ ss) (None ∷ ws) ≡ None ∷ step pr e n None (is_assumption s.follow) ss ws
stays_away pr e n sh s ss ws =
    let b : Bool = not (passes_any pr s.avoids e.event e.cells) in
    rw (only_none b, only_none (passes pr s.follow e.event e.cells && (sh && is_assumption s.follow))) refl

abbrev pub IsIdle : Program → Seen → Option BoundSegment → Option ℕ → Type 0
IsIdle pr e None w = ⊥
IsIdle pr e (Some s) w = Untouched pr e s ⊎ (w ≡ None)

segment_of : (pr : Program) (e : Seen) (ss : List BoundSegment) (i : ℕ) (w : Option ℕ) → IsIdle pr e (slice_get ss i) w →
    (s : BoundSegment) × (drop i ss ≡ s ∷ drop (suc i) ss) × (Untouched pr e s ⊎ (w ≡ None))
segment_of pr e [] i w h = absurd h
segment_of pr e (s ∷ ss) zero w h = (s, refl, h)
segment_of pr e (s ∷ ss) (suc i) w h = segment_of pr e ss i w h

idle_step : (pr : Program) (e : Seen) (n : ℕ) (ns : List Node) (k : ℕ) (sh : Bool) (s : BoundSegment) (ss : List BoundSegment) (w : Option ℕ) (ws : List (Option ℕ)) →
    Untouched pr e s ⊎ (w ≡ None) →
    step pr e n None sh (s ∷ ss) (way_of ns k w ∷ ways_of ns (suc k) ws) ≡ way_of ns k w ∷ step pr e n None (is_assumption s.follow) ss (ways_of ns (suc k) ws)
idle_step pr e n ns k sh s ss w ws (inl u) = stays_there pr e n sh s ss (way_of ns k w) (ways_of ns (suc k) ws) u
idle_step pr e n ns k sh s ss w ws (inr z) = rw z (stays_away pr e n sh s ss (ways_of ns (suc k) ws))

pub take_more : (xs : List (Option ℕ)) (i : ℕ) → i < length xs → take (suc i) xs ≡ take i xs ++ get_or xs i None ∷ []
take_more [] i h = absurd (omega arith)
take_more (x ∷ xs) zero h = refl
take_more (x ∷ xs) (suc i) h = ap (λ (ys : List (Option ℕ)). x ∷ ys) (take_more xs i (omega arith))

pub passed_over : (pr : Program) (e : Seen) (n : ℕ) (ns : List Node) (ss : List BoundSegment) (live : List (Option ℕ)) (i : ℕ) (sh : Bool) → i < length live →
    IsIdle pr e (slice_get ss i) (get_or live i None) → value pr e n ns ss live i None sh ≡ value pr e n ns ss live (suc i) None false
passed_over pr e n ns ss live i sh lt h =
    let x = segment_of pr e ss i (get_or live i None) h in
    let y : drop i live ≡ get_or live i None ∷ drop (suc i) live = drop-cons live i None lt in
    let lf : length (take i live) ≡ i = length-take-le i live (omega arith) in
    let z : 0 + length (take i live) ≡ i = omega (arith, lf) in
    let w : Option (List ℕ) = way_of ns i (get_or live i None) in
    let rest : List (Option (List ℕ)) = step pr e n None (is_assumption x.0.follow) (drop (suc i) ss) (ways_of ns (suc i) (drop (suc i) live)) in
    let front : ways_of ns 0 (take (suc i) live) ≡ ways_of ns 0 (take i live) ++ w ∷ [] =
    ap (ways_of ns 0) (take_more live i lt) ∙ ways_append ns 0 (take i live) (get_or live i None ∷ []) ∙
    ap (λ (k : ℕ). ways_of ns 0 (take i live) ++ way_of ns k (get_or live i None) ∷ []) z in
    let here : value pr e n ns ss live i None sh ≡ ways_of ns 0 (take i live) ++ w ∷ rest =
    rw (came_none ns i, x.1, y) (ap (λ (ws : List (Option (List ℕ))). ways_of ns 0 (take i live) ++ ws)
    (idle_step pr e n ns i sh x.0 (drop (suc i) ss) (get_or live i None) (drop (suc i) live) x.2)) in
    let there : value pr e n ns ss live (suc i) None (is_assumption x.0.follow) ≡ ways_of ns 0 (take i live) ++ w ∷ rest =
    rw front (append_assoc (ways_of ns 0 (take i live)) (w ∷ []) rest) in
    here ∙ sym there ∙ shares_free pr e n ns ss live (suc i) (is_assumption x.0.follow) false

-- many segments, one after another
pub skipped : (pr : Program) (e : Seen) (n : ℕ) (ns : List Node) (ss : List BoundSegment) (live : List (Option ℕ)) (i m : ℕ) (sh : Bool) → i + m < length live →
    ((k : ℕ) → i ≤ k → k < i + m → IsIdle pr e (slice_get ss k) (get_or live k None)) → value pr e n ns ss live i None sh ≡ value pr e n ns ss live (i + m) None false
skipped pr e n ns ss live i zero sh lt h =
    let z : i ≡ i + 0 = omega arith in
    shares_free pr e n ns ss live i sh false ∙ ap (λ (k : ℕ). value pr e n ns ss live k None false) z
skipped pr e n ns ss live i (suc m) sh lt h =
    let z : suc i + m ≡ i + suc m = omega arith in
    passed_over pr e n ns ss live i sh (omega arith) (h i (omega arith) (omega arith)) ∙
    skipped pr e n ns ss live (suc i) m false (omega arith) (λ k a b. h k (omega arith) (omega arith)) ∙
    ap (λ (k : ℕ). value pr e n ns ss live k None false) z

pub skipped_to : (pr : Program) (e : Seen) (n : ℕ) (ns : List Node) (ss : List BoundSegment) (live : List (Option ℕ)) (i j : ℕ) (c : Option ℕ) → i ≤ j → j ≤ length ss → length live ≡ length ss + 1 →
    (i < length ss → c ≡ None) → ((k : ℕ) → i ≤ k → k < j → IsIdle pr e (slice_get ss k) (get_or live k None)) → i < length ss →
    value pr e n ns ss live i c false ≡ value pr e n ns ss live j None false
skipped_to pr e n ns ss live i j c ij jn l cn h lt =
    let far : (m : ℕ) × (i + m ≡ j) = between i j ij in
    let m : ℕ = far.0 in
    let le : i + m < length live = omega (arith, far.1) in
    ap (λ (o : Option ℕ). value pr e n ns ss live i o false) (cn lt) ∙
    skipped pr e n ns ss live i m false le (λ k a b. h k a (omega (arith, far.1))) ∙
    ap (λ (k : ℕ). value pr e n ns ss live k None false) far.1
  where
    between : (i j : ℕ) → i ≤ j → (m : ℕ) × (i + m ≡ j)
    between zero j h = (j, omega arith)
    between (suc i) zero h = absurd (omega arith)
    between (suc i) (suc j) h = let b = between i j (omega arith) in (b.0, omega (arith, b.1))

-- up to the state behind all segments
pub skipped_all : (pr : Program) (e : Seen) (n : ℕ) (ns : List Node) (ss : List BoundSegment) (live : List (Option ℕ)) (i m : ℕ) (c : Option ℕ) → i ≤ m → m ≡ length ss → length live ≡ length ss + 1 →
    (i < length ss → c ≡ None) → ((k : ℕ) → i ≤ k → k < length ss → IsIdle pr e (slice_get ss k) (get_or live k None)) →
    value pr e n ns ss live i c false ≡ value pr e n ns ss live m c false
skipped_all pr e n ns ss live i m c im ml l cn h = by_end (eq_or i m)
  where
    by_end : (i ≡ m) ⊎ (i ≡ m → ⊥) → value pr e n ns ss live i c false ≡ value pr e n ns ss live m c false
    by_end (inl q) = ap (λ (k : ℕ). value pr e n ns ss live k c false) q
    by_end (inr q) =
        let lt : i < length ss = omega (arith, q) in
        skipped_to pr e n ns ss live i m c im (omega arith) l cn (λ k a b. h k a (omega arith)) lt ∙
        ap (λ (o : Option ℕ). value pr e n ns ss live m o false) (sym (cn lt))
