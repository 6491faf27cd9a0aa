-- One segment's part of a step, in the states of a matcher.
use Rattle.c_core.specs.Tree.{Program}
use Rattle.std.proofs.Common.{◌≡◌, ◌⊎◌, inl, inr, ℕ, zero, suc, ◌+◌, ◌<◌, ◌≤◌, Bool, true, false, not, ◌&&◌, ◌||◌, List, [], ◌∷◌, ◌++◌, length, take, drop, get_or, Option, Some, None, refl, sym, ◌∙◌, ap, subst, arith, add-one, is_some}
use Rattle.std.proofs.Math.ListN.{set}
use Rattle.std.proofs.lemmas.List.{take_more_set, set_split, drop-set-lt, append_assoc, length-take-le}
use Rattle.std.proofs.Math.Seq.{drop-cons}
use Rattle.way_match.specs.Points.{BoundSegment}
use Rattle.way_match.specs.declared.states.Node.{Node}
use Rattle.way_match.specs.Passing.{passes, passes_any, is_assumption}
use Rattle.way_match.specs.Matching.{Seen}
use Rattle.way_match.specs.inside.Steps.{is_there, only_if, way_now, step}
use Rattle.way_match.specs.inside.Arena.{way_of, IsHeld, ways_of, AreHeld, came_of, IsFrom, Grown, IsBlank}
use Rattle.way_match.proofs.Kept.{ways_stay, are_held_stay}

-- the ways after an event: those before segment i are past it
abbrev pub value : Program → Seen → ℕ → List Node → List BoundSegment → List (Option ℕ) → ℕ → Option ℕ → Bool → List (Option (List ℕ))
value pr e n ns ss live i c sh = ways_of ns 0 (take i live) ++ step pr e n (came_of ns i c) sh (drop i ss) (ways_of ns i (drop i live))

pub drop_past : {A : Type 0} (i : ℕ) (xs : List A) → length xs ≤ i → drop i xs ≡ []
drop_past zero [] h = refl
drop_past zero (x ∷ xs) h = absurd (omega arith)
drop_past (suc i) [] h = refl
drop_past (suc i) (x ∷ xs) h = drop_past i xs (omega arith)

way_only_if : (ns : List Node) (k : ℕ) (b : Bool) (w : Option ℕ) → way_of ns k (only_if b w) ≡ only_if b (way_of ns k w)
way_only_if ns k true w = refl
way_only_if ns k false w = refl

there : (ns : List Node) (k : ℕ) (w : Option ℕ) → is_there w ≡ is_there (way_of ns k w)
there ns k None = refl
there ns k (Some at) = refl

held_only_if : (ns : List Node) (k : ℕ) (b : Bool) (w : Option ℕ) → IsHeld ns k w → IsHeld ns k (only_if b w)
held_only_if ns k true w h = h
held_only_if ns k false w h = tt

pub ways_append : (ns : List Node) (k : ℕ) (xs ys : List (Option ℕ)) → ways_of ns k (xs ++ ys) ≡ ways_of ns k xs ++ ways_of ns (k + length xs) ys
ways_append ns k [] ys = let z : k ≡ k + 0 = omega arith in ap (λ (j : ℕ). ways_of ns j ys) z
ways_append ns k (x ∷ xs) ys =
    let z : suc k + length xs ≡ k + suc (length xs) = omega arith in
    ap (λ (t : List (Option (List ℕ))). way_of ns k x ∷ t)
    (ways_append ns (suc k) xs ys ∙ ap (λ (j : ℕ). ways_of ns (suc k) xs ++ ways_of ns j ys) z)

held_take : (ns : List Node) (k i : ℕ) (xs : List (Option ℕ)) → AreHeld ns k xs → AreHeld ns k (take i xs)
held_take ns k zero xs h = tt
held_take ns k (suc i) [] h = tt
held_take ns k (suc i) (x ∷ xs) h = (h.0, held_take ns (suc k) i xs h.1)

held_drop : (ns : List Node) (k i : ℕ) (xs : List (Option ℕ)) → AreHeld ns k xs → AreHeld ns (k + i) (drop i xs)
held_drop ns k zero xs h = let z : k ≡ k + 0 = omega arith in subst (λ (j : ℕ). AreHeld ns j xs) z h
held_drop ns k (suc i) [] h = tt
held_drop ns k (suc i) (x ∷ xs) h = let z : suc k + i ≡ k + suc i = omega arith in subst (λ (j : ℕ). AreHeld ns j (drop i xs)) z (held_drop ns (suc k) i xs h.1)

held_set : (ns : List Node) (k i : ℕ) (xs : List (Option ℕ)) (w : Option ℕ) → AreHeld ns k xs → IsHeld ns (k + i) w → AreHeld ns k (set xs i w)
held_set ns k i [] w h g = tt
held_set ns k zero (x ∷ xs) w h g = let z : k + 0 ≡ k = omega arith in (subst (λ (j : ℕ). IsHeld ns j w) z g, h.1)
held_set ns k (suc i) (x ∷ xs) w h g = let z : k + suc i ≡ suc k + i = omega arith in (h.0, held_set ns (suc k) i xs w h.1 (subst (λ (j : ℕ). IsHeld ns j w) z g))

pub core : (pr : Program) (e : Seen) (n : ℕ) (ns ms : List Node) (front back : List (Option ℕ)) (i : ℕ) (s : BoundSegment) (rest : List BoundSegment)
    (was kept c now d : Option ℕ) (sh : Bool) (whole : List (Option (List ℕ))) →
    length front ≡ i → AreHeld ns 0 front → AreHeld ns (suc i) back → Grown ns ms →
    kept ≡ only_if (not (passes_any pr s.avoids e.event e.cells)) was →
    way_of ms i now ≡ way_now n (way_of ns i kept) (came_of ns i c) →
    d ≡ only_if (passes pr s.follow e.event e.cells && (is_there kept || (sh && is_assumption s.follow))) now →
    ways_of ns 0 front ++ step pr e n (came_of ns i c) sh (s ∷ rest) (way_of ns i was ∷ ways_of ns (suc i) back) ≡ whole →
    ways_of ms 0 (front ++ now ∷ []) ++ step pr e n (way_of ms i d) (is_assumption s.follow) rest (ways_of ms (suc i) back) ≡ whole
core pr e n ns ms front back i s rest was kept c now d sh whole lf hf hb g ke we de v =
    let st : Option (List ℕ) = only_if (not (passes_any pr s.avoids e.event e.cells)) (way_of ns i was) in
    let k : way_of ns i kept ≡ st = ap (way_of ns i) ke ∙ way_only_if ns i (not (passes_any pr s.avoids e.event e.cells)) was in
    let w : way_of ms i now ≡ way_now n st (came_of ns i c) = we ∙ ap (λ (o : Option (List ℕ)). way_now n o (came_of ns i c)) k in
    let t : is_there kept ≡ is_there st = there ns i kept ∙ ap is_there k in
    let p : Bool = passes pr s.follow e.event e.cells in
    let q : Bool = sh && is_assumption s.follow in
    let o : way_of ms i d ≡ only_if (p && (is_there st || q)) (way_now n st (came_of ns i c)) =
    ap (way_of ms i) de ∙ way_only_if ms i (p && (is_there kept || q)) now ∙ ap (λ (b : Bool). only_if (p && (b || q)) (way_of ms i now)) t ∙
    ap (only_if (p && (is_there st || q))) w in
    let z : 0 + length front ≡ i = omega (arith, lf) in
    let f : ways_of ms 0 (front ++ now ∷ []) ≡ ways_of ns 0 front ++ way_now n st (came_of ns i c) ∷ [] =
    ways_append ms 0 front (now ∷ []) ∙ ap (λ (xs : List (Option (List ℕ))). xs ++ way_of ms (0 + length front) now ∷ []) (ways_stay ns ms 0 front g hf) ∙
    ap (λ (j : ℕ). ways_of ns 0 front ++ way_of ms j now ∷ []) z ∙ ap (λ (x : Option (List ℕ)). ways_of ns 0 front ++ x ∷ []) w in
    let r : step pr e n (way_of ms i d) (is_assumption s.follow) rest (ways_of ms (suc i) back) ≡
    step pr e n (only_if (p && (is_there st || q)) (way_now n st (came_of ns i c))) (is_assumption s.follow) rest (ways_of ns (suc i) back) =
    ap (λ (x : Option (List ℕ)). step pr e n x (is_assumption s.follow) rest (ways_of ms (suc i) back)) o ∙
    ap (λ (xs : List (Option (List ℕ))). step pr e n (only_if (p && (is_there st || q)) (way_now n st (came_of ns i c))) (is_assumption s.follow) rest xs) (ways_stay ns ms (suc i) back g hb) in
    rw (f, r, append_assoc) v

set_is : (xs : List (Option ℕ)) (i : ℕ) (w : Option ℕ) → i < length xs → drop (i + 1) (set xs i w) ≡ drop (suc i) xs
set_is xs i w h = let b : i < i + 1 = omega arith in let s : suc i ≡ i + 1 = omega arith in
    drop-set-lt (i + 1) xs i w b ∙ ap (λ (j : ℕ). drop j xs) (sym s)

pub set_other : (xs : List (Option ℕ)) (i k : ℕ) (w : Option ℕ) → (k ≡ i → ⊥) → get_or (set xs i w) k None ≡ get_or xs k None
set_other [] i k w ne = refl
set_other (x ∷ xs) zero zero w ne = absurd (ne refl)
set_other (x ∷ xs) zero (suc k) w ne = refl
set_other (x ∷ xs) (suc i) zero w ne = refl
set_other (x ∷ xs) (suc i) (suc k) w ne = set_other xs i k w (λ e. ne (ap suc e))

set_same : (xs : List (Option ℕ)) (i : ℕ) (w : Option ℕ) → i < length xs → get_or (set xs i w) i None ≡ w
set_same [] i w h = absurd (omega arith)
set_same (x ∷ xs) zero w h = refl
set_same (x ∷ xs) (suc i) w h = set_same xs i w (omega arith)

pub eq_or : (k i : ℕ) → (k ≡ i) ⊎ (k ≡ i → ⊥)
eq_or zero zero = inl refl
eq_or zero (suc i) = inr (λ e. absurd (omega arith))
eq_or (suc k) zero = inr (λ e. absurd (omega arith))
eq_or (suc k) (suc i) = elim (eq_or k i) [ inl e ↦ inl (ap suc e) | inr ne ↦ inr (λ e. ne (omega arith)) ]

pub blank_set : (live : List (Option ℕ)) (i : ℕ) (now : Option ℕ) (reach reach1 : ℕ) → i < length live → IsBlank reach live → reach ≤ reach1 →
    (reach1 ≤ i → now ≡ None) → IsBlank reach1 (set live i now)
blank_set live i now reach reach1 lt b rr rn k h = elim (eq_or k i) as (λ v. get_or (set live i now) k None ≡ None) [
  | inl e ↦ subst (λ (j : ℕ). get_or (set live i now) j None ≡ None) (sym e) (set_same live i now lt ∙ rn (omega arith))
  | inr ne ↦ set_other live i k now ne ∙ b k (omega arith)
]

pub turned_held : (ns ms : List Node) (live : List (Option ℕ)) (i : ℕ) (now : Option ℕ) → AreHeld ns 0 live → Grown ns ms → IsHeld ms i now → AreHeld ms 0 (set live i now)
turned_held ns ms live i now h g hn =
    let z : i ≡ 0 + i = omega arith in held_set ms 0 i live now (are_held_stay ns ms 0 live g h) (subst (λ (j : ℕ). IsHeld ms j now) z hn)

pub or_none : (xs : List (Option ℕ)) (i : ℕ) (w : Option ℕ) → i < length xs → w ≡ get_or xs i w → w ≡ get_or xs i None
or_none [] i w h e = absurd (omega arith)
or_none (x ∷ xs) zero w h e = e
or_none (x ∷ xs) (suc i) w h e = or_none xs i w (omega arith) e

pub held_at : (ns : List Node) (live : List (Option ℕ)) (i : ℕ) (was : Option ℕ) → AreHeld ns 0 live → i < length live → was ≡ get_or live i None → IsHeld ns i was
held_at ns live i was h lt wis =
    let z : 0 + i ≡ i = omega arith in
    let dc : drop i live ≡ was ∷ drop (suc i) live = drop-cons live i None lt ∙ ap (λ (w : Option ℕ). w ∷ drop (suc i) live) (sym wis) in
    (subst (λ (xs : List (Option ℕ)). AreHeld ns i xs) dc (subst (λ (j : ℕ). AreHeld ns j (drop i live)) z (held_drop ns 0 i live h))).0

pub kept_held : (ns : List Node) (live : List (Option ℕ)) (i : ℕ) (b : Bool) (was kept : Option ℕ) → AreHeld ns 0 live → i < length live → was ≡ get_or live i None →
    kept ≡ only_if b was → IsHeld ns i kept
kept_held ns live i b was kept h lt wis e = subst (IsHeld ns i) (sym e) (held_only_if ns i b was (held_at ns live i was h lt wis))

pub turned : (pr : Program) (e : Seen) (n : ℕ) (ns ms : List Node) (ss : List BoundSegment) (live : List (Option ℕ)) (i : ℕ) (s : BoundSegment)
    (was kept c now d : Option ℕ) (sh : Bool) → AreHeld ns 0 live → i < length live → was ≡ get_or live i None → i < length ss → s ≡ get_or ss i s → Grown ns ms →
    kept ≡ only_if (not (passes_any pr s.avoids e.event e.cells)) was →
    way_of ms i now ≡ way_now n (way_of ns i kept) (came_of ns i c) →
    d ≡ only_if (passes pr s.follow e.event e.cells && (is_there kept || (sh && is_assumption s.follow))) now →
    value pr e n ms ss (set live i now) (i + 1) d (is_assumption s.follow) ≡ value pr e n ns ss live i c sh
turned pr e n ns ms ss live i s was kept c now d sh h lt wis ls eis g ke wk de =
    let b0 : AreHeld ns (0 + i) (drop i live) = held_drop ns 0 i live h in
    let z : 0 + i ≡ i = omega arith in
    let dc : drop i live ≡ was ∷ drop (suc i) live = drop-cons live i None lt ∙ ap (λ (w : Option ℕ). w ∷ drop (suc i) live) (sym wis) in
    let b : AreHeld ns i (was ∷ drop (suc i) live) = subst (λ (xs : List (Option ℕ)). AreHeld ns i xs) dc (subst (λ (j : ℕ). AreHeld ns j (drop i live)) z b0) in
    let next : suc i ≡ i + 1 = omega arith in
    let sis : drop i ss ≡ s ∷ drop (i + 1) ss = drop-cons ss i s ls ∙ ap (λ (x : BoundSegment). x ∷ drop (suc i) ss) (sym eis) ∙ ap (λ (j : ℕ). s ∷ drop j ss) next in
    let lf : length (take i live) ≡ i = length-take-le i live (omega arith) in
    let whole : List (Option (List ℕ)) = value pr e n ns ss live i c sh in
    let v : ways_of ns 0 (take i live) ++ step pr e n (came_of ns i c) sh (s ∷ drop (i + 1) ss) (way_of ns i was ∷ ways_of ns (suc i) (drop (suc i) live)) ≡ whole =
    subst (λ (xs : List (Option ℕ)). ways_of ns 0 (take i live) ++ step pr e n (came_of ns i c) sh (s ∷ drop (i + 1) ss) (ways_of ns i xs) ≡ whole) dc
    (subst (λ (xs : List BoundSegment). ways_of ns 0 (take i live) ++ step pr e n (came_of ns i c) sh xs (ways_of ns i (drop i live)) ≡ whole) sis refl) in
    let u = core pr e n ns ms (take i live) (drop (suc i) live) i s (drop (i + 1) ss) was kept c now d sh whole lf (held_take ns 0 i live h) b.1 g ke wk de v in
    rw (take_more_set live i now lt, set_is live i now lt, add-one) (rw add-one at u)

pub turned_from : (ms : List Node) (i : ℕ) (b : Bool) (now d : Option ℕ) → IsHeld ms i now → d ≡ only_if b now → IsFrom ms (i + 1) d
turned_from ms i b now d h e = rw add-one (subst (IsHeld ms i) (sym e) (held_only_if ms i b now h))

pub from_none : (ns : List Node) (k : ℕ) → IsFrom ns k None
from_none ns zero = tt
from_none ns (suc k) = tt

pub came_none : (ns : List Node) (k : ℕ) → came_of ns k None ≡ None
came_none ns zero = refl
came_none ns (suc k) = refl

pub finished : (pr : Program) (e : Seen) (n : ℕ) (ns ms : List Node) (ss : List BoundSegment) (live : List (Option ℕ)) (j : ℕ) (c last : Option ℕ) (sh : Bool) →
    AreHeld ns 0 live → j ≡ length ss → length live ≡ length ss + 1 → Grown ns ms →
    way_of ms j last ≡ way_now n None (came_of ns j c) →
    ways_of ms 0 (set live j last) ≡ value pr e n ns ss live j c sh
finished pr e n ns ms ss live j c last sh h js ll g w =
    let lt : j < length live = omega arith in
    let none_left : drop j ss ≡ [] = drop_past j ss (omega arith) in
    let no_more : drop (suc j) live ≡ [] = drop_past (suc j) live (omega arith) in
    let dc : drop j live ≡ get_or live j None ∷ [] = drop-cons live j None lt ∙ ap (λ (xs : List (Option ℕ)). get_or live j None ∷ xs) no_more in
    let lf : length (take j live) ≡ j = length-take-le j live (omega arith) in
    let z : 0 + length (take j live) ≡ j = omega (arith, lf) in
    let whole : List (Option (List ℕ)) = value pr e n ns ss live j c sh in
    let v : ways_of ns 0 (take j live) ++ way_now n None (came_of ns j c) ∷ [] ≡ whole =
    subst (λ (xs : List (Option ℕ)). ways_of ns 0 (take j live) ++ step pr e n (came_of ns j c) sh [] (ways_of ns j xs) ≡ whole) dc
    (subst (λ (xs : List BoundSegment). ways_of ns 0 (take j live) ++ step pr e n (came_of ns j c) sh xs (ways_of ns j (drop j live)) ≡ whole) none_left refl) in
    let sp : set live j last ≡ take j live ++ last ∷ [] = set_split live j last lt ∙ ap (λ (xs : List (Option ℕ)). take j live ++ last ∷ xs) no_more in
    ap (ways_of ms 0) sp ∙ ways_append ms 0 (take j live) (last ∷ []) ∙
    ap (λ (xs : List (Option (List ℕ))). xs ++ way_of ms (0 + length (take j live)) last ∷ []) (ways_stay ns ms 0 (take j live) g (held_take ns 0 j live h)) ∙
    ap (λ (k : ℕ). ways_of ns 0 (take j live) ++ way_of ms k last ∷ []) z ∙
    ap (λ (x : Option (List ℕ)). ways_of ns 0 (take j live) ++ x ∷ []) w ∙ v

pub none_of : (c : Option ℕ) (r : Bool) → r ≡ is_some c → r ≡ false → c ≡ None
none_of None r e f = refl
none_of (Some x) r e f = absurd (cc)
