-- Chains of nodes stay as they are where nodes are added.
use Rattle.std.proofs.Common.{◌≡◌, ℕ, zero, suc, ◌<◌, ◌≤◌, false, List, [], ◌∷◌, ◌++◌, length, drop, Option, Some, None, refl, sym, ◌∙◌, ap, subst, arith, is_some, add-one}
use Rattle.std.proofs.Math.ListN.{get_or-append, length-append, set}
use Rattle.std.proofs.lemmas.List.{drop-set}
use Rattle.std.proofs.Math.Seq.{get_or-append_seam}
use Rattle.way_match.specs.declared.states.Node.{Node}
use Rattle.way_match.specs.inside.Steps.{way_now, onto}
use Rattle.way_match.specs.inside.Arena.{node_at, chain, Held, way_of, IsHeld, ways_of, AreHeld, came_of, IsFrom, Grown}

longer : (ns xs ms : List Node) → ms ≡ ns ++ xs → length ns ≤ length ms
longer ns xs ms e = omega (arith, simp length-append at (ap length e))

shorter : (ns : List Node) (x : Node) → length ns < length (ns ++ x ∷ [])
shorter ns x = simp length-append (omega arith)

node_stays : (ns ms : List Node) (at : ℕ) → Grown ns ms → at < length ns → node_at ms at ≡ node_at ns at
node_stays ns ms at g h = ap (λ (xs : List Node). node_at xs at) g.1 ∙ get_or-append ns g.0 (record { event = 0; previous = 0 }) at h

pub chain_stays : (ns ms : List Node) (k at : ℕ) → Grown ns ms → Held ns k at → chain ms k at ≡ chain ns k at
chain_stays ns ms zero at g h = refl
chain_stays ns ms (suc k) at g h =
    let e = node_stays ns ms at g h.0 in
    let c = chain_stays ns ms k (node_at ns at).previous g h.1 in
    rw e (ap (λ (xs : List ℕ). (node_at ns at).event ∷ xs) c)

pub held_stays : (ns ms : List Node) (k at : ℕ) → Grown ns ms → Held ns k at → Held ms k at
held_stays ns ms zero at g h = tt
held_stays ns ms (suc k) at g h =
    let e = node_stays ns ms at g h.0 in
    let c = held_stays ns ms k (node_at ns at).previous g h.1 in
    let more : length ns ≤ length ms = longer ns g.0 ms g.1 in
    let b : at < length ms = omega (arith, h.0) in
    (b, rw e c)

pub way_stays : (ns ms : List Node) (k : ℕ) (w : Option ℕ) → Grown ns ms → IsHeld ns k w → way_of ms k w ≡ way_of ns k w
way_stays ns ms k None g h = refl
way_stays ns ms k (Some at) g h = ap Some (chain_stays ns ms k at g h)

pub is_held_stays : (ns ms : List Node) (k : ℕ) (w : Option ℕ) → Grown ns ms → IsHeld ns k w → IsHeld ms k w
is_held_stays ns ms k None g h = tt
is_held_stays ns ms k (Some at) g h = held_stays ns ms k at g h

pub ways_stay : (ns ms : List Node) (k : ℕ) (ws : List (Option ℕ)) → Grown ns ms → AreHeld ns k ws → ways_of ms k ws ≡ ways_of ns k ws
ways_stay ns ms k [] g h = refl
ways_stay ns ms k (w ∷ ws) g h = rw (way_stays ns ms k w g h.0, ways_stay ns ms (suc k) ws g h.1) refl

pub are_held_stay : (ns ms : List Node) (k : ℕ) (ws : List (Option ℕ)) → Grown ns ms → AreHeld ns k ws → AreHeld ms k ws
are_held_stay ns ms k [] g h = tt
are_held_stay ns ms k (w ∷ ws) g h = (is_held_stays ns ms k w g h.0, are_held_stay ns ms (suc k) ws g h.1)

-- a node more, with what came before it
pub new_way : (ns : List Node) (n k c : ℕ) → IsFrom ns k (Some c) →
    way_of (ns ++ record { event = n; previous = c } ∷ []) k (Some (length ns)) ≡ way_now n None (came_of ns k (Some c))
new_way ns n zero c h = absurd h
new_way ns n (suc k) c h =
    let x : Node = record { event = n; previous = c } in
    let g : Grown ns (ns ++ x ∷ []) = (x ∷ [], refl) in
    rw (get_or-append_seam ns x [] (record { event = 0; previous = 0 }), chain_stays ns (ns ++ x ∷ []) k c g h) refl

pub new_held : (ns : List Node) (n k c : ℕ) → IsFrom ns k (Some c) → IsHeld (ns ++ record { event = n; previous = c } ∷ []) k (Some (length ns))
new_held ns n zero c h = absurd h
new_held ns n (suc k) c h =
    let x : Node = record { event = n; previous = c } in
    let g : Grown ns (ns ++ x ∷ []) = (x ∷ [], refl) in
    let b : length ns < length (ns ++ x ∷ []) = shorter ns x in
    (b, rw (get_or-append_seam ns x [] (record { event = 0; previous = 0 })) (held_stays ns (ns ++ x ∷ []) k c g h))

pub arrived : (ns ms : List Node) (n k c at : ℕ) (kept came : Option ℕ) → is_some kept ≡ false → came ≡ Some c →
    ms ≡ ns ++ record { event = n; previous = c } ∷ [] → at ≡ length ns → IsFrom ns k came →
    way_of ms k (Some at) ≡ way_now n (way_of ns k kept) (came_of ns k came)
arrived ns ms n k c at (Some x) came b e m l f = absurd (cc)
arrived ns ms n k c at None None b e m l f = absurd (cc)
arrived ns ms n k c at None (Some d) b e m l f =
    let same : d ≡ c = cc in
    rw (m, l, ← same) (new_way ns n k d f)

pub arrived_held : (ns ms : List Node) (n k c at : ℕ) (came : Option ℕ) → came ≡ Some c →
    ms ≡ ns ++ record { event = n; previous = c } ∷ [] → at ≡ length ns → IsFrom ns k came → IsHeld ms k (Some at)
arrived_held ns ms n k c at None e m l f = absurd (cc)
arrived_held ns ms n k c at (Some d) e m l f =
    let same : d ≡ c = cc in
    subst (λ (xs : List Node). IsHeld xs k (Some at)) (sym m)
    (subst (λ (i : ℕ). IsHeld (ns ++ record { event = n; previous = c } ∷ []) k (Some i)) (sym l)
    (subst (λ (i : ℕ). IsHeld (ns ++ record { event = n; previous = i } ∷ []) k (Some (length ns))) same (new_held ns n k d f)))

pub filled : (ns : List Node) (room : List ℕ) (j at left : ℕ) (whole : List ℕ) → left ≡ suc j → left ≤ length room → Held ns left at →
    onto (drop left room) (chain ns left at) ≡ whole →
    onto (drop j (set room j (node_at ns at).event)) (chain ns j (node_at ns at).previous) ≡ whole
filled ns room j at zero whole e le h o = absurd (omega arith)
filled ns room j at (suc k) whole e le h o =
    let same : k ≡ j = omega arith in
    let within : k < length room = omega arith in
    subst (λ (i : ℕ). onto (drop i (set room i (node_at ns at).event)) (chain ns i (node_at ns at).previous) ≡ whole) same
    (rw (drop-set room k (node_at ns at).event within, add-one) o)

pub held_below : (ns : List Node) (j at left : ℕ) → left ≡ suc j → Held ns left at → (at < length ns) × Held ns j (node_at ns at).previous
held_below ns j at zero e h = absurd (omega arith)
held_below ns j at (suc k) e h = let same : k ≡ j = omega arith in subst (λ (i : ℕ). (at < length ns) × Held ns i (node_at ns at).previous) same h
