-- The test of positions says yes exactly where they match.
use Rattle.std.proofs.Common.{◌≡◌, ◌⊎◌, ◌↔◌, inl, inr, ℕ, zero, suc, ◌+◌, ◌<◌, ◌≤◌, Bool, true, false, not, nat_eq, nat_le, nat_lt, List, [], ◌∷◌, length, slice_get, ◌||◌, refl, ap, arith}
use Rattle.std.proofs.lemmas.Bool.{leb-true, le-leb, leb-false, ltb-true, ltb-false, eqb-true, eq-eqb, and_parts as both, and_from as and_of, or_left, or_right}
use Rattle.c_core.specs.Tree.{Program}
use Rattle.way_match.specs.Points.{Point, BoundSegment}
use Rattle.way_match.specs.Passing.{passes_any, is_assumption}
use Rattle.way_match.specs.Matching.{Seen, seen_passes, seen_passes_any, Before, at_start, Rises, Avoids, MatchesFrom, Matches, rises, avoids_from, matches_from, matches}

no_yes : {A : Type 0} → false ≡ true → A
no_yes e = absurd (let x : false ≡ true = e in cc)

either : (a b : Bool) → (a || b) ≡ true → (a ≡ true) ⊎ (b ≡ true)
either true b e = inl refl
either false b e = inr e

not_true : (a : Bool) → not a ≡ true → a ≡ false
not_true true e = no_yes e
not_true false e = refl

rises_if : (b : Before) (n : ℕ) (follow : Point) → rises b n follow ≡ true → Rises b n follow
rises_if b n follow e = elim (either (nat_le b.events n) _ e) as (λ _. Rises b n follow) [
  | inl h ↦ inl (leb-true b.events n h)
  | inr h ↦ let x = both (nat_eq (suc n) b.events) _ h in let y = both b.assumes _ x.1 in inr (eqb-true (suc n) b.events x.0, y.0, y.1)
]

rises_of : (b : Before) (n : ℕ) (follow : Point) → Rises b n follow → rises b n follow ≡ true
rises_of b n follow r = elim r as (λ _. rises b n follow ≡ true) [
  | inl h ↦ or_left (nat_le b.events n) _ (le-leb b.events n h)
  | inr h ↦ or_right (nat_le b.events n) _ (and_of (nat_eq (suc n) b.events) _ (eq-eqb (suc n) b.events h.0) (and_of b.assumes _ h.1 h.2))
]

-- of events numbered from k on
abbrev Clear : Program → List Point → ℕ → ℕ → ℕ → List Seen → Type 0
Clear p avoids from to k es = (j : ℕ) → from ≤ k + j → k + j < to → seen_passes_any p (slice_get es j) avoids ≡ false

-- the first of them
first_clear : (a : Bool) (from to k : ℕ) → (nat_lt k from || (nat_le to k || not a)) ≡ true → from ≤ k → k < to → a ≡ false
first_clear a from to k e f t = elim (either (nat_lt k from) _ e) as (λ _. a ≡ false) [
  | inl h ↦ let l : k < from = ltb-true k from h in absurd (omega arith)
  | inr h ↦ elim (either (nat_le to k) _ h) as (λ _. a ≡ false) [
    | inl g ↦ let l : to ≤ k = leb-true to k g in absurd (omega arith)
    | inr g ↦ not_true a g
  ]
]

avoids_if : (p : Program) (avoids : List Point) (from to k : ℕ) (es : List Seen) → avoids_from p avoids from to k es ≡ true → Clear p avoids from to k es
avoids_if p avoids from to k [] e j f t = refl
avoids_if p avoids from to k (x ∷ es) e zero f t = first_clear (passes_any p avoids x.event x.cells) from to k (both _ _ e).0 (omega arith) (omega arith)
avoids_if p avoids from to k (x ∷ es) e (suc j) f t = avoids_if p avoids from to (suc k) es (both _ _ e).1 j (omega arith) (omega arith)

clear_first : (a : Bool) (from to k : ℕ) → (from ≤ k → k < to → a ≡ false) → (nat_lt k from || (nat_le to k || not a)) ≡ true
clear_first a from to k h = by_low (nat_lt k from) refl
  where
    by_high : (b : Bool) → nat_le to k ≡ b → from ≤ k → (b || not a) ≡ true
    by_high true e f = refl
    by_high false e f = ap not (h f (leb-false to k e))

    by_low : (b : Bool) → nat_lt k from ≡ b → (b || (nat_le to k || not a)) ≡ true
    by_low true e = refl
    by_low false e = by_high (nat_le to k) refl (below e)
      where
        below : nat_lt k from ≡ false → from ≤ k
        below q = ltb-false k from q

avoids_of : (p : Program) (avoids : List Point) (from to k : ℕ) (es : List Seen) → Clear p avoids from to k es → avoids_from p avoids from to k es ≡ true
avoids_of p avoids from to k [] h = refl
avoids_of p avoids from to k (x ∷ es) h =
    and_of (nat_lt k from || (nat_le to k || not (passes_any p avoids x.event x.cells))) (avoids_from p avoids from to (suc k) es)
    (clear_first (passes_any p avoids x.event x.cells) from to k (λ f t. h 0 (omega arith) (omega arith)))
    (avoids_of p avoids from to (suc k) es (λ j f t. h (suc j) (omega arith) (omega arith)))

avoids_all : (p : Program) (es : List Seen) (avoids : List Point) (from to : ℕ) → Clear p avoids from to 0 es → Avoids p es avoids from to
avoids_all p es avoids from to h n f t = h n (omega arith) (omega arith)

all_avoid : (p : Program) (es : List Seen) (avoids : List Point) (from to : ℕ) → Avoids p es avoids from to → Clear p avoids from to 0 es
all_avoid p es avoids from to h n f t = h n (omega arith) (omega arith)

matched_if : (p : Program) (b : Before) (ss : List BoundSegment) (es : List Seen) (ns : List ℕ) → matches_from p b ss es ns ≡ true → MatchesFrom p b ss es ns
matched_if p b [] es [] e = eqb-true b.events (length es) e
matched_if p b [] es (n ∷ ns) e = no_yes e
matched_if p b (s ∷ ss) es [] e = no_yes e
matched_if p b (s ∷ ss) es (n ∷ ns) e =
    let x = both (seen_passes p (slice_get es n) s.follow) _ e in
    let y = both (rises b n s.follow) _ x.1 in
    let z = both (avoids_from p s.avoids b.events (suc n) 0 es) _ y.1 in
    (x.0, rises_if b n s.follow y.0, avoids_all p es s.avoids b.events (suc n) (avoids_if p s.avoids b.events (suc n) 0 es z.0), matched_if p (record { events = suc n; assumes = is_assumption s.follow }) ss es ns z.1)

matched_of : (p : Program) (b : Before) (ss : List BoundSegment) (es : List Seen) (ns : List ℕ) → MatchesFrom p b ss es ns → matches_from p b ss es ns ≡ true
matched_of p b [] es [] m = eq-eqb b.events (length es) m
matched_of p b [] es (n ∷ ns) m = absurd m
matched_of p b (s ∷ ss) es [] m = absurd m
matched_of p b (s ∷ ss) es (n ∷ ns) m =
    and_of (seen_passes p (slice_get es n) s.follow) _ m.0 (and_of (rises b n s.follow) _ (rises_of b n s.follow m.1)
    (and_of (avoids_from p s.avoids b.events (suc n) 0 es) _ (avoids_of p s.avoids b.events (suc n) 0 es (all_avoid p es s.avoids b.events (suc n) m.2))
    (matched_of p (record { events = suc n; assumes = is_assumption s.follow }) ss es ns m.3)))

pub tested : (p : Program) (ss : List BoundSegment) (es : List Seen) (ns : List ℕ) → (matches p ss es ns ≡ true) ↔ Matches p ss es ns
tested p ss es ns = (matched_if p at_start ss es ns, matched_of p at_start ss es ns)
