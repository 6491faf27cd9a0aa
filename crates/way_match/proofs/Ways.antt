-- The steps keep exactly the segments that some fitting positions have completed.
use Rattle.c_core.specs.Tree.{Program}
use Rattle.std.proofs.Common.{◌≡◌, ◌⊎◌, inl, inr, ℕ, suc, ◌<◌, ◌≤◌, Bool, true, false, not, ◌&&◌, ◌||◌, List, [], ◌∷◌, Option, Some, None, slice_get, refl, sym, ◌∙◌, ap, subst, arith}
use Rattle.way_match.specs.Points.{Point, BoundSegment}
use Rattle.way_match.specs.Passing.{passes_any, is_assumption}
use Rattle.way_match.specs.Matching.{Seen, seen_passes, seen_passes_any, Rises, Avoids}
use Rattle.way_match.specs.inside.Steps.{is_there, only_if, way_now, step}

-- the number of events up to the last position, positions being last first
abbrev pub next : List ℕ → ℕ
next [] = 0
next (p ∷ qs) = suc p

abbrev pub assumed : List BoundSegment → Bool
assumed [] = false
assumed (s ∷ rs) = is_assumption s.follow

-- positions that fit the segments, both last first
abbrev pub Way : Program → List Seen → List BoundSegment → List ℕ → Type 0
Way pr es [] [] = Unit {0}
Way pr es (s ∷ rs) (p ∷ qs) =
    (seen_passes pr (slice_get es p) s.follow ≡ true) × Rises (record { events = next qs; assumes = assumed rs }) p s.follow ×
    Avoids pr es s.avoids (next qs) (suc p) × Way pr es rs qs
Way pr es [] (p ∷ qs) = ⊥
Way pr es (s ∷ rs) [] = ⊥

abbrev pub Idle : Program → List Seen → ℕ → List BoundSegment → ℕ → Type 0
Idle pr es n [] from = from ≡ n
Idle pr es n (s ∷ ss) from = Avoids pr es s.avoids from n

-- of n events, with what is to come after
pub record Live (pr : Program) (es : List Seen) (n : ℕ) (rs ss : List BoundSegment) (qs : List ℕ) : Type 0 where
  pub way : Way pr es rs qs
  pub within : next qs ≤ n
  pub idle : Idle pr es n ss (next qs)

pub record Lasts (pr : Program) (es : List Seen) (n : ℕ) (rs : List BoundSegment) (s : BoundSegment) (qs : List ℕ) : Type 0 where
  pub way : Way pr es rs qs
  pub within : next qs ≤ n
  pub idle : Avoids pr es s.avoids (next qs) (suc n)

-- a way exactly where there is one
abbrev pub Exactly : (List ℕ → Type 0) → Option (List ℕ) → Type 0
Exactly P (Some qs) = P qs
Exactly P None = (qs : List ℕ) → P qs → ⊥

abbrev pub Right : Program → List Seen → ℕ → List BoundSegment → List BoundSegment → Option (List ℕ) → Type 0
Right pr es n rs ss w = Exactly (λ qs. Live pr es n rs ss qs) w

abbrev pub Kept : Program → List Seen → ℕ → List BoundSegment → BoundSegment → Option (List ℕ) → Type 0
Kept pr es n rs s w = Exactly (λ qs. Lasts pr es n rs s qs) w

abbrev pub Came : Program → List Seen → ℕ → List BoundSegment → Option (List ℕ) → Type 0
Came pr es n rs a = Exactly (λ qs. Way pr es rs (n ∷ qs)) a

abbrev pub Rights : Program → List Seen → ℕ → List BoundSegment → List BoundSegment → List (Option (List ℕ)) → Type 0
Rights pr es n rs [] (w ∷ []) = Right pr es n rs [] w
Rights pr es n rs (s ∷ ss) (w ∷ ws) = Right pr es n rs (s ∷ ss) w × Rights pr es n (s ∷ rs) ss ws
Rights pr es n rs [] [] = ⊥
Rights pr es n rs [] (w ∷ v ∷ ws) = ⊥
Rights pr es n rs (s ∷ ss) [] = ⊥

lt_or_eq : (j n : ℕ) → j < suc n → (j < n) ⊎ (j ≡ n)
lt_or_eq j n h = grind arith

le_or_eq : (j n : ℕ) → j ≤ suc n → (j ≤ n) ⊎ (j ≡ suc n)
le_or_eq j n h = grind arith

clash : (b : Bool) → b ≡ true → b ≡ false → ⊥
clash b h k = cc

-- idle for one event more, exactly where that event passes none
longer : (pr : Program) (es : List Seen) (n : ℕ) (ps : List Point) (from : ℕ) → Avoids pr es ps from n → seen_passes_any pr (slice_get es n) ps ≡ false → Avoids pr es ps from (suc n)
longer pr es n ps from h last j lo hi = elim (lt_or_eq j n hi) as (λ v. seen_passes_any pr (slice_get es j) ps ≡ false) [
  | inl lt ↦ h j lo lt
  | inr e ↦ subst (λ (i : ℕ). seen_passes_any pr (slice_get es i) ps ≡ false) (sym e) last
]

pub kept : (pr : Program) (es : List Seen) (n : ℕ) (rs ss : List BoundSegment) (s : BoundSegment) (b : Bool) (w : Option (List ℕ)) →
    b ≡ seen_passes_any pr (slice_get es n) s.avoids → Right pr es n rs (s ∷ ss) w → Kept pr es n rs s (only_if (not b) w)
kept pr es n rs ss s true w e r = λ qs l. clash true refl (e ∙ l.idle n l.within (omega arith))
kept pr es n rs ss s false (Some qs) e r = record { way = r.way; within = r.within; idle = longer pr es n s.avoids (next qs) r.idle (sym e) }
kept pr es n rs ss s false None e r = λ qs l. r qs (record { way = l.way; within = l.within; idle = λ j lo hi. l.idle j lo (omega arith) })

-- a way whose last position is the last event
pub ends : (pr : Program) (es : List Seen) (n : ℕ) (rs : List BoundSegment) (qs : List ℕ) → Way pr es rs qs → next qs ≡ suc n →
    Came pr es n rs None → ⊥
ends pr es n rs [] w e none = absurd (omega arith)
ends pr es n rs (p ∷ qs) w e none =
    let same : p ≡ n = omega arith in
    none qs (subst (λ (i : ℕ). Way pr es rs (i ∷ qs)) same w)

pub now_end : (pr : Program) (es : List Seen) (n : ℕ) (rs : List BoundSegment) (a : Option (List ℕ)) → Came pr es n rs a → Right pr es (suc n) rs [] (way_now n None a)
now_end pr es n rs (Some qs) c = record { way = c; within = omega arith; idle = refl }
now_end pr es n rs None c = λ qs l. ends pr es n rs qs l.way l.idle c

pub now_right : (pr : Program) (es : List Seen) (n : ℕ) (rs ss : List BoundSegment) (s : BoundSegment) (st a : Option (List ℕ)) →
    Kept pr es n rs s st → Came pr es n rs a → Right pr es (suc n) rs (s ∷ ss) (way_now n st a)
now_right pr es n rs ss s (Some qs) a k c = record { way = k.way; within = omega (arith, k.within); idle = k.idle }
now_right pr es n rs ss s None (Some qs) k c = record { way = c; within = omega arith; idle = λ j lo hi. absurd (omega arith) }
now_right pr es n rs ss s None None k c = λ qs l.
    elim (le_or_eq (next qs) n l.within) [
      | inl le ↦ k qs (record { way = l.way; within = le; idle = l.idle })
      | inr e ↦ ends pr es n rs qs l.way e c
    ]

-- whether the event moves a way past the next segment
pub came : (pr : Program) (es : List Seen) (n : ℕ) (rs : List BoundSegment) (s : BoundSegment) (st a : Option (List ℕ)) (f sh am : Bool) →
    f ≡ seen_passes pr (slice_get es n) s.follow → sh ≡ assumed rs → am ≡ is_assumption s.follow →
    Kept pr es n rs s st → Came pr es n rs a → Came pr es n (s ∷ rs) (only_if (f && (is_there st || (sh && am))) (way_now n st a))
came pr es n rs s st a false sh am fe ae me k c = λ qs w. clash false (fe ∙ w.0) refl
came pr es n rs s (Some qs) a true sh am fe ae me k c = (sym fe, inl k.within, k.idle, k.way)
came pr es n rs s None (Some qs) true true true fe ae me k c = (sym fe, inr (refl, sym ae, sym me), (λ j lo hi. absurd (omega arith)), c)
came pr es n rs s None None true true true fe ae me k c = λ qs w. elim w.1 [
  | inl le ↦ k qs (record { way = w.3; within = le; idle = w.2 })
  | inr e ↦ ends pr es n rs qs w.3 (sym e.0) c
]
came pr es n rs s None a true false am fe ae me k c = λ qs w. elim w.1 [
  | inl le ↦ k qs (record { way = w.3; within = le; idle = w.2 })
  | inr e ↦ clash false (ae ∙ e.1) refl
]
came pr es n rs s None a true true false fe ae me k c = λ qs w. elim w.1 [
  | inl le ↦ k qs (record { way = w.3; within = le; idle = w.2 })
  | inr e ↦ clash false (me ∙ e.2) refl
]

pub steps : (pr : Program) (es : List Seen) (n : ℕ) (e : Seen) → slice_get es n ≡ Some e → (ss rs : List BoundSegment) (a : Option (List ℕ)) (ws : List (Option (List ℕ))) →
    Came pr es n rs a → Rights pr es n rs ss ws → Rights pr es (suc n) rs ss (step pr e n a (assumed rs) ss ws)
steps pr es n e h [] rs a [] c r = r
steps pr es n e h [] rs a (w ∷ []) c r = now_end pr es n rs a c
steps pr es n e h [] rs a (w ∷ v ∷ ws) c r = absurd r
steps pr es n e h (s ∷ ss) rs a [] c r = r
steps pr es n e h (s ∷ ss) rs a (w ∷ ws) c r =
    let st : Option (List ℕ) = only_if (not (passes_any pr s.avoids e.event e.cells)) w in
    let k : Kept pr es n rs s st = kept pr es n rs ss s _ w (sym (ap (λ (o : Option Seen). seen_passes_any pr o s.avoids) h)) r.0 in (
      now_right pr es n rs ss s st a k c,
      steps pr es n e h ss (s ∷ rs) _ ws (came pr es n rs s st a _ _ _ (sym (ap (λ (o : Option Seen). seen_passes pr o s.follow) h)) refl refl k c) r.1,
    )
