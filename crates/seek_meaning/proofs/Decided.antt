-- The run that seeks decides exactly whether its values are sought.
use Rattle.std.proofs.Common.{◌≡◌, ◌↔◌, ◌<◌, ◌≤◌, ◌+◌, inl, inr, arith, ℕ, zero, suc, ℤ, Bool, true, false, cond, List, [], ◌∷◌, ◌++◌, length, reverse, refl, sym, ◌∙◌, ap, subst, true≢false}
use Rattle.c_core.specs.Tree.{Program}
use Rattle.c_core.specs.declared.number.Spot.{Spot}
use Rattle.c_meaning.specs.declared.run.End.{End}
use Rattle.c_meaning.specs.declared.run.End.TheVariants.{Ended, Undefined, Violated, Spent, Deep}
use Rattle.c_meaning.specs.declared.run.Choices.TheVariants.{InTurn}
use Rattle.c_meaning.specs.Acts.{Go, Stop, Flow}
use Rattle.c_meaning.specs.Run.{State, Told, Run, Whole, first_cells, most_cells, state_of}
use Rattle.c_bounds.specs.Bounds.{AreNeverMet}
use Rattle.way_match.specs.Points.{BoundSegment}
use Rattle.way_match.specs.Matching.{Seen as SeenEvent, seen_of, Matches}
use Rattle.seek_meaning.specs.Progress.{completes_all}
use Rattle.seek_meaning.specs.Bounded.{BoundedEnd, Within, Beyond, bounded_end, WholeBounded, StaysWithin, HasRoom}
use Rattle.seek_meaning.specs.Seeking.{Hits, Misses, SeekState, SeekRun, hits, draws_sought}
use Rattle.seek_meaning.specs.Sought.{Seeks, AreSought, IsShownIn, IsDecided}
use Rattle.seek_meaning.specs.Steps.{StepsWithin}
use Rattle.seek_meaning.proofs.Agreeing.{agrees}
use Rattle.seek_meaning.proofs.Following.{Seen, Result, Sought, leaving, IsSpent, IsMiss, completed_by, track, On, goes, violates, misses, deep, whole_takes, lt_or_more}
use Rattle.seek_meaning.proofs.Short.{short}
use Rattle.seek_meaning.proofs.Completed.{matched, one_more, completed_in_all}

abbrev Equal : {A : Type 0} → A → A → Type 0
Equal x y = x ≡ y

-- ---- ends told apart
abbrev is_spent : BoundedEnd → Bool
is_spent (Within Spent) = true
is_spent _ = false

abbrev is_violated : BoundedEnd → Bool
is_violated (Within (Violated spot)) = true
is_violated _ = false

abbrev is_beyond : BoundedEnd → Bool
is_beyond Beyond = true
is_beyond _ = false

abbrev as_end : BoundedEnd → End
as_end (Within e) = e
as_end Beyond = Spent

miss_apart : (e : BoundedEnd) → IsMiss e → (is_spent e ≡ false) × (is_violated e ≡ false)
miss_apart (Within Ended) h = (refl, refl)
miss_apart (Within (Undefined spot)) h = (refl, refl)
miss_apart (Within (Violated spot)) h = absurd h
miss_apart (Within Spent) h = absurd h
miss_apart (Within Deep) h = absurd h
miss_apart Beyond h = (refl, refl)

clash : (t : Bool) → t ≡ true → t ≡ false → ⊥
clash t h g = true≢false (sym h ∙ g)

end_leaving : {A : Type 0} (n : ℕ) (r : Result A) → bounded_end (leaving n r) ≡ bounded_end r
end_leaving n (Go x s) = refl
end_leaving n (Stop e s) = refl

draws_leaving : {A : Type 0} (n : ℕ) (r : Result A) → (state_of (leaving n r)).draws ≡ (state_of r).draws
draws_leaving n (Go x s) = refl
draws_leaving n (Stop e s) = refl

seen_leaving : {A : Type 0} (n : ℕ) (r : Result A) → (state_of (leaving n r)).seen ≡ (state_of r).seen
seen_leaving n (Go x s) = refl
seen_leaving n (Stop e s) = refl

end_of_spent : {A : Type 0} (r : Result A) → IsSpent r → bounded_end r ≡ Within Spent
end_of_spent r h = ap bounded_end h.1

-- a hit, or none
hit_or_miss : (t : Bool) (s : SeekState) → hits {A = Flow} (Stop (cond t Hits Misses) s) ≡ t
hit_or_miss true s = refl
hit_or_miss false s = refl

-- its events are those before the violation, and the violation
pub record Ends (p : Program) (ss : List BoundSegment) (k : ℕ) (r : Result Flow) (q : Sought Flow) : Type 0 where
  pub spot : Spot
  pub before : Seen
  pub last : SeenEvent
  pub violated : bounded_end r ≡ Within (Violated spot)
  pub seen : (state_of r).seen ≡ Told last.event last.cells ∷ before
  pub exact : hits q ≡ completes_all p ss last.event last.cells (completed_by p ss k before)

module _ (p : Program) (ss : List BoundSegment) (k : ℕ) where
  -- where the run that seeks hits there is a violation, or no room
  ends_hit : (r : Result Flow) (q : Sought Flow) → On p ss k Equal r q → hits q ≡ true → (bounded_end r ≡ Within Deep → ⊥) → Ends p ss k r q
  ends_hit _ _ (goes x y s vs e) h room = absurd (true≢false (sym h))
  ends_hit _ _ (violates spot e s vs) h room = record {
    spot = spot;
    before = s.seen;
    last = record { event = e; cells = s.cells };
    violated = refl;
    seen = refl;
    exact = hit_or_miss (completes_all p ss e s.cells (completed_by p ss k s.seen)) (track p ss k s vs);
  }
  ends_hit _ _ (misses e s vs x) h room = absurd (true≢false (sym h))
  ends_hit _ _ (deep s vs q) h room = absurd (room refl)

  ends_violated : (r : Result Flow) (q : Sought Flow) → On p ss k Equal r q → is_violated (bounded_end r) ≡ true → Ends p ss k r q
  ends_violated _ _ (goes x y s vs e) h = absurd (true≢false (sym h))
  ends_violated _ _ (violates spot e s vs) h = record {
    spot = spot;
    before = s.seen;
    last = record { event = e; cells = s.cells };
    violated = refl;
    seen = refl;
    exact = hit_or_miss (completes_all p ss e s.cells (completed_by p ss k s.seen)) (track p ss k s vs);
  }
  ends_violated _ _ (misses e s vs x) h = absurd (clash (is_violated e) h (miss_apart e x).1)
  ends_violated _ _ (deep s vs q) h = absurd (true≢false (sym h))

  same_draws : (r : Result Flow) (q : Sought Flow) → On p ss k Equal r q → is_violated (bounded_end r) ≡ true → draws_sought q ≡ (state_of r).draws
  same_draws _ _ (goes x y s vs e) h = refl
  same_draws _ _ (violates spot e s vs) h = refl
  same_draws _ _ (misses e s vs x) h = refl
  same_draws _ _ (deep s vs q) h = absurd (true≢false (sym h))

  -- the events of a run that was seen so match exactly where the last completes all segments
  matched_so : (seen before : Seen) (last : SeenEvent) → seen ≡ Told last.event last.cells ∷ before
      → (completes_all p ss last.event last.cells (completed_by p ss k before) ≡ true) ↔ ((ns : List ℕ) × Matches p ss (seen_of (reverse seen)) ns)
  matched_so seen before last e =
      let events : seen_of (reverse before) ++ last ∷ [] ≡ seen_of (reverse seen) = sym (ap (λ xs. seen_of (reverse xs)) e ∙ one_more (Told last.event last.cells) before) in
      let m = matched p ss (seen_of (reverse before)) last in
      let same = ap (completes_all p ss last.event last.cells) (completed_in_all p ss k before) in
      (λ h. subst (λ es. (ns : List ℕ) × Matches p ss es ns) events (m.0 (sym same ∙ h)), λ h. same ∙ m.1 (subst (λ es. (ns : List ℕ) × Matches p ss es ns) (sym events) h))

  module _ (never : AreNeverMet p) (w : List ℤ) where
    abbrev q : Sought Flow
    q = SeekRun p ss k w

    -- a violation within the bound is one with steps enough
    violated_with : (N : ℕ) (spot : Spot) → bounded_end (WholeBounded p k (InTurn w) N) ≡ Within (Violated spot)
        → (r : Result Flow) × On p ss k Equal r q × (is_violated (bounded_end r) ≡ true) × ((state_of (WholeBounded p k (InTurn w) N)).seen ≡ (state_of r).seen) × ((state_of (WholeBounded p k (InTurn w) N)).draws ≡ (state_of r).draws)
    violated_with N spot h =
        let t = whole_takes p ss k w in
        elim (lt_or_more p ss k N t.steps) [
          | inl less ↦ absurd (true≢false (sym (ap is_spent (end_of_spent (WholeBounded p k (InTurn w) N) (t.fewer N less))) ∙ ap is_spent h))
          | inr more ↦
              let same : WholeBounded p k (InTurn w) N ≡ leaving more.0 t.gives = ap (λ n. WholeBounded p k (InTurn w) n) more.1 ∙ t.enough more.0 in
              let end : bounded_end t.gives ≡ Within (Violated spot) = sym (ap bounded_end same ∙ end_leaving more.0 t.gives) ∙ h in
              (t.gives, t.on, ap is_violated end, ap (λ (r : Result Flow). (state_of r).seen) same ∙ seen_leaving more.0 t.gives, ap (λ (r : Result Flow). (state_of r).draws) same ∙ draws_leaving more.0 t.gives)
        ]

    -- what stays within the bound and violates the property
    within_of : (N : ℕ) (spot : Spot) → StaysWithin p k (InTurn w) N → (Run p (InTurn w) N).end ≡ Violated spot → bounded_end (WholeBounded p k (InTurn w) N) ≡ Within (Violated spot)
    within_of N spot stays h = (agrees p never k (InTurn w) N stays).end ∙ ap Within h

    -- a hit is shown with as many steps as serve, and with any more
    shown_with : HasRoom p k w → hits q ≡ true → (more : ℕ) → IsShownIn p ss k w ((whole_takes p ss k w).steps + more)
    shown_with room h more =
        let t = whole_takes p ss k w in
        let N : ℕ = t.steps + more in
        let same : WholeBounded p k (InTurn w) N ≡ leaving more t.gives = t.enough more in
        let end : bounded_end (WholeBounded p k (InTurn w) N) ≡ bounded_end t.gives = ap bounded_end same ∙ end_leaving more t.gives in
        let e : Ends p ss k t.gives q = ends_hit t.gives q t.on h (λ z. room N (end ∙ z)) in
        let violated : bounded_end (WholeBounded p k (InTurn w) N) ≡ Within (Violated e.spot) = end ∙ e.violated in
        let stays : StaysWithin p k (InTurn w) N = λ z. true≢false (sym (ap is_beyond z) ∙ ap is_beyond violated) in
        let run = agrees p never k (InTurn w) N stays in
        let seen : (state_of t.gives).seen ≡ (state_of (Whole p (InTurn w) N)).seen = sym (ap (λ (r : Result Flow). (state_of r).seen) same ∙ seen_leaving more t.gives) ∙ ap (λ (s : State Seen). s.seen) run.state in
        let m = (matched_so (state_of t.gives).seen e.before e.last e.seen).0 (sym e.exact ∙ h) in
        record {
          positions = m.0;
          found = record {
            bounded = record { budget = N; violated = (e.spot, ap as_end (sym run.end ∙ violated)); stays = stays };
            matched = subst (λ xs. Matches p ss (seen_of (reverse xs)) m.0) seen m.1;
          };
          budget = refl;
        }

    found : HasRoom p k w → hits q ≡ true → AreSought p ss k w
    found room h = let s = shown_with room h 0 in (s.positions, s.found)

    exactly : AreSought p ss k w → hits q ≡ true
    exactly (positions, f) =
        let N = f.bounded.budget in
        let spot = f.bounded.violated.0 in
        let v = violated_with N spot (within_of N spot f.bounded.stays f.bounded.violated.1) in
        let e : Ends p ss k v.0 q = ends_violated v.0 q v.1 v.2 in
        let run = agrees p never k (InTurn w) N f.bounded.stays in
        let seen : (state_of (Whole p (InTurn w) N)).seen ≡ (state_of v.0).seen = sym (ap (λ (s : State Seen). s.seen) run.state) ∙ v.3 in
        let m : Matches p ss (seen_of (reverse (state_of v.0).seen)) positions = subst (λ xs. Matches p ss (seen_of (reverse xs)) positions) seen f.matched in
        e.exact ∙ (matched_so (state_of v.0).seen e.before e.last e.seen).1 (positions, m)

    drawn : (positions : List ℕ) (f : Seeks p ss k w positions) → draws_sought q ≡ (Run p (InTurn w) f.bounded.budget).draws
    drawn positions f =
        let N = f.bounded.budget in
        let spot = f.bounded.violated.0 in
        let v = violated_with N spot (within_of N spot f.bounded.stays f.bounded.violated.1) in
        let run = agrees p never k (InTurn w) N f.bounded.stays in
        same_draws v.0 q v.1 v.2 ∙ sym v.4 ∙ ap (λ (s : State Seen). s.draws) run.state

pub decided : (p : Program) → AreNeverMet p → (ss : List BoundSegment) (k : ℕ) (w : List ℤ) → HasRoom p k w → IsDecided p ss k w
decided p never ss k w room = record { exact = (found p ss k never w room, exactly p ss k never w); draws = drawn p ss k never w }

-- a run that takes as many steps as serve takes no more than are enough
at_most : (p : Program) (k : ℕ) (w : List ℤ) (steps : ℕ) → ((n : ℕ) → n < steps → IsSpent (WholeBounded p k (InTurn w) n)) → steps ≤ StepsWithin p k
at_most p k w zero fewer = omega arith
at_most p k w (suc n) fewer = let h : n < StepsWithin p k = (short p k (InTurn w) n).steps (end_of_spent (WholeBounded p k (InTurn w) n) (fewer n (omega arith))) in omega (arith, h)

-- a hit is shown with each number of steps that is enough
pub shown : (p : Program) → AreNeverMet p → (ss : List BoundSegment) (k : ℕ) (w : List ℤ) → HasRoom p k w → hits (SeekRun p ss k w) ≡ true → (N : ℕ) → StepsWithin p k ≤ N → IsShownIn p ss k w N
shown p never ss k w room h N enough =
    let t = whole_takes p ss k w in
    let few : t.steps ≤ StepsWithin p k = at_most p k w t.steps t.fewer in
    elim (lt_or_more p ss k N t.steps) [
      | inl less ↦ absurd (omega (arith, few, enough, less))
      | inr more ↦ subst (IsShownIn p ss k w) (sym more.1) (shown_with p ss k never w room h more.0)
    ]

-- where all cells that its steps may bring to life have room, a run has room, whatever its budget
pub have_room : (p : Program) (k : ℕ) → length (first_cells p) + StepsWithin p k ≤ most_cells → (w : List ℤ) → HasRoom p k w
have_room p k room w N h =
    let t = whole_takes p [] k w in
    let few : t.steps ≤ StepsWithin p k = at_most p k w t.steps t.fewer in
    elim (lt_or_more p [] k N t.steps) [
      | inl less ↦ true≢false (sym (ap is_spent (end_of_spent (WholeBounded p k (InTurn w) N) (t.fewer N less))) ∙ ap is_spent h)
      | inr more ↦
          let same : WholeBounded p k (InTurn w) N ≡ leaving more.0 t.gives = ap (λ n. WholeBounded p k (InTurn w) n) more.1 ∙ t.enough more.0 in
          let end : bounded_end t.gives ≡ Within Deep = sym (ap bounded_end same ∙ end_leaving more.0 t.gives) ∙ h in
          let first : bounded_end (WholeBounded p k (InTurn w) (t.steps + 0)) ≡ Within Deep = ap bounded_end (t.enough 0) ∙ end_leaving 0 t.gives ∙ end in
          let crowded : most_cells < length (first_cells p) + (t.steps + 0) = (short p k (InTurn w) (t.steps + 0)).room first in
          absurd (omega (arith, few, room, crowded))
    ]
