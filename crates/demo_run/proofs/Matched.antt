-- The run of a demo's faulty program passes the segments of its witness.
use Rattle.std.proofs.Common.{◌≡◌, ◌<◌, ◌≤◌, ◌+◌, ◌^◌, inl, ℕ, pos, true, false, List, [], ◌∷◌, ◌++◌, length, reverse, Option, Some, None, slice_get, refl, sym, ap, ◌∙◌, subst, arith, suc-add, zero-add, length-append, le-ltb}
use mathlib.Core.List.{reverse_aux-eq}
use Rattle.c_core.specs.Places.{call_at}
use Rattle.c_core.specs.Tree.{Stms, Program}
use Rattle.c_core.specs.declared.number.Spot.{Spot}
use Rattle.c_core.specs.declared.tree.Object.{Object}
use Rattle.c_meaning.specs.declared.run.Event.TheVariants as event
use Rattle.c_meaning.specs.declared.run.Way.TheVariants.{Truth}
use Rattle.c_meaning.specs.Acts.{Flow}
use Rattle.c_meaning.specs.Cells.{Cell}
use Rattle.c_meaning.specs.Replay.{values_of}
use Rattle.c_meaning.specs.Run.{Moment, Told, Here, Head, Whole, end_of, state_of}
use Rattle.way_match.specs.Given.{RunGiven, given_by, input_calls}
use Rattle.way_match.specs.Matching.{Seen, seen_of, seen_passes, seen_passes_any, Matches}
use Rattle.way_match.specs.Points.{BoundSegment}
use Rattle.way_match.specs.Verdicts.{IsGivenViolation}
use Rattle.demo_run.specs.Typed.{input_call, main_alone}
use Rattle.demo_run.specs.Segments.{gives, violates, segments_at}
use Rattle.demo_run.proofs.States.{Sights, Ran}
use Rattle.demo_run.proofs.Evaluating.{kept}
use Rattle.demo_run.proofs.Ending.{same_place, one_input, with_y, last_seen}
use Rattle.demo_run.proofs.Calls.{one_call}
use Rattle.demo_run.proofs.Running.{Violates}

-- ---- events

seen_of-append : (xs ys : List Moment) → seen_of (xs ++ ys) ≡ seen_of xs ++ seen_of ys
seen_of-append [] ys = refl
seen_of-append (Told e cs ∷ xs) ys = ap (λ es. record { event = e; cells = cs } ∷ es) (seen_of-append xs ys)
seen_of-append (Here at cs ∷ xs) ys = seen_of-append xs ys
seen_of-append (Head at l a cs ∷ xs) ys = seen_of-append xs ys

-- the last sights in the order in which they were seen
abbrev pub in_order : ℕ → ℕ → (ℕ → Spot) → (ℕ → Spot) → List Cell → List Moment
in_order o n w v cs =
    Here (w 0) cs ∷ Told (event.At (w 0)) cs ∷ Told (event.Enter (w 5)) (with_y o 0 cs) ∷ Told (event.Return (w 5) (Some (pos n))) (with_y o 0 cs) ∷
    Here (v 0) (with_y o n cs) ∷ Told (event.At (v 0)) (with_y o n cs) ∷ Told (event.Branch (v 0) (Truth true)) (with_y o n cs) ∷
    Here (v 6) (with_y o n cs) ∷ Told (event.At (v 6)) (with_y o n cs) ∷ Here (v 7) (with_y o n cs) ∷ Told (event.At (v 7)) (with_y o n cs) ∷
    Told (event.Enter (v 9)) (with_y o n cs) ∷ Told (event.Fail (v 7) (v 7) (Some (v 7))) (with_y o n cs) ∷ []

-- the events before them, and theirs
split : (o n : ℕ) (w v : ℕ → Spot) (cs : List Cell) (front : Sights) →
    seen_of (reverse (last_seen o n w v cs front)) ≡ seen_of (reverse front) ++ seen_of (in_order o n w v cs)
split o n w v cs front = ap seen_of (reverse_aux-eq front (in_order o n w v cs)) ∙ seen_of-append (reverse front) (in_order o n w v cs)

slice_behind : {A : Type 0} (xs ys : List A) (i : ℕ) → slice_get (xs ++ ys) (length xs + i) ≡ slice_get ys i
slice_behind [] ys i = ap (slice_get ys) (zero-add i)
slice_behind (x ∷ xs) ys i = ap (slice_get (x ∷ (xs ++ ys))) (suc-add (length xs) i) ∙ slice_behind xs ys i

-- no waypoint is to be avoided
none_avoided : (p : Program) (s : Option Seen) → seen_passes_any p s [] ≡ false
none_avoided p None = refl
none_avoided p (Some s) = refl

-- ---- given values

module _ (objects : List Object) (body : Stms) (n : ℕ) (at : Spot) (w v : ℕ → Spot) (small : n < 2 ^ 31) (there : call_at (main_alone objects body) (w 5) ≡ Some (input_call w)) where
  abbrev P : Program
  P = main_alone objects body

  abbrev segments : List BoundSegment
  segments = segments_at n at (w 5) (v 7)

  -- the witness gives n to the input
  given_once : input_calls P ≡ one_call (w 3) ∷ [] → given_by P segments ≡ one_input (w 3) n
  given_once once = rw (once, there, same_place (w 3), kept n small) refl

  -- ---- matching

  returns : (cs : List Cell) → seen_passes P (Some (record { event = event.Return (w 5) (Some (pos n)); cells = cs })) (gives n at (w 5)).follow ≡ true
  returns cs = let same : n ≤ n = omega arith in rw (same_place (w 5), there, kept n small, le-ltb n n same) refl

  fails : (cs : List Cell) → seen_passes P (Some (record { event = event.Fail (v 7) (v 7) (Some (v 7)); cells = cs })) (violates (v 7)).follow ≡ true
  fails cs = rw (same_place (v 7)) refl

  matched_behind : (o : ℕ) (cs : List Cell) (before : List Seen) → Matches P segments (before ++ seen_of (in_order o n w v cs)) ((length before + 2) ∷ (length before + 8) ∷ [])
  matched_behind o cs before =
      let after : List Seen = seen_of (in_order o n w v cs) in
      let m = length before in
      let size = length-append before after in
      let nine : length after ≡ 9 = refl in (
        ap (λ s. seen_passes P s (gives n at (w 5)).follow) (slice_behind before after 2) ∙ returns (with_y o 0 cs),
        inl (omega arith),
        (λ i low high. none_avoided P (slice_get (before ++ after) i)),
        (
          ap (λ s. seen_passes P s (violates (v 7)).follow) (slice_behind before after 8) ∙ fails (with_y o n cs),
          inl (omega arith),
          (λ i low high. none_avoided P (slice_get (before ++ after) i)),
          omega (arith, size, nine),
        ),
      )

  pub given_violates : (o N : ℕ) → input_calls P ≡ one_call (w 3) ∷ [] → Violates P o n w v N → IsGivenViolation P segments N
  given_violates o N once h =
      let run = ap (λ c. Whole P c N) (given_once once) ∙ h.is in
      let events = ap (λ (r : Ran Flow). seen_of (reverse (state_of r).seen)) run ∙ split o n w v h.cells h.front in
      let before = seen_of (reverse h.front) in
      record {
        violated = (v 7, ap end_of run);
        matched = (
          (length before + 2) ∷ (length before + 8) ∷ [],
          subst (λ es. Matches P segments es ((length before + 2) ∷ (length before + 8) ∷ [])) (sym events) (matched_behind o h.cells before),
        );
      }

  -- and draws n alone
  pub given_draws : (o N : ℕ) → input_calls P ≡ one_call (w 3) ∷ [] → Violates P o n w v N → values_of (RunGiven P segments N).draws ≡ pos n ∷ []
  given_draws o N once h = ap (λ (r : Ran Flow). values_of (state_of r).draws) (ap (λ c. Whole P c N) (given_once once) ∙ h.is)
