-- The given run of a demo's faulty program violates the property and passes its witness's segments.
use Rattle.std.proofs.Common.{◌≡◌, ◌<◌, ◌≤◌, ◌+◌, ◌*◌, ◌^◌, ℕ, pos, List, [], ◌∷◌, length, Option, Some, None, sym, ap, subst, arith}
use Rattle.std.specs.List.{AllByRecursion}
use Rattle.c_core.specs.declared.number.DataModel.TheVariants.{Ilp32}
use Rattle.c_core.specs.declared.number.Property.TheVariants.{UnreachCall}
use Rattle.c_core.specs.declared.number.Spot.{Spot}
use Rattle.check_rules.specs.Checked.{program_of}
use Rattle.c_core.specs.Tree.{Program}
use Rattle.c_meaning.specs.Replay.{values_of}
use Rattle.c_meaning.specs.declared.verdict.Verdict.{Verdict}
use Rattle.way_match.specs.Given.{RunGiven, SeenGiven}
use Rattle.way_match.specs.Matching.{Finds}
use Rattle.way_match.specs.Points.{BoundSegment}
use Rattle.way_match.specs.Verdicts.{IsGivenViolation, IsRightAt, IsRightOnViolation, verdict_at}
use Rattle.wv_author.specs.Sequence.{bounds, loop_count}
use Rattle.demo_laws.specs.Bounds.{IsBound, AreBounds}
use Rattle.demo_laws.specs.Lines.{spot}
use Rattle.demo_laws.specs.Source.{drawn_at, chosen_at, correct_items, faulty_items, line_behind}
use Rattle.demo_run.specs.Segments.{Confirms, segments_at, demo_segments}
use Rattle.demo_run.specs.Typed.{faulty_objects, faulty_rest, correct_typed, faulty_typed, loops}
use Rattle.demo_laws.proofs.Bounds.{bounds_count, bounds_fit}
use Rattle.demo_run.proofs.Calls.{call_there, drawn_once}
use Rattle.demo_run.proofs.Elaborated.{correct_program_of, faulty_program_of}
use Rattle.demo_run.proofs.Matched.{given_violates, given_draws}
use Rattle.demo_run.proofs.Running.{run_violates}

-- a loop has seven lines
line_is : (l : ℕ) (bs : List ℕ) → line_behind l bs ≡ l + 7 * length bs
line_is l [] = omega arith
line_is l (b ∷ bs) = let more = line_is (l + 1 + 1 + 1 + 1 + 1 + 1 + 1) bs in omega (arith, more)

-- ---- verdicts

-- where the given run draws n, violates the property and matches, a right verdict confirms
confirmed_by : (p : Program) (ss : List BoundSegment) (N n : ℕ) (verdict : Verdict) → values_of (RunGiven p ss N).draws ≡ pos n ∷ [] → IsGivenViolation p ss N → IsRightOnViolation p ss N verdict → Confirms n verdict
confirmed_by p ss N n verdict drawn h right =
    by_found (subst (λ e. IsRightAt p ss N (RunGiven p ss N) (SeenGiven p ss N) e verdict) (h.violated).1 right)
  where
    by_found : (found : Option (List ℕ)) × Finds p ss (SeenGiven p ss N) found × (verdict ≡ verdict_at (RunGiven p ss N) found) → Confirms n verdict
    by_found (Some positions, matches, is) = subst (Confirms n) (sym is) drawn
    by_found (None, none, is) = absurd (none (h.matched).0 (h.matched).1)

-- ---- the program

-- the given run of a program violates the property and matches, and each right verdict confirms it
record IsViolated (p : Program) (ss : List BoundSegment) (n steps : ℕ) : Type 0 where
  violation : IsGivenViolation p ss steps
  confirmed : (verdict : Verdict) → IsRightOnViolation p ss steps verdict → Confirms n verdict

typed_violates : (n : ℕ) (bs : List ℕ) (at : Spot) (steps : ℕ) → n < 2 ^ 31 → AllByRecursion IsBound bs → length bs ≤ 50 → 100000 ≤ steps →
    IsViolated (faulty_typed n bs) (segments_at n at (drawn_at (line_behind 4 bs) 5) (chosen_at (line_behind 4 bs + 1) n 7)) n steps
typed_violates n bs at steps small fit few enough =
    let m = line_behind 4 bs in
    let objects = faulty_objects bs in
    let body = loops 4 1 0 bs (faulty_rest m (length bs) n) in
    let there = call_there objects 4 1 0 bs n (length bs) in
    let once = drawn_once objects 4 1 0 bs n (length bs) in
    let run = run_violates 4 1 n bs steps small fit few enough in
    let violation = given_violates objects body n at (drawn_at m) (chosen_at (m + 1) n) small there (length bs) steps once run in
    let draws = given_draws objects body n at (drawn_at m) (chosen_at (m + 1) n) small there (length bs) steps once run in
    record {
      violation = violation;
      confirmed = λ verdict right. confirmed_by (faulty_typed n bs) (segments_at n at (drawn_at m 5) (chosen_at (m + 1) n 7)) steps n verdict draws violation right;
    }

-- where the segments stand
places : (n : ℕ) (at : Spot) (m : ℕ) → m ≡ 284 → segments_at n at (drawn_at m 5) (chosen_at (m + 1) n 7) ≡ demo_segments n at
places n at m h = ap (λ l. segments_at n at (spot l 33) (spot (l + 1 + 1) 5)) h

pub faulty_checked : (n : ℕ) (bs : List ℕ) → n ≤ 999999 → AreBounds bs → program_of Ilp32 UnreachCall (faulty_items n bs) ≡ faulty_typed n bs
faulty_checked n bs small fit = faulty_program_of n bs (omega (arith, small)) fit.each

pub correct_checked : (bs : List ℕ) → AreBounds bs → program_of Ilp32 UnreachCall (correct_items bs) ≡ correct_typed bs
correct_checked bs fit = correct_program_of bs fit.each

demo_is_violated : (n steps : ℕ) (at : Spot) → n ≤ 999999 → 100000 ≤ steps → IsViolated (program_of Ilp32 UnreachCall (faulty_items n (bounds n loop_count))) (demo_segments n at) n steps
demo_is_violated n steps at small enough =
    let bs = bounds n loop_count in
    let count : length bs ≡ 40 = bounds_count n loop_count in
    let line = line_is 4 bs in
    let there : line_behind 4 bs ≡ 284 = omega (arith, line, count) in
    let run = typed_violates n bs at steps (omega (arith, small)) (bounds_fit n).each (omega (arith, count)) enough in
    subst (λ p. IsViolated p (demo_segments n at) n steps) (sym (faulty_program_of n bs (omega (arith, small)) (bounds_fit n).each))
    (subst (λ ss. IsViolated (faulty_typed n bs) ss n steps) (places n at (line_behind 4 bs) there) run)

pub demo_violates : (n steps : ℕ) (at : Spot) → n ≤ 999999 → 100000 ≤ steps →
    IsGivenViolation (program_of Ilp32 UnreachCall (faulty_items n (bounds n loop_count))) (demo_segments n at) steps
demo_violates n steps at small enough = (demo_is_violated n steps at small enough).violation

pub demo_is_confirmed : (n steps : ℕ) (at : Spot) (verdict : Verdict) → n ≤ 999999 → 100000 ≤ steps →
    IsRightOnViolation (program_of Ilp32 UnreachCall (faulty_items n (bounds n loop_count))) (demo_segments n at) steps verdict → Confirms n verdict
demo_is_confirmed n steps at verdict small enough right = (demo_is_violated n steps at small enough).confirmed verdict right
