-- The verdict by the end of the given run is right.
use Rattle.std.proofs.Common.{◌≡◌, ℕ, List, [], ◌∷◌, Option, refl, sym, ◌∙◌, ap, subst}
use Rattle.c_core.specs.Tree.{Program}
use Rattle.c_core.specs.View.{program_view}
use Rattle.c_core.specs.declared.program.Program as declared
use Rattle.c_meaning.specs.declared.run.Choices.{Choices}
use Rattle.c_meaning.specs.declared.run.End.{End}
use Rattle.c_meaning.specs.declared.run.End.TheVariants as end
use Rattle.c_meaning.specs.declared.run.Run.{Run as GivenRun}
use Rattle.c_meaning.specs.declared.verdict.Verdict.{Verdict}
use Rattle.c_meaning.specs.Run.{Run, Moment, Told, Here, Head, Moments}
use Rattle.c_meaning.specs.Watching.{seen_after}
use Rattle.way_match.specs.Given.{given_by, RunGiven, SeenGiven}
use Rattle.way_match.specs.Matching.{Seen, SeenIn, seen_of, Finds}
use Rattle.way_match.specs.Points.{BoundSegment}
use Rattle.way_match.specs.inside.Steps.{Matching, begun, after, after_all}
use Rattle.way_match.specs.Verdicts.{IsRightAt, IsRightOnViolation, IsRightVerdict}
use Rattle.way_match.specs.View.{segments_view}
use Rattle.way_match.specs.declared.point.Bound.{Bound}
use Rattle.way_match.proofs.Confirmed.{confirmed}
use Rattle.judge.specs.Judging.{verdict_at_end, verdict_by}
use Rattle.judge.specs.Watching.{IsWatched}
use Rattle.judge.specs.declared.watched.Watched.{Watched}

-- a matcher sees the events alone
seen_events : (m : Matching) (ms : List Moment) → seen_after after m ms ≡ after_all m (seen_of ms)
seen_events m [] = refl
seen_events m (Told e cells ∷ ms) = seen_events (after e cells m) ms
seen_events m (Here spot cells ∷ ms) = seen_events m ms
seen_events m (Head at l arrived cells ∷ ms) = seen_events m ms

right_at : (p : Program) (ss : List BoundSegment) (N : ℕ) (r : GivenRun) (es : List Seen) (found : Option (List ℕ)) (e : End) → Finds p ss es found →
    IsRightAt p ss N r es e (verdict_at_end N r found e)
right_at p ss N r es found (end.Violated spot) f = (found, f, refl)
right_at p ss N r es found end.Ended f = refl
right_at p ss N r es found (end.Undefined spot) f = refl
right_at p ss N r es found end.Spent f = refl
right_at p ss N r es found end.Deep f = refl

right_given : (p : Program) (ss : List BoundSegment) (N : ℕ) (r : GivenRun) (found : Option (List ℕ)) → r ≡ RunGiven p ss N → Finds p ss (SeenGiven p ss N) found →
    IsRightVerdict N p ss (verdict_by N r found)
right_given p ss N r found e f =
    let right : IsRightOnViolation p ss N (verdict_by N r found) =
    subst (λ (x : GivenRun). IsRightOnViolation p ss N (verdict_by N x found)) (sym e) (right_at p ss N (RunGiven p ss N) (SeenGiven p ss N) found (RunGiven p ss N).end f) in
    record { right = right; confirmed = confirmed p ss N (verdict_by N r found) right }

-- what the matcher finds after the events of a run
pub found_in : (program : declared.Program) (bound : Bound) (N : ℕ) (c : Choices) (m n : Matching) (found : Option (List ℕ)) →
    m ≡ begun program bound → n ≡ seen_after after m (Moments (program_view program) c N) →
    ((q : declared.Program) (b : Bound) (es : List Seen) → n ≡ after_all (begun q b) es → Finds (program_view q) (segments_view b) es found) →
    Finds (program_view program) (segments_view bound) (SeenIn (program_view program) c N) found
found_in program bound N c m n found new saw finds =
    let ms = Moments (program_view program) c N in
    finds program bound (seen_of ms) (saw ∙ seen_events m ms ∙ ap (λ (x : Matching). after_all x (seen_of ms)) new)

pub judged : (p : Program) (ss : List BoundSegment) (N : ℕ) (c : Choices) (w : Watched) (v : Verdict) →
    c ≡ given_by p ss → IsWatched p ss c N w → v ≡ verdict_by N w.run w.found → IsRightVerdict N p ss v
judged p ss N c w v given watched is =
    let same : w.run ≡ RunGiven p ss N = watched.run ∙ ap (λ (x : Choices). Run p x N) given in
    let finds : Finds p ss (SeenGiven p ss N) w.found = subst (λ (x : Choices). Finds p ss (SeenIn p x N) w.found) given watched.found in
    subst (λ (x : Verdict). IsRightVerdict N p ss x) (sym is) (right_given p ss N w.run w.found same finds)
