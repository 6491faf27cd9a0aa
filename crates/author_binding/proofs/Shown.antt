-- The run that the segments give is the run that they were written from.
use Rattle.std.proofs.Common.{◌≡◌, ℕ, ℤ, true, List, [], ◌∷◌, ◌++◌, map, Option, Some, None, refl, sym, ap, ◌∙◌, subst}
use Rattle.std.proofs.lemmas.List.{append-nil}
use Rattle.std.proofs.lemmas.List.Elements.{All-head, All-tail, filter_map-append}
use Rattle.std.specs.List.{All, cons_option}
use Rattle.c_core.specs.Program.{IsProgram}
use Rattle.c_core.specs.Tree.{Program}
use Rattle.c_core.specs.Types.{in_range}
use Rattle.c_core.specs.Places.{input_at}
use Rattle.c_core.specs.declared.number.Spot.{Spot}
use Rattle.c_meaning.specs.Drawn.{IsFitting, IsIn64Bits}
use Rattle.c_meaning.specs.Run.{Moment, Moments, Run, Told}
use Rattle.c_meaning.specs.declared.run.Choices.TheVariants.{Given, InTurn}
use Rattle.c_meaning.specs.declared.run.Draw.{Draw}
use Rattle.c_meaning.specs.declared.run.DrawKind.{DrawKind}
use Rattle.c_meaning.specs.declared.run.DrawKind.TheVariants.{Input, Cell, Havoc}
use Rattle.c_meaning.specs.declared.run.End.{End}
use Rattle.c_meaning.specs.declared.run.End.TheVariants.{Violated}
use Rattle.c_meaning.specs.declared.run.Event.TheVariants.{Fail}
use Rattle.c_meaning.specs.declared.run.Given.{Given as GivenAt}
use Rattle.c_meaning.specs.declared.run.Run.{Run as Made}
use Rattle.c_meaning.specs.declared.verdict.Verdict.{Verdict}
use Rattle.c_meaning.proofs.DrawsFit.{draws_fit}
use Rattle.way_match.specs.Given.{RunGiven, SeenGiven, input_calls, values_at}
use Rattle.way_match.specs.Matching.{Finds, Matches, Seen, seen_of}
use Rattle.way_match.specs.Points.{BoundSegment}
use Rattle.way_match.specs.Verdicts.{IsRightAt, verdict_at}
use Rattle.author_runs.specs.Giving.{IsSameRun, OthersDrewZero}
use Rattle.author_runs.specs.Returning.{CameBack, FailsLast, InputsComeBack, back_by, back_in, came_of, drawn_to, end_of_input, inputs_in, returns_in}
use Rattle.author_runs.proofs.ByPlace.{given_by_place}
use Rattle.author_binding.specs.Followed.{FollowEach}
use Rattle.author_binding.specs.Shown.{ConfirmsDraws, ShowsRun}
use Rattle.author_binding.proofs.GivenDraws.{AreInputsBack, gives_draws}
use Rattle.author_binding.proofs.Positions.{backs_in, backs_of, matched, return_of, seen_of-append}

-- ---- what came back

-- each ends an input call
abbrev EndCalls : Program → List CameBack → Type 0
EndCalls p [] = Unit {0}
EndCalls p (b ∷ bs) = (input_at p b.close ≡ Some b.call) × EndCalls p bs

-- the type of each holds its value, which is in 64 bits
abbrev FitTypes : Program → List CameBack → Type 0
FitTypes p [] = Unit {0}
FitTypes p (b ∷ bs) = (in_range p.model b.call.ty b.value ≡ true) × IsIn64Bits b.value × FitTypes p bs

module _ (p : Program) where
  are_both : (bs : List CameBack) → EndCalls p bs → FitTypes p bs → AreInputsBack p bs
  are_both [] h g = tt
  are_both (b ∷ bs) h g = (record { input = h.0; in_type = g.0; in_bits = g.1 }, are_both bs h.1 g.2)

  event_ends : (e : Seen) (es : List Seen) (o : Option CameBack) → back_by p e.event ≡ o → EndCalls p (backs_in p es)
      → EndCalls p (cons_option o (backs_in p es))
  event_ends e es None is h = h
  event_ends e es (Some b) is h = ((return_of p e.event b is).input, h)

  backs_end : (es : List Seen) → EndCalls p (backs_in p es)
  backs_end [] = tt
  backs_end (e ∷ es) = event_ends e es (back_by p e.event) refl (backs_end es)

  fits_drawn : (d : Draw) (bs : List CameBack) (o : Option Spot) → IsFitting p.model d → IsIn64Bits d.value
      → FitTypes p bs → FitTypes p (cons_option (drawn_to d o) bs)
  fits_drawn d bs None fit bits h = h
  fits_drawn d bs (Some close) fit bits h = (fit, bits, h)

  fits_kind : (kind : DrawKind) (d : Draw) (bs : List CameBack) → IsFitting p.model d → IsIn64Bits d.value
      → FitTypes p bs → FitTypes p (cons_option (came_of p kind d) bs)
  fits_kind Input d bs fit bits h = fits_drawn d bs (end_of_input p d.spot) fit bits h
  fits_kind Cell d bs fit bits h = h
  fits_kind Havoc d bs fit bits h = h

  abbrev InBits : Draw → Type 0
  InBits d = IsIn64Bits d.value

  draws_fit_types : (ds : List Draw) → All (IsFitting p.model) ds → All InBits ds → FitTypes p (inputs_in p ds)
  draws_fit_types [] h g = tt
  draws_fit_types (d ∷ ds) h g =
      fits_kind d.from d (inputs_in p ds) (All-head (IsFitting p.model) d ds h) (All-head InBits d ds g)
      (draws_fit_types ds (All-tail (IsFitting p.model) d ds h) (All-tail InBits d ds g))

  -- nothing comes back at a violation
  before_fail : (before : List Moment) (x : Moment) → back_in p x ≡ None
      → returns_in p (before ++ x ∷ []) ≡ returns_in p before
  before_fail before x none = filter_map-append (back_in p) before (x ∷ []) ∙ rw none (append-nil (returns_in p before))

-- what a run draws of inputs comes back at the ends of input calls, with values of their types
pub inputs_known : (p : Program) (vs : List ℤ) (N : ℕ) → InputsComeBack p (InTurn vs) N
    → AreInputsBack p (inputs_in p (Run p (InTurn vs) N).draws)
inputs_known p vs N back =
    let ds = (Run p (InTurn vs) N).draws in
    let moments = Moments p (InTurn vs) N in
    let fit = draws_fit p (InTurn vs) N in
    let same : backs_in p (seen_of moments) ≡ inputs_in p ds = sym (backs_of p moments) ∙ back.returned in
    are_both p (inputs_in p ds) (subst (EndCalls p) same (backs_end p (seen_of moments)))
    (draws_fit_types p ds fit.in_types fit.in_64_bits)

-- ---- verdicts

confirms : (p : Program) (ss : List BoundSegment) (N : ℕ) (r : Made) (es : List Seen) (e : End) (spot : Spot)
    (ds : List Draw) (v : Verdict) → e ≡ Violated spot → r.draws ≡ ds
    → (positions : List ℕ) × Matches p ss es positions → IsRightAt p ss N r es e v → ConfirmsDraws ds v
confirms p ss N r es e spot ds v end same found right = by (right_at.0) right_at.1 right_at.2
  where
    right_at : (found : Option (List ℕ)) × Finds p ss es found × (v ≡ verdict_at r found)
    right_at = subst (λ (e : End). IsRightAt p ss N r es e v) end right

    by : (o : Option (List ℕ)) → Finds p ss es o → v ≡ verdict_at r o → ConfirmsDraws ds v
    by None none is = absurd (none found.0 found.1)
    by (Some positions) finds is =
        (positions, is ∙ ap (λ (l : List Draw). verdict_at (record r { draws = l }) (Some positions)) same)

-- ---- the run

module _ (p : Program) (checked : IsProgram p) (vs : List ℤ) (N : ℕ) where
  abbrev run : Made
  run = Run p (InTurn vs) N

  abbrev moments : List Moment
  moments = Moments p (InTurn vs) N

  module _ (ss : List BoundSegment) where
    abbrev lists : List GivenAt
    lists = map (λ call. record { spot = call.spot; values = values_at p call.spot ss }) (input_calls p)

    -- the segments of its inputs and its violation show it
    pub shows : (statement spot : Spot) → run.end ≡ Violated spot → OthersDrewZero run.draws
        → InputsComeBack p (InTurn vs) N
        → FailsLast moments statement → FollowEach p statement (inputs_in p run.draws) ss → ShowsRun p vs N ss
    shows statement spot violated zero back fails follow =
        let rest = seen_of fails.before in
        let last : Moment = Told (Fail statement fails.full fails.call) fails.cells in
        let events : seen_of moments ≡ rest ++ record { event = Fail statement fails.full fails.call; cells = fails.cells } ∷ [] =
        ap seen_of fails.last ∙ seen_of-append fails.before (last ∷ []) in
        let same : backs_in p rest ≡ inputs_in p run.draws =
        sym (backs_of p fails.before) ∙ sym (before_fail p fails.before last refl)
        ∙ sym (ap (returns_in p) fails.last) ∙ back.returned in
        let backs = inputs_known p vs N back in
        let replayed : IsSameRun p (InTurn vs) (Given lists) N =
        given_by_place p (InTurn vs) N lists zero (gives_draws p statement run.draws ss back.ended backs follow) in
        let found : (positions : List ℕ) × Matches p ss (seen_of moments) positions =
        matched p checked statement fails.full fails.call fails.cells (seen_of moments) rest ss events
        (subst (AreInputsBack p) (sym same) backs) (subst (λ bs. FollowEach p statement bs ss) (sym same) follow) in
        let end : (RunGiven p ss N).end ≡ run.end = ap (λ (r : Made). r.end) replayed.run in
        let draws : (RunGiven p ss N).draws ≡ run.draws = ap (λ (r : Made). r.draws) replayed.run in
        let given : (positions : List ℕ) × Matches p ss (SeenGiven p ss N) positions =
        (found.0, subst (λ (ms : List Moment). Matches p ss (seen_of ms) found.0) (sym replayed.moments) found.1) in
        record {
          violation = record { violated = (spot, end ∙ violated); matched = given };
          end = end;
          steps = ap (λ (r : Made). r.steps) replayed.run;
          draws = draws;
          moments = replayed.moments;
          confirmed = λ v right. confirms p ss N (RunGiven p ss N) (SeenGiven p ss N)
              (RunGiven p ss N).end spot run.draws v (end ∙ violated) draws given right;
        }
