-- What `author` writes of a run is bound to segments that show the run.
use Rattle.std.proofs.Common.{◌≡◌, arith, ℕ, ℤ, pos, negsuc, Bool, true, false, cond, not, List, [], ◌∷◌, ◌++◌, map, Option, Some, None, Result, Ok, Err, refl, sym, ap, ◌∙◌, subst}
use Rattle.std.proofs.lemmas.Bool.Decides.{nat_tests}
use Rattle.std.proofs.lemmas.List.Elements.{All-cons, All-nil}
use Rattle.c_core.specs.Program.{IsProgram}
use Rattle.c_core.specs.Tree.{Program}
use Rattle.c_core.specs.Types.{is_zero}
use Rattle.c_core.specs.declared.number.Spot.{Spot}
use Rattle.c_meaning.specs.Run.{Moments, Run}
use Rattle.c_meaning.specs.declared.run.Choices.TheVariants.{InTurn}
use Rattle.c_meaning.specs.declared.run.Draw.{Draw}
use Rattle.c_meaning.specs.declared.run.DrawKind.{DrawKind}
use Rattle.c_meaning.specs.declared.run.DrawKind.TheVariants.{Input, Cell, Havoc}
use Rattle.way_bind.specs.Binding.{Binds, segments_of, waypoints_in, AreBoundTo, Tells}
use Rattle.way_bind.specs.declared.fault.BindFault.{BindFault}
use Rattle.way_bind.specs.declared.fault.BindFault.TheVariants as fault
use Rattle.way_match.specs.View.{segments_view}
use Rattle.way_match.specs.declared.point.Bound.{Bound}
use Rattle.wv_author.specs.Authored.{IsAuthored, first_free, is_free_by, returning_of, target_of}
use Rattle.wv_schema.specs.declared.witness.Segment.{Segment}
use Rattle.wv_schema.specs.declared.witness.Witness.{Witness}
use Rattle.author_runs.specs.Giving.{IsZeroUnlessInput, OthersDrewZero}
use Rattle.author_runs.specs.Returning.{CameBack, IsViolatedIn, inputs_in, returns_in}
use Rattle.author_runs.proofs.Returned.{inputs_back}
use Rattle.author_runs.proofs.Violating.{violations_end}
use Rattle.author_binding.specs.Confirmed.{IsConfirmation}
use Rattle.author_binding.proofs.GivenDraws.{AreInputsBack}
use Rattle.author_binding.proofs.SegmentLaws.{follow_each, sequence, told_only}
use Rattle.author_binding.proofs.Shown.{inputs_known, shows}

-- ---- draws that no input made

abbrev IsZeroOther : Draw → Type 0
IsZeroOther d = IsZeroUnlessInput d.from d.value

not_free : (b : Bool) → not b ≡ false → b ≡ true
not_free true h = refl
not_free false h = absurd (cc)

only_zero : (v : ℤ) → is_zero v ≡ true → v ≡ pos 0
only_zero (pos n) h = grind (arith, nat_tests)
only_zero (negsuc n) h = absurd (cc)

zero_of : (kind : DrawKind) (v : ℤ) → is_free_by kind v ≡ false → IsZeroUnlessInput kind v
zero_of Input v h = tt
zero_of Cell v h = only_zero v (not_free (is_zero v) h)
zero_of Havoc v h = only_zero v (not_free (is_zero v) h)

zero_more : (d : Draw) (ds : List Draw) (b : Bool) → is_free_by d.from d.value ≡ b
    → cond b (Some d.spot) (first_free ds) ≡ None → (first_free ds ≡ None → OthersDrewZero ds) → OthersDrewZero (d ∷ ds)
zero_more d ds true e h rest = absurd (cc)
zero_more d ds false e h rest = All-cons IsZeroOther d ds (zero_of d.from d.value e) (rest h)

others_zero : (ds : List Draw) → first_free ds ≡ None → OthersDrewZero ds
others_zero [] h = All-nil IsZeroOther
others_zero (d ∷ ds) h = zero_more d ds (is_free_by d.from d.value) refl h (others_zero ds)

-- ---- the sequence

module _ (p : Program) (checked : IsProgram p) (file : List ℕ) (vs : List ℤ) (N : ℕ) (segments : List Segment)
    (h : IsAuthored p file vs N segments) where
  statement : Spot
  statement = (violations_end p checked (InTurn vs) N h.violated.0 h.violated.1).0

  violated : IsViolatedIn p (Moments p (InTurn vs) N) statement
  unfolding statement
  violated = (violations_end p checked (InTurn vs) N h.violated.0 h.violated.1).1

  written : segments ≡ sequence p checked file statement (inputs_in p (Run p (InTurn vs) N).draws)
  written =
      h.written
      ∙ ap (λ (o : Option Spot). map (returning_of file)
      (returns_in p (Moments p (InTurn vs) N)) ++ target_of file o) violated.violated
      ∙ ap (λ (bs : List CameBack). sequence p checked file statement bs) (inputs_back p checked (InTurn vs) N).returned

  known : AreInputsBack p (inputs_in p (Run p (InTurn vs) N).draws)
  known = inputs_known p vs N (inputs_back p checked (InTurn vs) N)

  by_answer : (w : Witness) (answer : Result Bound BindFault)
      → segments_of w ≡ sequence p checked file statement (inputs_in p (Run p (InTurn vs) N).draws)
      → Binds p w answer → IsConfirmation p vs N answer
  by_answer w (Ok bound) same binds =
      let ss = segments_view bound in
      let bound_to = subst (λ (l : List Segment). AreBoundTo p l ss) same binds in
      shows p checked vs N ss statement h.violated.0 h.violated.1 (others_zero (Run p (InTurn vs) N).draws h.fixed)
      (inputs_back p checked (InTurn vs) N) violated.fails
      (follow_each p checked file statement (inputs_in p (Run p (InTurn vs) N).draws) ss violated.aim known bound_to)
  by_answer w (Err f) same binds =
      let told = subst (λ (l : List Segment). Tells p 1 (waypoints_in l) f) same binds in
      let only : f ≡ fault.OutOfMemory =
      told_only p checked file statement (inputs_in p (Run p (InTurn vs) N).draws) f violated.aim known told in
      subst (λ (f : BindFault). IsConfirmation p vs N (Err f)) (sym only) tt

  pub authored_confirmed : (w : Witness) (answer : Result Bound BindFault) → segments_of w ≡ segments
      → Binds p w answer → IsConfirmation p vs N answer
  authored_confirmed w answer same binds = by_answer w answer (same ∙ written) binds

pub sequences_confirmed : (p : Program) → IsProgram p
    → (file : List ℕ) (vs : List ℤ) (N : ℕ) (segments : List Segment) → IsAuthored p file vs N segments
    → (w : Witness) (answer : Result Bound BindFault) → segments_of w ≡ segments → Binds p w answer
    → IsConfirmation p vs N answer
sequences_confirmed p checked file vs N segments h w answer same binds =
    authored_confirmed p checked file vs N segments h w answer same binds
