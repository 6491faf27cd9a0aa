-- A confirmed violation is a run of the shown values.
use Rattle.std.proofs.Common.{◌≡◌, ◌↔◌, ℕ, true, false, List, Option, Some, None, refl, sym, ◌∙◌, ap, subst}
use Rattle.c_core.specs.Tree.{Program}
use Rattle.c_core.specs.declared.number.Spot.{Spot}
use Rattle.c_meaning.specs.declared.run.End.{End}
use Rattle.c_meaning.specs.declared.run.End.TheVariants as end
use Rattle.c_meaning.specs.declared.run.Choices.{Choices}
use Rattle.c_meaning.specs.declared.verdict.Verdict.{Verdict}
use Rattle.c_meaning.specs.Run.{Run}
use Rattle.c_meaning.proofs.Replayed.{replayed}
use Rattle.way_match.specs.Points.{BoundSegment}
use Rattle.way_match.specs.Matching.{seen_of, SeenIn, Matches, Finds}
use Rattle.way_match.specs.Given.{given_by, RunGiven, SeenGiven}
use Rattle.way_match.specs.Verdicts.{verdict_at, IsRightAt, IsRightOnViolation, Violates, IsConfirmed, is_confirmation, IsGivenViolation}

true_false : true ≡ false → ⊥
true_false e = let x : true ≡ false = e in cc

-- the draws of a run that violates and matches do so again
violates : (p : Program) (ss : List BoundSegment) (N : ℕ) (c : Choices) (ns : List ℕ) (spot : Spot) → (Run p c N).end ≡ end.Violated spot → Matches p ss (SeenIn p c N) ns → Violates p ss N (Run p c N).draws ns
violates p ss N c ns spot e m = record {
  violated = (spot, ap (λ r. r.end) (replayed p c N).run ∙ e);
  drawn = ap (λ r. r.draws) (replayed p c N).run;
  matched = subst (λ xs. Matches p ss (seen_of xs) ns) (sym (replayed p c N).moments) m;
}

at_positions : (p : Program) (ss : List BoundSegment) (N : ℕ) (c : Choices) (spot : Spot) → (Run p c N).end ≡ end.Violated spot → (found : Option (List ℕ)) → Finds p ss (SeenIn p c N) found → IsConfirmed p ss N (verdict_at (Run p c N) found)
at_positions p ss N c spot h (Some ns) f = violates p ss N c ns spot h f
at_positions p ss N c spot h None f = tt

at_end : (p : Program) (ss : List BoundSegment) (N : ℕ) (c : Choices) (e : End) → (Run p c N).end ≡ e → (v : Verdict) → IsRightAt p ss N (Run p c N) (SeenIn p c N) e v → IsConfirmed p ss N v
at_end p ss N c (end.Violated spot) h v r = subst (λ w. IsConfirmed p ss N w) (sym r.2) (at_positions p ss N c spot h r.0 r.1)
at_end p ss N c end.Ended h v r = subst (λ w. IsConfirmed p ss N w) (sym r) tt
at_end p ss N c (end.Undefined spot) h v r = subst (λ w. IsConfirmed p ss N w) (sym r) tt
at_end p ss N c end.Spent h v r = subst (λ w. IsConfirmed p ss N w) (sym r) tt
at_end p ss N c end.Deep h v r = subst (λ w. IsConfirmed p ss N w) (sym r) tt

pub confirmed : (p : Program) (ss : List BoundSegment) (N : ℕ) (v : Verdict) → IsRightOnViolation p ss N v → IsConfirmed p ss N v
confirmed p ss N v r = at_end p ss N (given_by p ss) (RunGiven p ss N).end refl v r

-- a verdict that is no confirmation, where the given run doesn't violate or doesn't match
neither : (p : Program) (ss : List BoundSegment) (N : ℕ) (v w : Verdict) → v ≡ w → is_confirmation w ≡ false → (IsGivenViolation p ss N → ⊥) → (is_confirmation v ≡ true) ↔ IsGivenViolation p ss N
neither p ss N v w e f g = (λ t. absurd (true_false (sym t ∙ ap is_confirmation e ∙ f)), λ h. absurd (g h))

not_violated : (p : Program) (ss : List BoundSegment) (N : ℕ) (e : End) → (RunGiven p ss N).end ≡ e → ((spot : Spot) → e ≡ end.Violated spot → ⊥) → IsGivenViolation p ss N → ⊥
not_violated p ss N e h f g = f g.violated.0 (sym h ∙ g.violated.1)

exactly_found : (p : Program) (ss : List BoundSegment) (N : ℕ) (spot : Spot) → (RunGiven p ss N).end ≡ end.Violated spot → (v : Verdict) (found : Option (List ℕ)) → Finds p ss (SeenGiven p ss N) found → v ≡ verdict_at (RunGiven p ss N) found → (is_confirmation v ≡ true) ↔ IsGivenViolation p ss N
exactly_found p ss N spot h v (Some ns) f e = (λ t. record { violated = (spot, h); matched = (ns, f) }, λ g. ap is_confirmation e)
exactly_found p ss N spot h v None f e = neither p ss N v _ e refl (λ g. f g.matched.0 g.matched.1)

exactly_at : (p : Program) (ss : List BoundSegment) (N : ℕ) (e : End) → (RunGiven p ss N).end ≡ e → (v : Verdict) → IsRightAt p ss N (RunGiven p ss N) (SeenGiven p ss N) e v → (is_confirmation v ≡ true) ↔ IsGivenViolation p ss N
exactly_at p ss N (end.Violated spot) h v r = exactly_found p ss N spot h v r.0 r.1 r.2
exactly_at p ss N end.Ended h v r = neither p ss N v _ r refl (not_violated p ss N _ h (λ spot q. let x : end.Ended ≡ end.Violated spot = q in cc))
exactly_at p ss N (end.Undefined at) h v r = neither p ss N v _ r refl (not_violated p ss N _ h (λ spot q. let x : end.Undefined at ≡ end.Violated spot = q in cc))
exactly_at p ss N end.Spent h v r = neither p ss N v _ r refl (not_violated p ss N _ h (λ spot q. let x : end.Spent ≡ end.Violated spot = q in cc))
exactly_at p ss N end.Deep h v r = neither p ss N v _ r refl (not_violated p ss N _ h (λ spot q. let x : end.Deep ≡ end.Violated spot = q in cc))

pub confirmed_exactly : (p : Program) (ss : List BoundSegment) (N : ℕ) (v : Verdict) → IsRightOnViolation p ss N v → (is_confirmation v ≡ true) ↔ IsGivenViolation p ss N
confirmed_exactly p ss N v r = exactly_at p ss N (RunGiven p ss N).end refl v r
