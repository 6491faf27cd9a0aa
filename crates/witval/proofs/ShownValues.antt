-- The values that a right verdict shows are numbers of 64 bits.
use Rattle.std.proofs.Common.{ℕ, List, Option, Some, None, sym, subst}
use Rattle.std.specs.List.{All}
use Rattle.std.proofs.lemmas.List.Elements.{All-nil}
use Rattle.c_core.specs.Tree.{Program}
use Rattle.c_meaning.specs.declared.run.Choices.{Choices}
use Rattle.c_meaning.specs.declared.run.End.{End}
use Rattle.c_meaning.specs.declared.run.End.TheVariants as end
use Rattle.c_meaning.specs.declared.verdict.Verdict.{Verdict}
use Rattle.c_meaning.specs.declared.verdict.Verdict.TheVariants.{ViolationConfirmed, ViolationNot, CorrectnessConfirmed, CorrectnessNot, Undecided}
use Rattle.c_meaning.specs.Duties.{Placed}
use Rattle.c_meaning.specs.Replay.{values_of}
use Rattle.c_meaning.specs.Run.{Run}
use Rattle.c_meaning.proofs.DrawsFit.{draws_fit, havoc_draws_fit}
use Rattle.judge_obligations.specs.Verdicts.{IsRightOnInvariants}
use Rattle.wv_report.specs.Json.{HasJsonIntegers, IsJsonInteger}
use Rattle.wv_report.specs.declared.reply.Reply.TheVariants.{Verdict as Judged}
use Rattle.way_match.specs.Points.{BoundSegment}
use Rattle.way_match.specs.Matching.{SeenIn}
use Rattle.way_match.specs.Given.{given_by, RunGiven}
use Rattle.way_match.specs.Verdicts.{verdict_at, IsRightAt, IsRightOnViolation}

abbrev Shows : Verdict → Type 0
Shows verdict = HasJsonIntegers (Judged verdict)

draws_shown : (p : Program) (c : Choices) (N : ℕ) (found : Option (List ℕ)) → Shows (verdict_at (Run p c N) found)
draws_shown p c N (Some positions) = (draws_fit p c N).in_64_bits
draws_shown p c N None = All-nil (λ draw. IsJsonInteger draw.value)

at_end : (p : Program) (ss : List BoundSegment) (N : ℕ) (c : Choices) (e : End) (v : Verdict) → IsRightAt p ss N (Run p c N) (SeenIn p c N) e v → Shows v
at_end p ss N c (end.Violated spot) v r = subst Shows (sym r.2) (draws_shown p c N r.0)
at_end p ss N c end.Ended v r = subst Shows (sym r) (All-nil (λ draw. IsJsonInteger draw.value))
at_end p ss N c (end.Undefined spot) v r = subst Shows (sym r) (All-nil (λ draw. IsJsonInteger draw.value))
at_end p ss N c end.Spent v r = subst Shows (sym r) (All-nil (λ draw. IsJsonInteger draw.value))
at_end p ss N c end.Deep v r = subst Shows (sym r) (All-nil (λ draw. IsJsonInteger draw.value))

pub shows_integers : (p : Program) (ss : List BoundSegment) (N : ℕ) (v : Verdict) → IsRightOnViolation p ss N v → Shows v
shows_integers p ss N v r = at_end p ss N (given_by p ss) (RunGiven p ss N).end v r

-- the same of invariant sets: the draws of a failing obligation are those of a havoc run
pub sets_show_integers : (conflicts : ℕ) (p : Program) (I : List Placed) (v : Verdict) → IsRightOnInvariants conflicts p I v → Shows v
sets_show_integers conflicts p I (CorrectnessConfirmed count) r = All-nil (λ draw. IsJsonInteger draw.value)
sets_show_integers conflicts p I (CorrectnessNot i duty draws) r = subst (All (λ draw. IsJsonInteger draw.value)) r.makes (havoc_draws_fit p I (values_of draws)).in_64_bits
sets_show_integers conflicts p I (Undecided cause) r = All-nil (λ draw. IsJsonInteger draw.value)
sets_show_integers conflicts p I (ViolationConfirmed draws positions) r = absurd r
sets_show_integers conflicts p I (ViolationNot reason unfixed) r = absurd r
