-- What a program and invariant sets about it ask for where a certificate is wanted, and where one is checked again.
use Rattle.std.specs.Prelude.{ℕ, List, Result}
use Rattle.c_core.specs.Tree as t
use Rattle.c_core.specs.View.{program_view}
use Rattle.c_core.specs.declared.program.Program.{Program}
use Rattle.c_lifting.specs.Lifting.{Lifted}
use Rattle.c_meaning.specs.Duties.{Placed}
use Rattle.c_meaning.specs.Placing.{placed_view}
use Rattle.c_meaning.specs.declared.verdict.Verdict.{Verdict}
use Rattle.clauses.specs.declared.log.Refutation.{Refutation}
use Rattle.judge_obligations.specs.Logged.{AreProved, IsUnconfirmed}
use Rattle.sym_duties.specs.Answers.{AnswersFor, names_of}
use Rattle.sym_duties.specs.declared.fault.SymFault.{SymFault}
use Rattle.sym_duties.specs.declared.obligations.Obligations.{Obligations}
use Rattle.way_invariants.specs.Invariants.{BindsInvariants}
use Rattle.wv_cert.specs.Accepted.{IsAnswer}
use Rattle.wv_cert.specs.Certified.{IsCertified}
use Rattle.wv_cert.specs.Text.{IsCertificate}
use Rattle.wv_report.specs.declared.reply.Reply.TheVariants.{Verdict as Judged, Refused, ReadFault}
use Rattle.wv_schema.specs.declared.witness.Witness.{Witness}
use Rattle.witval.specs.Refusals.{IsBindRefusal, IsObligationRefusal}
use Rattle.witval.specs.Stages.{◌>>=◌, answered, itself, refusing}
use Rattle.witval.specs.Tasks.{IsRightOnSets}
use Rattle.witval.specs.declared.output.Output.{Output}
use Rattle.witval.specs.declared.output.Output.TheVariants.{Report, Canonical, Summary, Demo as Demonstrated, Certificate, Rechecked, Unviolated, Searched}

-- the obligations of a program and invariants: a net for them, within the program's weight; or why there is none
abbrev pub Obliges : Program → List Placed → Result Obligations SymFault → Type 0
Obliges program I answer = AnswersFor (program_view program) (names_of program.functions) I answer

-- ---- certificates that are written

-- the text of logs, one for each obligation: each refutes the clauses of its failing bit in at most n chains, none of which
-- resolves on a variable twice. All obligations hold, and so no run violates the property, and each invariant holds whenever its
-- place is reached
pub record IsCertificateFor (conflicts : ℕ) (p : t.Program) (I : List Placed) (o : Obligations) (text : List ℕ) : Type 0 where
  pub logs : List Refutation
  pub written : IsCertificate logs text
  pub proved : AreProved conflicts p I o logs
  pub lifted : Lifted p I

-- a right verdict that doesn't confirm
pub record IsNotCertified (conflicts : ℕ) (p : t.Program) (I : List Placed) (verdict : Verdict) : Type 0 where
  pub right : IsRightOnSets conflicts p I verdict
  pub unconfirmed : IsUnconfirmed verdict

-- the output for these obligations: a certificate where they are confirmed, or else the verdict
abbrev pub Certifies : ℕ → t.Program → List Placed → Obligations → Output → Type 0
Certifies conflicts p I o (Certificate text) = IsCertificateFor conflicts p I o text
Certifies conflicts p I o (Report (Judged verdict)) = IsNotCertified conflicts p I verdict
Certifies conflicts p I o (Report (Refused code detail)) = ⊥
Certifies conflicts p I o (Report (ReadFault file)) = ⊥
Certifies conflicts p I o (Canonical text) = ⊥
Certifies conflicts p I o (Summary text) = ⊥
Certifies conflicts p I o (Demonstrated demo) = ⊥
Certifies conflicts p I o (Rechecked answer) = ⊥
Certifies conflicts p I o (Unviolated why) = ⊥
Certifies conflicts p I o (Searched found) = ⊥

-- the output for invariants, bound to the program
abbrev pub CertifiesPlaced : ℕ → Program → List Placed → Output → Type 0
CertifiesPlaced conflicts program I = do
  obligations ← answered (Obliges program I) itself (refusing IsObligationRefusal)
  Certifies conflicts (program_view program) I obligations

-- the output for a program and invariant sets about it, with a budget of conflicts for each obligation
abbrev pub CertifiesSets : ℕ → Witness → Program → Output → Type 0
CertifiesSets conflicts witness program = do
  invariants ← answered (BindsInvariants (program_view program) witness) placed_view (refusing IsBindRefusal)
  CertifiesPlaced conflicts program invariants

-- ---- certificates that are checked again

-- the output for these obligations and logs: whether there are as many logs as obligations, then the first log that doesn't refute the
-- clauses of its failing bit. Where all do, no run violates the property
abbrev pub Rechecks : t.Program → List Placed → List Refutation → Obligations → Output → Type 0
Rechecks p I logs o (Rechecked answer) = IsAnswer o.net o.failing logs answer × IsCertified p I answer
Rechecks p I logs o (Report reply) = ⊥
Rechecks p I logs o (Canonical text) = ⊥
Rechecks p I logs o (Summary text) = ⊥
Rechecks p I logs o (Demonstrated demo) = ⊥
Rechecks p I logs o (Certificate text) = ⊥
Rechecks p I logs o (Unviolated why) = ⊥
Rechecks p I logs o (Searched found) = ⊥

-- the output for invariants, bound to the program
abbrev pub RechecksPlaced : List Refutation → Program → List Placed → Output → Type 0
RechecksPlaced logs program I = do
  obligations ← answered (Obliges program I) itself (refusing IsObligationRefusal)
  Rechecks (program_view program) I logs obligations

-- the output for a program and invariant sets about it
abbrev pub RechecksSets : List Refutation → Witness → Program → Output → Type 0
RechecksSets logs witness program = do
  invariants ← answered (BindsInvariants (program_view program) witness) placed_view (refusing IsBindRefusal)
  RechecksPlaced logs program invariants
