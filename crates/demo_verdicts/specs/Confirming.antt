-- Replies to the programs of a demo.
use Rattle.std.specs.Prelude.{◌≤◌, ℕ}
use Rattle.demo_run.specs.Segments.{Confirms}
use Rattle.witval.specs.declared.demonstration.Demonstration.{Demonstration}
use Rattle.wv_arguments.specs.Words.{Budgets}
use Rattle.wv_report.specs.declared.reply.Reply.{Reply}
use Rattle.wv_report.specs.declared.reply.Reply.TheVariants.{Verdict as Judged, Refused, ReadFault}

-- a verdict, and no refusal
abbrev pub IsVerdict : Reply → Type 0
IsVerdict (Judged verdict) = Unit {0}
IsVerdict (Refused code detail) = ⊥
IsVerdict (ReadFault file) = ⊥

-- a verdict that confirms the violation and shows n as the one drawn value
abbrev pub ConfirmsDemo : ℕ → Reply → Type 0
ConfirmsDemo n (Judged verdict) = Confirms n verdict
ConfirmsDemo n (Refused code detail) = ⊥
ConfirmsDemo n (ReadFault file) = ⊥

-- both replies of a demo are verdicts, and with this many steps the one to the faulty program confirms
pub record IsConfirmed (number : ℕ) (budgets : Budgets) (demo : Demonstration) : Type 0 where
  pub correct : IsVerdict demo.correct
  pub faulty : IsVerdict demo.faulty
  pub confirmed : 100000 ≤ budgets.steps → ConfirmsDemo number demo.faulty
