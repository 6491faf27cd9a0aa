-- Logs that prove all obligations are a certificate; another verdict is reported.
use Rattle.std.proofs.Common.{◌≡◌, ℕ, ◌+◌, ◌-◌, ◌^◌, ◌≤◌, ◌<◌, List, length, arith, subst, sym}
use Rattle.std.proofs.Math.Pow.{pow_mono}
use Rattle.c_core.specs.Tree.{Program}
use Rattle.c_lifting.specs.Lifting.{EveryObligationHolds, Lifted}
use Rattle.c_meaning.specs.declared.verdict.Verdict.{Verdict}
use Rattle.c_meaning.specs.declared.verdict.Verdict.TheVariants.{ViolationConfirmed, ViolationNot, CorrectnessConfirmed, CorrectnessNot, Undecided}
use Rattle.c_meaning.specs.Duties.{Placed}
use Rattle.circuits.specs.Net.{count_inputs}
use Rattle.clauses.specs.declared.log.Refutation.{Refutation}
use Rattle.judge_correctness.specs.Correctness.{IsConfirmed}
use Rattle.judge_obligations.specs.Logged.{AreProved, IsOther, IsUnconfirmed}
use Rattle.judge_obligations.specs.Verdicts.{AllHold, AreObligationsOf, IsDecided}
use Rattle.judge_obligations.specs.declared.judging.Judged.{Judged}
use Rattle.sym_duties.specs.Answers.{CanBeJudged}
use Rattle.sym_duties.specs.declared.obligations.Obligations.{Obligations}
use Rattle.sym_weight.specs.Weight.{Bits}
use Rattle.wv_cert.specs.Text.{IsCertificate}
use Rattle.wv_report.specs.declared.reply.Reply.TheVariants.{Verdict as Told}
use Rattle.witval.specs.Certificates.{Certifies}
use Rattle.witval.specs.declared.output.Output.TheVariants.{Report, Certificate}

every : (p : Program) (I : List Placed) (n : ℕ) → AllHold p I n → EveryObligationHolds p I
every p I n a number low high = a.hold number (omega arith) (omega (arith, a.counted))

pub certified : (conflicts : ℕ) (p : Program) (I : List Placed) (o : Obligations) (logs : List Refutation) (text : List ℕ) → (EveryObligationHolds p I → Lifted p I)
    → AreProved conflicts p I o logs → IsCertificate logs text → Certifies conflicts p I o (Certificate text)
certified conflicts p I o logs text lifted proved written =
    record { logs = logs; written = written; proved = proved; lifted = lifted (every p I (length logs) proved.hold) }

not_confirmed : (p : Program) (I : List Placed) (verdict : Verdict) → IsUnconfirmed verdict → IsConfirmed p I verdict
not_confirmed p I (CorrectnessConfirmed count) un = absurd un
not_confirmed p I (CorrectnessNot index duty draws) un = tt
not_confirmed p I (ViolationConfirmed draws positions) un = tt
not_confirmed p I (ViolationNot reason unfixed) un = tt
not_confirmed p I (Undecided cause) un = tt

-- fewer inputs allow fewer conflicts
beyond : {inputs N : ℕ} (p : Program) → inputs ≤ Bits p → 2 ^ (Bits p + 1) - 2 < N → 2 ^ (inputs + 1) - 2 < N
beyond {inputs} {N} p few h = omega (arith, h, pow_mono {i = inputs + 1} {j = Bits p + 1} (omega (arith, few)))

pub not_certified : (conflicts : ℕ) (p : Program) (I : List Placed) (o : Obligations) (judged : Judged) (verdict : Verdict) → CanBeJudged p I → AreObligationsOf p I o
    → IsOther conflicts p I o judged → (2 ^ (count_inputs o.net + 1) - 2 < conflicts → IsDecided judged.verdict) → verdict ≡ judged.verdict
    → Certifies conflicts p I o (Report (Told verdict))
not_certified conflicts p I o judged verdict can are other decided e =
    subst (λ v. Certifies conflicts p I o (Report (Told v))) (sym e) (record {
      right = record {
        right = other.right;
        confirmed = not_confirmed p I judged.verdict other.unconfirmed;
        judged = can;
        decided = λ h. decided (beyond p are.feeds h);
      };
      unconfirmed = other.unconfirmed;
    })
