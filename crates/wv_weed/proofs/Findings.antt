-- What the failing bit of an obligation says of the invariants that are left.
use Rattle.std.proofs.Common.{◌≡◌, ℕ, suc, ◌+◌, ◌-◌, ◌^◌, ◌<◌, ◌≤◌, true, sym, ◌∙◌, ap, subst, arith, List, Bool, length}
use Rattle.std.specs.Prelude.{slice_get}
use Rattle.std.proofs.Math.Pow.{pow_mono}
use Rattle.c_core.specs.Tree.{Program}
use Rattle.c_inductive.specs.Inductive.{FailuresDrop}
use Rattle.c_inductive.specs.Picking.{picked}
use Rattle.c_meaning.specs.Duties.{Duties, Placed}
use Rattle.circuits.specs.declared.net.Bit.{Bit}
use Rattle.circuits.specs.Net.{count_inputs, holds, IsNet}
use Rattle.circuits.proofs.Nets.{counted}
use Rattle.clauses.specs.declared.log.SpentAt.{SpentAt}
use Rattle.bit_answers.specs.Deciding.{IsNeverTrue, IsSpentOn}
use Rattle.judge_obligations.specs.Telling.{BitTells}
use Rattle.judge_obligations.specs.Verdicts.{AreObligationsOf}
use Rattle.sym_duties.specs.declared.obligations.Obligations.{Obligations}
use Rattle.sym_weight.specs.Weight.{Bits}
use Rattle.wv_weed.specs.Rounds.{AreLeft, IsDutyOf, IsLost, IsPassed}
use Rattle.wv_weed.specs.Weeded.{IsOpenAt}
use Rattle.wv_weed.proofs.Rounding.{lost_at}

index_of : (n : ℕ) → suc n - 1 ≡ n
index_of n = omega arith

more_inputs : (N inputs bits : ℕ) → inputs ≤ bits → N ≤ 2 ^ (inputs + 1) - 2 → N ≤ 2 ^ (bits + 1) - 2
more_inputs N inputs bits few le = omega (arith, le, pow_mono {i = inputs + 1} {j = bits + 1} (omega (arith, few)))

-- the net of the obligations has room for flags
pub small : (p : Program) (I : List Placed) (o : Obligations) → AreObligationsOf p I o → IsNet o.net
    → length o.net < 2 ^ 28
small p I o promised net =
    omega (arith, counted o.net net, promised.gates, promised.feeds, promised.drawn, promised.light)

module _ (N : ℕ) (p : Program) (I : List Placed) (left : List ℕ) (o : Obligations) (at : ℕ) (b : Bit) where
  pub passed : BitTells p (picked left I) o at b → IsNeverTrue o.net b → IsPassed N p I left at
  passed tells never d named of = tells.passes never

  pub lost : BitTells p (picked left I) o at b → AreLeft p I left → AreObligationsOf p (picked left I) o
      → FailuresDrop p I → (k : ℕ) (v : ℕ → Bool) → IsDutyOf o.list at k → holds v o.net b ≡ true → IsLost N p I left k
  lost tells a promised drops k v of on =
      let run = tells.ends v on in
      lost_at N p I left a drops at k run.0 (subst (λ list. IsDutyOf list at k) promised.list of) run.1

  pub still_open : BitTells p (picked left I) o at b → AreLeft p I left → AreObligationsOf p (picked left I) o
      → (k : ℕ) (s : SpentAt) → IsDutyOf o.list at k → 1 ≤ N → IsSpentOn N o.net b s → IsOpenAt N p I left (suc at) s
  still_open tells a promised k s of some on = record {
    selection = a.selection;
    holding = a.holding;
    real = omega arith;
    duty = of.duty;
    named = ap (slice_get (Duties p (picked left I))) (index_of at) ∙ ap (λ list. slice_get list at) (sym promised.list)
        ∙ of.named;
    of_invariant = of.of_invariant;
    obligations = o;
    promised = promised;
    over = tells.spends N s some on;
    bounded = more_inputs N (count_inputs o.net) (Bits p) promised.feeds on.bounded;
  }
