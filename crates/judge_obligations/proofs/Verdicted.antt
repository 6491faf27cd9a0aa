-- From the failing bits to the verdict.
use Rattle.std.proofs.Common.{◌≡◌, ℕ, ◌+◌, ◌-◌, ◌≤◌, ◌<◌, ◌^◌, Bool, true, List, length, refl, sym, ◌∙◌, ap, subst, arith, Some, get_or, inl, inr}
use Rattle.std.specs.Prelude.{slice_get}
use Rattle.std.proofs.lemmas.Option.{slice_get-get_or, slice_get_within, get_or_from_slice_get, same_Some}
use Rattle.std.proofs.lemmas.Bool.{cases_lt}
use Rattle.std.specs.List.{All}
use Rattle.c_core.specs.Tree.{Program}
use Rattle.c_meaning.specs.declared.run.Draw.{Draw}
use Rattle.c_meaning.specs.declared.run.Duty.{Duty}
use Rattle.c_meaning.specs.declared.run.HavocEnd.TheVariants.{Failed}
use Rattle.c_meaning.specs.declared.verdict.Verdict.TheVariants.{CorrectnessNot, Undecided}
use Rattle.c_meaning.specs.declared.verdict.Cause.TheVariants.{Conflicts}
use Rattle.c_meaning.specs.Duties.{Placed, Duties}
use Rattle.c_meaning.specs.Havoc.{Havoc}
use Rattle.c_meaning.specs.Replay.{values_of}
use Rattle.circuits.specs.declared.net.Bit.{Bit}
use Rattle.circuits.specs.declared.net.NetNode.{NetNode}
use Rattle.circuits.specs.Net.{holds, IsNet, IsIn, count_inputs}
use Rattle.circuits.proofs.Nets.{counted}
use Rattle.clauses.specs.declared.log.SpentAt.{SpentAt}
use Rattle.sym_state.specs.declared.state.DrawSite.{DrawSite}
use Rattle.sym_state.specs.Standing.{draws_at}
use Rattle.sym_duties.specs.declared.obligations.Obligations.{Obligations}
use Rattle.bit_answers.specs.Deciding.{IsNeverTrue, IsSpentOn, IsWide}
use Rattle.judge_obligations.specs.Deciding.{AreNeverTrue}
use Rattle.judge_obligations.specs.Answering.{IsShown, IsLeftOpen}
use Rattle.judge_obligations.specs.Logged.{IsOther, IsUnconfirmed}
use Rattle.judge_obligations.specs.Verdicts.{AreObligationsOf, HoldUpTo, AllHold, FailsFirst, IsSpentOver, IsUndecidedAt, IsRightOnInvariants, IsKept}
use Rattle.judge_obligations.specs.declared.judging.Judged.{Judged}
use Rattle.bit_answers.proofs.Found.{clash}
use Rattle.bit_answers.proofs.Numbers.{sites_wide}
use Rattle.bit_answers.proofs.Spent.{spent_draws}

-- what stands where a list has no bit
abbrev no_bit : Bit
no_bit = record { node = 0; negated = true }

-- one more failing bit that is never true
pub never_more : (net : List NetNode) (failing : List Bit) (n : ℕ) (b : Bit) → AreNeverTrue net failing n → slice_get failing n ≡ Some b → IsNeverTrue net b → AreNeverTrue net failing (n + 1)
never_more net failing n b none at never i x lt here = elim (cases_lt i n) as (λ _. IsNeverTrue net x) [
  | inl less ↦ none i x less here
  | inr ge ↦ let e : n ≡ i = omega (arith, ge, lt) in subst (IsNeverTrue net) (same_Some b x (sym at ∙ ap (slice_get failing) e ∙ here)) never
]

module _ (p : Program) (I : List Placed) (o : Obligations) (h : AreObligationsOf p I o) where
  pub small : IsNet o.net → length o.net < 2 ^ 28
  small n = omega (arith, counted o.net n, h.gates, h.feeds, h.drawn, h.light)

  pub inside : (n : ℕ) (b : Bit) → slice_get o.failing n ≡ Some b → IsIn o.net b
  inside n b at = subst (IsIn o.net) (get_or_from_slice_get o.failing n b b at) (h.failing_in n b (slice_get_within o.failing n b at))

  pub wide : (xs : List DrawSite) → xs ≡ o.sites → All (IsWide p.model) xs
  wide xs e = subst (All (IsWide p.model)) (sym e) (sites_wide p.model o.net 0 (count_inputs o.net) o.sites h.sites_in)

  pub hold_up : (n : ℕ) → n ≤ length o.failing → AreNeverTrue o.net o.failing n → HoldUpTo p I n
  hold_up n le none i real few w ended =
      let j = i - 1 in
      let b = get_or o.failing j no_bit in
      let at : slice_get o.failing j ≡ Some b = slice_get-get_or o.failing j no_bit (omega arith) in
      let told = h.all w in
      let same : i ≡ j + 1 = omega arith in
      clash ((told.1.ends j b at).1 (ended ∙ ap Failed same)) (none j b (omega arith) at told.0)

  pub all_hold : (n : ℕ) → n ≡ length o.failing → AreNeverTrue o.net o.failing n → AllHold p I n
  all_hold n e none = record { counted = e ∙ h.many ∙ ap length h.list; hold = hold_up n (omega (arith, e)) none }

  back : (n : ℕ) → n + 1 - 1 ≡ n
  back n = omega arith

  before : (n : ℕ) → n < length o.failing → AreNeverTrue o.net o.failing n → HoldUpTo p I (n + 1 - 1)
  before n lt none = subst (HoldUpTo p I) (sym (back n)) (hold_up n (omega arith) none)

  pub first_fails : (n : ℕ) (b : Bit) (v : ℕ → Bool) (duty : Duty) (draws : List Draw) → AreNeverTrue o.net o.failing n → n < length o.failing → slice_get o.failing n ≡ Some b → holds v o.net b ≡ true
      → slice_get o.list n ≡ Some duty → draws ≡ draws_at p v o.net o.sites → FailsFirst p I (n + 1) duty draws
  first_fails n b v duty draws none lt at on named drawn =
      let run = ap (λ (ds : List Draw). Havoc p I (values_of ds)) drawn in
      let told = h.each v in
      record {
        real = omega arith;
        named = ap (slice_get (Duties p I)) (back n) ∙ ap (λ l. slice_get l n) (sym h.list) ∙ named;
        before = before n lt none;
        ends = ap (λ r. r.end) run ∙ (told.ends n b at).0 on;
        makes = ap (λ r. r.draws) run ∙ told.draws ∙ sym drawn;
      }

  pub spent_over : (N n : ℕ) (b : Bit) (s : SpentAt) → 1 ≤ N → slice_get o.failing n ≡ Some b → IsSpentOn N o.net b s → IsSpentOver N o (n + 1) s
  spent_over N n b s some at on = record {
    bit = b;
    named = ap (slice_get o.failing) (back n) ∙ at;
    clauses = on.clauses;
    log = on.log;
    draws = spent_draws N o.net b s some on;
  }

  pub undecided : (N n : ℕ) (b : Bit) (s : SpentAt) → 1 ≤ N → AreNeverTrue o.net o.failing n → n < length o.failing → slice_get o.failing n ≡ Some b → IsSpentOn N o.net b s → IsUndecidedAt N p I (n + 1) N
  undecided N n b s some none lt at on = record {
    budget = refl;
    real = omega arith;
    before = before n lt none;
    obligations = o;
    promised = h;
    spent = s;
    over = spent_over N n b s some at on;
  }

  -- the obligation at n fails
  pub other_shown : (N n : ℕ) (b : Bit) (v : ℕ → Bool) (draws : List Draw) (judged : Judged) → AreNeverTrue o.net o.failing n → n < length o.failing → slice_get o.failing n ≡ Some b → holds v o.net b ≡ true
      → draws ≡ draws_at p v o.net o.sites → IsShown o.list n draws judged → IsOther N p I o judged
  other_shown N n b v draws judged none lt at on drawn s = record {
    right = subst (IsRightOnInvariants N p I) (sym s.verdict) (first_fails n b v s.duty draws none lt at on s.named drawn);
    kept = subst (λ x. IsKept N o x judged.spent) (sym s.verdict) (subst (IsKept N o (CorrectnessNot (n + 1) s.duty draws)) (sym s.spent) tt);
    unconfirmed = subst IsUnconfirmed (sym s.verdict) tt;
  }

  -- the budget was spent on it
  pub other_open : (N n : ℕ) (b : Bit) (s : SpentAt) (judged : Judged) → 1 ≤ N → AreNeverTrue o.net o.failing n → n < length o.failing → slice_get o.failing n ≡ Some b → IsSpentOn N o.net b s
      → IsLeftOpen n N s judged → IsOther N p I o judged
  other_open N n b s judged some none lt at on left = record {
    right = subst (IsRightOnInvariants N p I) (sym left.verdict) (undecided N n b s some none lt at on);
    kept = subst (λ x. IsKept N o x judged.spent) (sym left.verdict) (subst (IsKept N o (Undecided (Conflicts (n + 1) N))) (sym left.spent) (spent_over N n b s some at on));
    unconfirmed = subst IsUnconfirmed (sym left.verdict) tt;
  }
