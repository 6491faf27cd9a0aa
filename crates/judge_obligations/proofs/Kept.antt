-- Logs in the order of their obligations.
use Rattle.std.proofs.Common.{◌≡◌, ℕ, ◌+◌, ◌<◌, true, List, [], ◌∷◌, ◌++◌, length, get_or, Some, inl, inr, sym, ◌∙◌, ap, subst, arith}
use Rattle.std.specs.Prelude.{slice_get}
use Rattle.std.proofs.lemmas.Bool.{cases_lt}
use Rattle.std.proofs.lemmas.List.{length_push, get_or_push, get_or_append_left}
use Rattle.std.proofs.lemmas.List.Elements.{All-nil, All-push}
use Rattle.std.proofs.lemmas.Option.{get_or_from_slice_get, slice_get-get_or}
use Rattle.c_core.specs.Tree.{Program}
use Rattle.c_meaning.specs.Duties.{Placed}
use Rattle.circuits.specs.declared.net.Bit.{Bit}
use Rattle.clauses.specs.Accepted.{AreRefuted, RefutesBit}
use Rattle.clauses.specs.declared.log.Refutation.{Refutation}
use Rattle.sym_duties.specs.declared.obligations.Obligations.{Obligations}
use Rattle.bit_answers.specs.Deciding.{IsNeverTrue, IsShort, IsShownBy}
use Rattle.judge_obligations.specs.Deciding.{AreNeverTrue}
use Rattle.judge_obligations.specs.Logged.{AreKept, AreProved}
use Rattle.judge_obligations.specs.Verdicts.{AreObligationsOf}
use Rattle.judge_obligations.proofs.Verdicted.{all_hold}

module _ (N : ℕ) (o : Obligations) where
  -- the log shows the failing bit at n
  abbrev Shows : ℕ → Refutation → Type 0
  Shows n log = (b : Bit) → slice_get o.failing n ≡ Some b → IsShownBy N o.net b log

  pub never_passed : (n : ℕ) → AreNeverTrue o.net o.failing n → ((b : Bit) → slice_get o.failing n ≡ Some b → IsNeverTrue o.net b) → AreNeverTrue o.net o.failing (n + 1)
  never_passed n none passed i x lt here = elim (cases_lt i n) as (λ _. IsNeverTrue o.net x) [
    | inl less ↦ none i x less here
    | inr ge ↦ let e : n ≡ i = omega (arith, ge, lt) in passed x (ap (slice_get o.failing) e ∙ here)
  ]

  pub kept_none : AreKept N o 0 []
  kept_none = record {
    many = omega arith;
    refuted = λ i b log lt at log_at. absurd (omega (arith, lt));
    short = All-nil (IsShort N);
    none = λ i b lt at. absurd (omega (arith, lt));
  }

  refuted_more : (n : ℕ) (logs : List Refutation) (log : Refutation) → length logs ≡ n → AreRefuted o.net o.failing logs n → Shows n log → AreRefuted o.net o.failing (logs ++ log ∷ []) (n + 1)
  refuted_more n logs log many all shows i x y lt here there =
      let last = get_or_from_slice_get (logs ++ log ∷ []) i y log there in
      elim (cases_lt i n) as (λ _. RefutesBit o.net x y) [
        | inl less ↦
            let inside : i < length logs = omega (arith, many, less) in
            all i x y less here (slice_get-get_or logs i log inside ∙ ap Some (sym (get_or_append_left logs (log ∷ []) log i inside) ∙ last))
        | inr ge ↦
            let e : n ≡ i = omega (arith, ge, lt) in
            subst (RefutesBit o.net x) (sym (get_or_push logs log log i (many ∙ e)) ∙ last) (shows x (ap (slice_get o.failing) e ∙ here)).refutes
      ]

  pub kept_more : (n : ℕ) (logs after : List Refutation) (log : Refutation) → after ≡ logs ++ log ∷ [] → AreKept N o n logs → n < length o.failing → Shows n log → AreKept N o (n + 1) after
  kept_more n logs after log e kept lt shows =
      let b = get_or o.failing n no_bit in
      let shown = shows b (slice_get-get_or o.failing n no_bit lt) in
      subst (AreKept N o (n + 1)) (sym e) (record {
        many = length_push logs log ∙ ap (λ k. k + 1) kept.many;
        refuted = refuted_more n logs log kept.many kept.refuted shows;
        short = All-push (IsShort N) logs log kept.short shown.short;
        none = never_passed n kept.none (λ b here. (shows b here).never);
      })
    where
      -- what stands where a list has no bit
      no_bit : Bit
      no_bit = record { node = 0; negated = true }

  pub proved : (p : Program) (I : List Placed) (n : ℕ) (logs : List Refutation) → AreObligationsOf p I o → n ≡ length o.failing → AreKept N o n logs → AreProved N p I o logs
  proved p I n logs h e kept = record {
    accepted = record { many = kept.many ∙ e; each = subst (AreRefuted o.net o.failing logs) e kept.refuted };
    short = kept.short;
    hold = all_hold p I o h (length logs) (kept.many ∙ e) (subst (AreNeverTrue o.net o.failing) (sym kept.many) kept.none);
  }
