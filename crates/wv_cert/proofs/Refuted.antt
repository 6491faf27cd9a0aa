-- What a log that was checked says of a bit.
use Rattle.std.proofs.Common.{◌≡◌, ℕ, ◌+◌, ◌-◌, ◌<◌, Bool, true, false, List, [], ◌∷◌, ◌++◌, ℤ, length, get_or, Some, inl, inr, arith, refl, sym, ap, subst, ◌∙◌}
use Rattle.std.specs.Prelude.{slice_get}
use Rattle.std.proofs.lemmas.Bool.{cases_lt, false_from_ne_true}
use Rattle.std.proofs.lemmas.List.{ext_get_or}
use Rattle.std.proofs.lemmas.Option.{same_Some, get_or_from_slice_get, slice_get_within}
use Rattle.circuits.specs.declared.net.Bit.{Bit}
use Rattle.circuits.specs.declared.net.NetNode.{NetNode}
use Rattle.circuits.specs.Net.{holds, IsIn}
use Rattle.circuits.specs.Numbers.{AreIn}
use Rattle.clauses.specs.Accepted.{Accepted, AreRefuted, RefutesBit}
use Rattle.clauses.specs.Log.{Refutes}
use Rattle.clauses.specs.Tseitin.{ClausesOf, Flags, Fulfils, clauses_below, literal}
use Rattle.clauses.specs.Within.{AreOf}
use Rattle.clauses.specs.declared.log.Chain.{Chain}
use Rattle.clauses.specs.declared.log.Refutation.{Refutation}
use Rattle.clauses.proofs.Soundness.{refuted}
use Rattle.wv_cert.specs.Accepted.{AcceptedIsYes, AreNeverTrue, IsNeverTrue, IsRefusedAt}
use Rattle.wv_cert.specs.declared.checking.Rechecked.TheVariants.{Yes, No, Count}
use Rattle.wv_cert.proofs.Digits.{never}

same_truth : (a b : Bool) → (a ≡ true → b ≡ true) → (b ≡ true → a ≡ true) → a ≡ b
same_truth true true f g = refl
same_truth true false f g = never (f refl)
same_truth false true f g = never (g refl)
same_truth false false f g = refl

same_flags : (net : List NetNode) (b : Bit) (f g : List Bool) → Flags net b f → Flags net b g → f ≡ g
same_flags net b f g these those =
    ext_get_or false f g (these.many ∙ sym those.many) (λ at lt.
    let inside : at < length net = omega (arith, these.many) in
    same_truth (get_or f at false) (get_or g at false) (λ on. (those.is at inside).1 ((these.is at inside).0 on)) (λ on. (these.is at inside).1 ((those.is at inside).0 on)))

-- a bit has one clause form
pub one_form : (net : List NetNode) (b : Bit) (m n : ℕ) (these those : List (List ℤ)) → ClausesOf net b m these → ClausesOf net b n those → these ≡ those
one_form net b m n these those left right =
    left.listed ∙ ap (λ f. clauses_below f net (length net) ++ (literal f net b ∷ []) ∷ []) (same_flags net b left.flags right.flags left.reached right.reached)
    ∙ sym right.listed

pub refutes_bit : (net : List NetNode) (b : Bit) (log : Refutation) (variables : ℕ) (clauses : List (List ℤ)) → ClausesOf net b variables clauses → RefutesBit net b log → Refutes clauses log.chains
refutes_bit net b log variables clauses are h = subst (λ cs. Refutes cs log.chains) (one_form net b h.variables variables h.clauses clauses h.are are) h.refuted

pub refuted_never : (net : List NetNode) (b : Bit) {variables : ℕ} {clauses : List (List ℤ)} {chains : List Chain} → Fulfils net b clauses → AreOf variables clauses → Refutes clauses chains → IsNeverTrue net b
refuted_never net b {variables} {clauses} {chains} f w r v = false_from_ne_true (holds v net b) (λ h.
    let made = f v h in
    never (sym (refuted variables clauses chains w r.accepted r.ends made.0) ∙ made.2))

-- one more log
pub refuted_more : (net : List NetNode) (failing : List Bit) (logs : List Refutation) (n : ℕ) (b : Bit) (log : Refutation) → AreRefuted net failing logs n
    → slice_get failing n ≡ Some b → slice_get logs n ≡ Some log → RefutesBit net b log → AreRefuted net failing logs (n + 1)
refuted_more net failing logs n b log all at log_at one i x y lt here there = elim (cases_lt i n) as (λ _. RefutesBit net x y) [
  | inl less ↦ all i x y less here there
  | inr ge ↦
      let e : n ≡ i = omega (arith, ge, lt) in
      let bits : b ≡ x = same_Some b x (sym at ∙ ap (slice_get failing) e ∙ here) in
      let same : log ≡ y = same_Some log y (sym log_at ∙ ap (slice_get logs) e ∙ there) in
      subst (λ l. RefutesBit net x l) same (subst (λ c. RefutesBit net c log) bits one)
]

-- one more bit that is never true
pub never_more : (net : List NetNode) (failing : List Bit) (n : ℕ) (b : Bit) → AreNeverTrue net failing n → slice_get failing n ≡ Some b → IsNeverTrue net b → AreNeverTrue net failing (n + 1)
never_more net failing n b none at one i x lt here = elim (cases_lt i n) as (λ _. IsNeverTrue net x) [
  | inl less ↦ none i x less here
  | inr ge ↦ let e : n ≡ i = omega (arith, ge, lt) in subst (IsNeverTrue net) (same_Some b x (sym at ∙ ap (slice_get failing) e ∙ here)) one
]

pub inside : (net : List NetNode) (failing : List Bit) → AreIn net failing → (n : ℕ) (b : Bit) → slice_get failing n ≡ Some b → IsIn net b
inside net failing are n b at = subst (IsIn net) (get_or_from_slice_get failing n b b at) (are n b (slice_get_within failing n b at))

pub refused_at : (net : List NetNode) (failing : List Bit) (logs : List Refutation) (at number : ℕ) (b : Bit) (log : Refutation) → number ≡ at + 1
    → length logs ≡ length failing → AreRefuted net failing logs at → slice_get failing at ≡ Some b → slice_get logs at ≡ Some log → (RefutesBit net b log → ⊥)
    → IsRefusedAt net failing logs number
refused_at net failing logs at number b log e many all bit_at log_at none =
    let back : at ≡ number - 1 = omega (arith, e) in
    record {
      real = omega (arith, e);
      many = many;
      before = subst (AreRefuted net failing logs) back all;
      bit = b;
      log = log;
      bit_named = subst (λ n. slice_get failing n ≡ Some b) back bit_at;
      log_named = subst (λ n. slice_get logs n ≡ Some log) back log_at;
      refused = none;
    }

pub accepted : (net : List NetNode) (failing : List Bit) (logs : List Refutation) (at : ℕ) → at ≡ length failing → length logs ≡ length failing
    → AreRefuted net failing logs at → Accepted net failing logs
accepted net failing logs at e many all = record { many = many; each = subst (AreRefuted net failing logs) e all }

pub accepted_yes : AcceptedIsYes
accepted_yes net failing logs (Yes count) all is = ap Yes is.0
accepted_yes net failing logs (No index) all is = absurd (is.refused (all.each (index - 1) is.bit is.log (slice_get_within failing (index - 1) is.bit is.bit_named) is.bit_named is.log_named))
accepted_yes net failing logs (Count expected found) all is = absurd (is.2 all.many)
