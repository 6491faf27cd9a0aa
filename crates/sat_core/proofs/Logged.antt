-- The log grows, and what it is worth in the end.
use Rattle.std.proofs.Common.{◌≡◌, ◌≢◌, ℕ, ◌+◌, ◌-◌, ◌<◌, inl, inr, Bool, Some, List, [], ◌∷◌, ◌++◌, length, get_or, ℤ, refl, sym, ◌∙◌, ap, subst, arith}
use Rattle.std.specs.Prelude.{slice_get}
use Rattle.std.specs.List.{Contains}
use Rattle.std.proofs.lemmas.List.{append_assoc, append-nil, length_push, length-map}
use Rattle.std.proofs.lemmas.List.Elements.{Contains-append_left, Contains-push, Contains-push_cases, Contains-get_or}
use Rattle.clauses.specs.declared.log.Chain.{Chain}
use Rattle.clauses.specs.Log.{given, IsRight, IsAccepted}
use Rattle.clauses.specs.Spent.{AreNew, IsSpent}
use Rattle.clauses.proofs.Count.{AreDistinct, AreShort, short_within}
use Rattle.sat_newness.specs.Clauses.{clauses_of}
use Rattle.sat_core.specs.Derived.{AreOnce}
use Rattle.sat_core.specs.Learned.{Blocks, IsLearned}
use Rattle.sat_core.specs.Answers.{AreAllOnce, IsRefuted, AreApart, IsLog}
use Rattle.sat_newness.proofs.Lists.{get_pushed, cons_cases}
use Rattle.sat_newness.proofs.Logs.{new_more, given_more, clauses_more}

accepted_more : (clauses : List (List ℤ)) (chains : List Chain) (chain : Chain) → IsAccepted clauses chains → IsRight (clauses ++ given chains) chain → IsAccepted clauses (chains ++ chain ∷ [])
accepted_more clauses [] chain a r = (subst (λ (cs : List (List ℤ)). IsRight cs chain) (append-nil clauses) r, tt)
accepted_more clauses (x ∷ xs) chain a r = (a.0, accepted_more (clauses ++ x.gives ∷ []) xs chain a.1 (subst (λ (cs : List (List ℤ)). IsRight cs chain) (sym (append_assoc clauses (x.gives ∷ []) (given xs))) r))

once_more : (chains : List Chain) (chain : Chain) → AreAllOnce chains → AreOnce chain.steps → AreAllOnce (chains ++ chain ∷ [])
once_more chains chain a o = λ x i. elim (Contains-push_cases chains chain x i) as (λ _. AreOnce x.steps) [
  | inl j ↦ a x j
  | inr e ↦ subst (λ (y : Chain). AreOnce y.steps) e o
]

pub log_none : (clauses : List (List ℤ)) (size : ℕ) → IsLog clauses size []
log_none clauses size = record {
  accepted = tt;
  fresh = tt;
  once = λ x i. absurd (omega (arith, i.1));
  blocked = [];
  many = refl;
  apart = tt;
  by = λ w i. absurd (omega (arith, i.1));
  few = λ k v e d w i. absurd (omega (arith, i.1));
}

pub log_more : (clauses : List (List ℤ)) (size : ℕ) (chains : List Chain) (chain : Chain) → IsLog clauses size chains → IsLearned clauses size (clauses_of clauses chains) chain → chain.gives ≢ [] → IsLog clauses size (chains ++ chain ∷ [])
log_more clauses size chains chain log l ne =
    let f = l.fresh ne in
    let more = clauses_more clauses chains chain in
    record {
      accepted = accepted_more clauses chains chain log.accepted l.right;
      fresh = subst (λ (gs : List (List ℤ)). AreNew clauses gs) (sym (given_more chains chain)) (new_more clauses (given chains) chain.gives log.fresh ne f.new);
      once = once_more chains chain log.once l.once;
      blocked = f.values ∷ log.blocked;
      many = omega (arith, log.many, length_push chains chain);
      apart = (λ i. let b = log.by f.values i in f.first b.0 b.1 b.2, log.apart);
      by = λ w i. elim (cons_cases f.values w log.blocked i) as (λ _. (c : List ℤ) × Contains (clauses_of clauses (chains ++ chain ∷ [])) c × Blocks c w) [
        | inl e ↦ (chain.gives, subst (λ (cs : List (List ℤ)). Contains cs chain.gives) (sym more) (Contains-push (clauses_of clauses chains) chain.gives), subst (λ (v : List Bool). Blocks chain.gives v) e f.blocks)
        | inr j ↦ let b = log.by w j in (b.0, subst (λ (cs : List (List ℤ)). Contains cs b.0) (sym more) (Contains-append_left (clauses_of clauses chains) (chain.gives ∷ []) b.0 b.1), b.2)
      ];
      few = λ k v e d w i. elim (cons_cases f.values w log.blocked i) as (λ _. length w < k) [
        | inl q ↦ subst (λ (x : List Bool). length x < k) q (f.few k v e d)
        | inr j ↦ log.few k v e d w j
      ];
    }

pub log_refutes : (clauses : List (List ℤ)) (size budget : ℕ) (chains : List Chain) (chain : Chain) → IsLog clauses size chains → IsLearned clauses size (clauses_of clauses chains) chain → chain.gives ≡ [] → length chains < budget → IsRefuted clauses budget (chains ++ chain ∷ [])
log_refutes clauses size budget chains chain log l e lt =
    let long : length (chains ++ chain ∷ []) ≡ length chains + 1 = length_push chains chain in
    let last : length (chains ++ chain ∷ []) - 1 ≡ length (given chains) = omega (arith, length-map chains (λ c. c.gives)) in
    record {
      refutes = record {
        accepted = accepted_more clauses chains chain log.accepted l.right;
        ends = ap (λ gs. slice_get gs (length (chains ++ chain ∷ []) - 1)) (given_more chains chain) ∙ ap (slice_get (given chains ++ chain.gives ∷ [])) last ∙ get_pushed (given chains) chain.gives ∙ ap Some e;
      };
      few = omega arith;
      once = once_more chains chain log.once l.once;
    }

distinct_of : (xs : List (List Bool)) → AreApart xs → AreDistinct xs
distinct_of [] h = tt
distinct_of (x ∷ xs) h = (h.0, distinct_of xs h.1)

pub log_spent : (clauses : List (List ℤ)) (variables budget : ℕ) (chains : List Chain) → IsLog clauses (variables + 1) chains → length chains ≡ budget → IsSpent variables clauses chains budget
log_spent clauses variables budget chains log e = record {
  accepted = log.accepted;
  exactly = e;
  fresh = log.fresh;
  earned = λ k d.
      let short : AreShort k log.blocked = λ j x lt. log.few k variables refl d (get_or log.blocked j x) (Contains-get_or log.blocked j x lt) in
      omega (arith, short_within k log.blocked short (distinct_of log.blocked log.apart), log.many);
}
