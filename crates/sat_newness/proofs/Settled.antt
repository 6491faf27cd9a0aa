-- Pairs of numbers, and the clauses that they settle.
use Rattle.std.proofs.Common.{◌≡◌, ◌≢◌, ℕ, ◌+◌, ◌-◌, ◌^◌, ◌<◌, ◌≤◌, ◌⊎◌, inl, inr, Some, List, [], ◌∷◌, ◌++◌, length, ℤ, sym, ◌∙◌, ap, subst, arith}
use Rattle.std.specs.Prelude.{slice_get, slice_set, slice_index}
use Rattle.std.specs.List.{Contains}
use Rattle.std.proofs.lemmas.Bool.{cases_lt}
use Rattle.std.proofs.lemmas.Option.{same_Some, slice_get_within}
use Rattle.std.proofs.lemmas.List.{length-append, length-map}
use Rattle.std.proofs.Math.Nat.{pow-le-pow_right}
use Rattle.clauses.specs.declared.log.Chain.{Chain}
use Rattle.clauses.specs.Log.{given}
use Rattle.clauses.specs.Spent.{IsNew, AreNew, Decides}
use Rattle.sat_newness.specs.declared.pairs.Pair.{Pair}
use Rattle.sat_newness.specs.Clauses.{clauses_of}
use Rattle.sat_newness.specs.Weights.{code, weight, IsTable, IsSettled, AreSettled, IsLast}
use Rattle.sat_newness.specs.Pairs.{HoldsAt, IsPairOf, ArePairs, Settles, IsFound, AreSettledTo}
use Rattle.sat_newness.proofs.Lists.{get_push, get_append, at_contains, get_set_same, get_set_other}
use Rattle.sat_newness.proofs.Logs.{new_more}
use Rattle.sat_newness.proofs.Closed.{new_by}

-- a pair that settles settles each clause that it is one of
pub settled_by : (table : List ℕ) (c : List ℤ) (pair : Pair) → IsPairOf c pair → Settles table pair → IsSettled table c
settled_by table c pair p s =
    let h = p.held s.apart in
    inr (record {
      one = h.0.number;
      other = h.1.number;
      apart = λ e. s.apart (sym h.0.is ∙ ap code e ∙ h.1.is);
      held = h.0.held;
      held_other = h.1.held;
      enough = subst (λ (n : ℕ). 2 ≤ n + weight table h.1.number) (ap (slice_index table) (sym h.0.is)) (subst (λ (n : ℕ). 2 ≤ slice_index table pair.one + n) (ap (slice_index table) (sym h.1.is)) s.enough);
    })

pub no_pair : (c : List ℤ) (pair : Pair) → pair.one ≡ pair.other → IsPairOf c pair
no_pair c pair e = record { held = λ ne. absurd (ne e) }

pub found_two : (table : List ℕ) (c : List ℤ) (pair : Pair) → HoldsAt c pair.one → HoldsAt c pair.other → Settles table pair → IsFound table c pair
found_two table c pair a b s = let p : IsPairOf c pair = record { held = λ _. (a, b) } in record { settled = settled_by table c pair p s; held = p }

pub found_one : (table : List ℕ) (c : List ℤ) (pair : Pair) → HoldsAt c pair.one → pair.one ≡ pair.other → 2 ≤ slice_index table pair.one → IsFound table c pair
found_one table c pair a e h = record {
  settled = inl (record { number = a.number; held = a.held; enough = subst (λ (n : ℕ). 2 ≤ n) (ap (slice_index table) (sym a.is)) h });
  held = no_pair c pair e;
}

-- ---- pairs of all clauses

pub pairs_more : (clauses : List (List ℤ)) (pairs : List Pair) (pair : Pair) → pair.one ≡ pair.other → ArePairs clauses pairs → ArePairs clauses (pairs ++ pair ∷ [])
pairs_more clauses pairs pair e h = record {
  each = λ k c p i j. elim (get_push pairs pair k p j) as (λ _. IsPairOf c p) [
    | inl l ↦ h.each k c p i l
    | inr r ↦ no_pair c p (sym (ap (λ (x : Pair). x.one) r.1) ∙ e ∙ ap (λ (x : Pair). x.other) r.1)
  ];
}

pub pairs_set : (clauses : List (List ℤ)) (pairs : List Pair) (n : ℕ) (c : List ℤ) (pair : Pair) → n < length pairs → slice_get clauses n ≡ Some c → IsPairOf c pair → ArePairs clauses pairs → ArePairs clauses (slice_set pairs n pair)
pairs_set clauses pairs n c pair lt at p h = record {
  each = λ k d q i j. elim (cases_eq k n) as (λ _. IsPairOf d q) [
    | inl e ↦
        let same_pair : pair ≡ q = same_Some pair q (sym (get_set_same pairs n pair lt) ∙ ap (slice_get (slice_set pairs n pair)) (sym e) ∙ j) in
        let same_clause : c ≡ d = same_Some c d (sym at ∙ ap (slice_get clauses) (sym e) ∙ i) in
        subst (λ (x : Pair). IsPairOf d x) same_pair (subst (λ (x : List ℤ). IsPairOf x pair) same_clause p)
    | inr ne ↦ h.each k d q i (sym (get_set_other pairs n k pair ne) ∙ j)
  ];
}
  where
    cases_eq : (k n : ℕ) → (k ≡ n) ⊎ (k ≢ n)
    cases_eq k n = elim (cases_lt k n) as (λ _. (k ≡ n) ⊎ (k ≢ n)) [
      | inl l ↦ inr (λ e. omega arith)
      | inr g ↦ elim (cases_lt n k) as (λ _. (k ≡ n) ⊎ (k ≢ n)) [ inl l ↦ inr (λ e. omega arith) | inr h ↦ inl (omega arith) ]
    ]

-- ---- settled clauses

pub settled_next : (table : List ℕ) (clauses : List (List ℤ)) (n : ℕ) (c : List ℤ) → slice_get clauses n ≡ Some c → IsSettled table c → AreSettledTo table clauses n → AreSettledTo table clauses (n + 1)
settled_next table clauses n c at s h = record {
  each = λ k d lt i. elim (cases_lt k n) as (λ _. IsSettled table d) [
    | inl l ↦ h.each k d l i
    | inr g ↦ let e : n ≡ k = omega arith in subst (λ (x : List ℤ). IsSettled table x) (same_Some c d (sym at ∙ ap (slice_get clauses) e ∙ i)) s
  ];
}

-- by the pair that settled it last
pub settled_kept : (table : List ℕ) (clauses : List (List ℤ)) (pairs : List Pair) (n : ℕ) (pair : Pair) → slice_get pairs n ≡ Some pair → Settles table pair → ArePairs clauses pairs → AreSettledTo table clauses n → AreSettledTo table clauses (n + 1)
settled_kept table clauses pairs n pair at s p h = record {
  each = λ k d lt i. elim (cases_lt k n) as (λ _. IsSettled table d) [
    | inl l ↦ h.each k d l i
    | inr g ↦ let e : k ≡ n = omega arith in settled_by table d pair (p.each n d pair (ap (slice_get clauses) (sym e) ∙ i) at) s
  ];
}

-- the given clauses are the first
pub given_settled : (table : List ℕ) (clauses : List (List ℤ)) (chains : List Chain) → AreSettledTo table (clauses_of clauses chains) (length clauses) → AreSettled table clauses
given_settled table clauses chains h = record {
  each = λ c i. let a = at_contains clauses c i in h.each a.0 c (slice_get_within clauses a.0 c a.1) (get_append clauses (given chains) a.0 c a.1);
}

-- ---- one new clause more
all_settled : (table : List ℕ) (clauses : List (List ℤ)) (n : ℕ) → length clauses ≤ n → AreSettledTo table clauses n → AreSettled table clauses
all_settled table clauses n le h = record {
  each = λ c i. let a = at_contains clauses c i in h.each a.0 c (omega (arith, slice_get_within clauses a.0 c a.1)) a.1;
}

pub new_next : (table : List ℕ) (clauses : List (List ℤ)) (chains : List Chain) (c : List ℤ) (x : ℤ) → IsTable table → IsLast table c x → AreSettledTo table (clauses_of clauses chains) (length clauses + length chains) → AreNew clauses (given chains) → AreNew clauses (given chains ++ c ∷ [])
new_next table clauses chains c x t l s a =
    let all : length (clauses_of clauses chains) ≡ length clauses + length chains = length-append clauses (given chains) ∙ ap (λ n. length clauses + n) (length-map chains (λ chain. chain.gives)) in
    let new : IsNew (clauses_of clauses chains) c = new_by (clauses_of clauses chains) c x table t (all_settled table (clauses_of clauses chains) (length clauses + length chains) (omega (arith, all)) s) l in
    let ne : c ≢ [] = λ e. let i = subst (λ (d : List ℤ). Contains d x) e l.held in absurd (omega (arith, i.1)) in
    new_more clauses (given chains) c a ne new

-- ---- a spent log
pub earned_by : (variables : ℕ) (clauses : List (List ℤ)) (budget k : ℕ) → budget + 2 ≤ 2 ^ (k + 2) → ((j : ℕ) → j ≤ k → Decides j variables clauses → ⊥) → (j : ℕ) → Decides j variables clauses → budget ≤ 2 ^ (j + 1) - 2
earned_by variables clauses budget k within few j d = elim (cases_lt k j) as (λ _. budget ≤ 2 ^ (j + 1) - 2) [
  | inl l ↦ let more : 2 ^ (k + 2) ≤ 2 ^ (j + 1) = pow-le-pow_right {n = 2} (omega arith) {i = k + 2} {j = j + 1} (omega arith) in omega arith
  | inr g ↦ absurd (few j g d)
]
