-- Where a log ends with the empty clause, no assignment satisfies its clauses.
use Rattle.std.proofs.Common.{◌≡◌, ◌∙◌, ℕ, zero, suc, ◌+◌, ◌-◌, inl, inr, Bool, true, false, not, ◌&&◌, ◌||◌, List, [], ◌∷◌, ◌++◌, length, ℤ, pos, negsuc, neg_ℤ, ap, refl, subst, arith}
use Rattle.std.proofs.lemmas.List.Elements.{All-cons, All-nil, All-push, All-contains}
use Rattle.std.specs.List.{All, Contains}
use Rattle.clauses.specs.declared.log.Resolve.{Resolve}
use Rattle.clauses.specs.declared.log.Chain.{Chain}
use Rattle.clauses.specs.Assignment.{number_holds, clause_holds, all_hold}
use Rattle.clauses.specs.Within.{IsOf, AreOf}
use Rattle.clauses.specs.Log.{Resolvent, AreSame, Derives, IsRight, IsAccepted, EndsEmpty, given}
use Rattle.clauses.proofs.Members.{here, there, none_in}
use Rattle.clauses.proofs.Integers.{int_decide}
use Rattle.clauses.proofs.Chains.{all_at}

-- a number of the clause is true, and none is 0
pub record IsTrueOf (v : ℕ → Bool) (c : List ℤ) : Type 0 where
  pub number : ℤ
  pub held : Contains c number
  pub holds : number_holds v number ≡ true
  pub real : Contains c (pos 0) → ⊥

never_both : (v : ℕ → Bool) (x : ℤ) → (x ≡ pos 0 → ⊥) → number_holds v x ≡ true → number_holds v (neg_ℤ x) ≡ true → ⊥
never_both v (pos zero) real h g = real refl
never_both v (pos (suc n)) real h g = flipped (v (suc n)) h (ap (λ k. not (v k)) (suc_is n) ∙ g)
  where
    flipped : (b : Bool) → b ≡ true → not b ≡ true → ⊥
    flipped true h g = cc
    flipped false h g = cc

    suc_is : (n : ℕ) → suc n ≡ n + 1
    suc_is n = omega arith
never_both v (negsuc n) real h g = flipped (v (n + 1)) (ap v (suc_is n) ∙ g) h
  where
    flipped : (b : Bool) → b ≡ true → not b ≡ true → ⊥
    flipped true h g = cc
    flipped false h g = cc

    suc_is : (n : ℕ) → n + 1 ≡ suc n
    suc_is n = omega arith

resolvent_true : (v : ℕ → Bool) (a b r : List ℤ) (on : ℕ) → Resolvent a b on r → IsTrueOf v a → IsTrueOf v b → IsTrueOf v r
resolvent_true v a b r on p ha hb =
    let real : (Contains r (pos 0) → ⊥) = λ i. elim ((p.members (pos 0)).0 i) [ inl l ↦ ha.real l.0 | inr l ↦ hb.real l.0 ] in
    elim (int_decide ha.number p.number) [
      | inr d ↦ record { number = ha.number; held = (p.members ha.number).1 (inl (ha.held, d)); holds = ha.holds; real = real }
      | inl e ↦ elim (int_decide hb.number (neg_ℤ p.number)) [
        | inr d ↦ record { number = hb.number; held = (p.members hb.number).1 (inr (hb.held, d)); holds = hb.holds; real = real }
        | inl q ↦ absurd (never_both v p.number (λ z. ha.real (subst (Contains a) z p.clash.left)) (subst (λ x. number_holds v x ≡ true) e ha.holds) (subst (λ x. number_holds v x ≡ true) q hb.holds))
      ]
    ]

same_true : (v : ℕ → Bool) (a b : List ℤ) → AreSame a b → IsTrueOf v a → IsTrueOf v b
same_true v a b same h = record { number = h.number; held = (same h.number).0 h.held; holds = h.holds; real = λ i. h.real ((same (pos 0)).1 i) }

derived_true : (v : ℕ → Bool) (clauses : List (List ℤ)) (a : List ℤ) (steps : List Resolve) (last : List ℤ) → All (IsTrueOf v) clauses → IsTrueOf v a → Derives clauses a steps last → IsTrueOf v last
derived_true v clauses a [] last all h d = same_true v a last d h
derived_true v clauses a (s ∷ ss) last all h d =
    derived_true v clauses d.1 ss last all (resolvent_true v a d.0 d.1 s.on d.3 h (all_at (IsTrueOf v) clauses (s.with - 1) d.0 all d.2.1)) d.4

right_true : (v : ℕ → Bool) (clauses : List (List ℤ)) (chain : Chain) → All (IsTrueOf v) clauses → IsRight clauses chain → IsTrueOf v chain.gives
right_true v clauses chain all r = derived_true v clauses r.0 chain.steps chain.gives all (all_at (IsTrueOf v) clauses (chain.start - 1) r.0 all r.1.1) r.2

-- what right chains give is true wherever the clauses are
pub given_true : (v : ℕ → Bool) (clauses : List (List ℤ)) (chains : List Chain) → All (IsTrueOf v) clauses → IsAccepted clauses chains → All (IsTrueOf v) (given chains)
given_true v clauses [] all a = All-nil (IsTrueOf v)
given_true v clauses (chain ∷ chains) all a =
    let first = right_true v clauses chain all a.0 in
    All-cons (IsTrueOf v) chain.gives (given chains) first (given_true v (clauses ++ chain.gives ∷ []) chains (All-push (IsTrueOf v) clauses chain.gives all first) a.1)

-- ---- from an assignment that satisfies clauses
one_of : (v : ℕ → Bool) (c : List ℤ) → clause_holds v c ≡ true → (y : ℤ) × Contains c y × (number_holds v y ≡ true)
one_of v [] h = absurd (let f : false ≡ true = h in cc)
one_of v (x ∷ xs) h = first_or v x xs (number_holds v x) refl h (one_of v xs)
  where
    first_or : (v : ℕ → Bool) (x : ℤ) (xs : List ℤ) (b : Bool) → number_holds v x ≡ b → (b || clause_holds v xs) ≡ true → (clause_holds v xs ≡ true → (y : ℤ) × Contains xs y × (number_holds v y ≡ true)) → (y : ℤ) × Contains (x ∷ xs) y × (number_holds v y ≡ true)
    first_or v x xs true e h later = (x, here x xs, e)
    first_or v x xs false e h later = let l = later h in (l.0, there x xs l.0 l.1, l.2)

all_true : (v : ℕ → Bool) (clauses : List (List ℤ)) → ((c : List ℤ) → Contains clauses c → Contains c (pos 0) → ⊥) → all_hold v clauses ≡ true → All (IsTrueOf v) clauses
unfolding all_hold
all_true v [] real h = All-nil (IsTrueOf v)
all_true v (c ∷ cs) real h =
    let both = parts (clause_holds v c) (all_hold v cs) h in
    let one = one_of v c both.0 in
    All-cons (IsTrueOf v) c cs (record { number = one.0; held = one.1; holds = one.2; real = real c (here c cs) }) (all_true v cs (λ d i. real d (there c cs d i)) both.1)
  where
    parts : (a b : Bool) → (a && b) ≡ true → (a ≡ true) × (b ≡ true)
    parts true b e = (refl, e)
    parts false b e = absurd (let f : false ≡ true = e in cc)

pub refuted : (variables : ℕ) (clauses : List (List ℤ)) (chains : List Chain) → AreOf variables clauses → IsAccepted clauses chains → EndsEmpty chains → (v : ℕ → Bool) → all_hold v clauses ≡ false
refuted variables clauses chains within a ends v = never (all_hold v clauses) (λ h.
    let all = given_true v clauses chains (all_true v clauses (λ c i j. real c i j) h) a in
    let last = all_at (IsTrueOf v) (given chains) (length chains - 1) [] all ends in
    none_in last.number last.held)
  where
    never : (b : Bool) → (b ≡ true → ⊥) → b ≡ false
    never true h = absurd (h refl)
    never false h = refl

    real : (c : List ℤ) → Contains clauses c → Contains c (pos 0) → ⊥
    real c i j = let w = All-contains (IsOf variables) c (pos 0) (All-contains (All (IsOf variables)) clauses c within i) j in omega (arith, w.0)
