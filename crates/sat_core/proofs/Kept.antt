-- What a trail keeps where values or clauses come, or values go.
use Rattle.std.proofs.Common.{◌≡◌, ℕ, ◌<◌, ◌≤◌, inl, inr, Option, Some, None, List, [], ◌∷◌, ◌++◌, length, take, ℤ, pos, neg_ℤ, refl, sym, ◌∙◌, subst, arith}
use Rattle.std.specs.Prelude.{slice_get}
use Rattle.std.specs.List.{Contains}
use Rattle.std.specs.Ordering.{int_eq}
use Rattle.std.proofs.lemmas.Bool.{cases_lt}
use Rattle.std.proofs.lemmas.Bool.Decides.{Decides-int_eq}
use Rattle.std.proofs.lemmas.Option.{none-some, same_Some, slice_get_within}
use Rattle.std.proofs.lemmas.List.Elements.{Contains-push_cases}
use Rattle.sat_core.specs.declared.trail.Assigned.{Assigned}
use Rattle.sat_core.specs.Trail.{number, Holds, HasValue, IsSettledBy, Settled, Implied, Decided, Why, Follows, IsTrail}
use Rattle.sat_core.specs.Derived.{AreTwo, AreBelow, IsOfDecisions}
use Rattle.sat_newness.proofs.Lists.{get_append, get_push, get_take}
use Rattle.sat_newness.proofs.Others.{Decides-cases}
use Rattle.sat_core.proofs.Places.{one_place, valued_neg, value_later, holds_grown, value_grown, holds_ungrown, value_ungrown, holds_cut, value_cut, holds_uncut, value_uncut}

pub same_pos : (m n : ℕ) → pos m ≡ pos n → m ≡ n
same_pos m n e = cc

settled_moved : (clauses : List (List ℤ)) (t u : List Assigned) (n : ℕ) → ((x : ℤ) → Holds t n x → Holds u n x) → ((x : ℤ) → Holds u n x → Holds t n x) → Settled clauses t n → Settled clauses u n
settled_moved clauses t u n to from s = record {
  each = λ c i. record {
    closed = λ x j p. to x ((s.each c i).closed x j (λ y k ne. from (neg_ℤ y) (p y k ne)));
    stands = λ p. (s.each c i).stands (λ y k. from (neg_ℤ y) (p y k));
  };
}

why_moved : (clauses : List (List ℤ)) (t u : List Assigned) (n : ℕ) (e : Assigned) → ((x : ℤ) → Holds t n x → Holds u n x) → ((x : ℤ) → Holds u n x → Holds t n x) → ((v : ℕ) → HasValue t n v → HasValue u n v) → (r : Option ℕ) → Why clauses t n e r → Why clauses u n e r
why_moved clauses t u n e to from vto (Some r) w = record { clause = w.clause; named = w.named; held = w.held; others = λ y i ne. to (neg_ℤ y) (w.others y i ne) }
why_moved clauses t u n e to from vto None w = record { value = w.value; least = λ v real lt. vto v (w.least v real lt); settled = settled_moved clauses t u n to from w.settled }

follows_moved : (clauses : List (List ℤ)) (size : ℕ) (t u : List Assigned) (n : ℕ) (e : Assigned) → ((x : ℤ) → Holds t n x → Holds u n x) → ((x : ℤ) → Holds u n x → Holds t n x) → ((v : ℕ) → HasValue t n v → HasValue u n v) → ((v : ℕ) → HasValue u n v → HasValue t n v) → Follows clauses size t n e → Follows clauses size u n e
follows_moved clauses size t u n e to from vto vfrom f = record { real = f.real; within = f.within; first = λ h. f.first (vfrom e.variable h); why = why_moved clauses t u n e to from vto e.reason f.why }

-- one value more
pub trail_grown : (clauses : List (List ℤ)) (size : ℕ) (t : List Assigned) (e : Assigned) → IsTrail clauses size t → Follows clauses size t (length t) e → IsTrail clauses size (t ++ e ∷ [])
trail_grown clauses size t e h f = record {
  each = λ n g q. elim (get_push t e n g q) as (λ _. Follows clauses size (t ++ e ∷ []) n g) [
    | inl there ↦ let le : n ≤ length t = omega (arith, slice_get_within t n g there) in
        follows_moved clauses size t (t ++ e ∷ []) n g (holds_grown t (e ∷ []) n) (λ x. holds_ungrown t (e ∷ []) n x le) (value_grown t (e ∷ []) n) (λ v. value_ungrown t (e ∷ []) n v le) (h.each n g there)
    | inr last ↦ subst (λ (g : Assigned). Follows clauses size (t ++ e ∷ []) n g) last.1 (subst (λ (m : ℕ). Follows clauses size (t ++ e ∷ []) m e) (sym last.0)
        (let le : length t ≤ length t = omega arith in
        follows_moved clauses size t (t ++ e ∷ []) (length t) e (holds_grown t (e ∷ []) (length t)) (λ x. holds_ungrown t (e ∷ []) (length t) x le) (value_grown t (e ∷ []) (length t)) (λ v. value_ungrown t (e ∷ []) (length t) v le) f))
  ];
}

-- the front of a trail
pub trail_cut : (clauses : List (List ℤ)) (size : ℕ) (t : List Assigned) (q : ℕ) → IsTrail clauses size t → IsTrail clauses size (take q t)
trail_cut clauses size t q h = record {
  each = λ n g i.
      let a = get_take q t n g i in
      let le : n ≤ q = omega (arith, a.0) in
      follows_moved clauses size t (take q t) n g (λ x. holds_cut t q n x le) (holds_uncut t q n) (λ v. value_cut t q n v le) (value_uncut t q n) (h.each n g a.1);
}

settled_added : (clauses : List (List ℤ)) (t : List Assigned) (n : ℕ) (c : List ℤ) → Settled clauses t n → IsSettledBy t n c → Settled (clauses ++ c ∷ []) t n
settled_added clauses t n c s k = record {
  each = λ d i. elim (Contains-push_cases clauses c d i) as (λ _. IsSettledBy t n d) [
    | inl j ↦ s.each d j
    | inr e ↦ subst (λ (d : List ℤ). IsSettledBy t n d) e k
  ];
}

why_added : (clauses : List (List ℤ)) (t : List Assigned) (n : ℕ) (e : Assigned) (c : List ℤ) (r : Option ℕ) → Why clauses t n e r → (r ≡ None → IsSettledBy t n c) → Why (clauses ++ c ∷ []) t n e r
why_added clauses t n e c (Some r) w k = record { clause = w.clause; named = get_append clauses (c ∷ []) r w.clause w.named; held = w.held; others = w.others }
why_added clauses t n e c None w k = record { value = w.value; least = w.least; settled = settled_added clauses t n c w.settled (k refl) }

pub trail_added : (clauses : List (List ℤ)) (size : ℕ) (t : List Assigned) (c : List ℤ) → IsTrail clauses size t → ((n : ℕ) (e : Assigned) → slice_get t n ≡ Some e → e.reason ≡ None → IsSettledBy t n c) → IsTrail (clauses ++ c ∷ []) size t
trail_added clauses size t c h k = record {
  each = λ n e i.
      let f = h.each n e i in
      record { real = f.real; within = f.within; first = f.first; why = why_added clauses t n e c e.reason f.why (k n e i) };
}

decided_of : (clauses : List (List ℤ)) (t : List Assigned) (n : ℕ) (e : Assigned) (r : Option ℕ) → r ≡ None → Why clauses t n e r → Decided clauses t n e
decided_of clauses t n e (Some r) q w = absurd (none-some r (sym q))
decided_of clauses t n e None q w = w

pub decision : (clauses : List (List ℤ)) (size : ℕ) (t : List Assigned) → IsTrail clauses size t → (n : ℕ) (e : Assigned) → slice_get t n ≡ Some e → e.reason ≡ None → Decided clauses t n e
decision clauses size t h n e i q = decided_of clauses t n e e.reason q (h.each n e i).why

-- a decision on a variable is later than those on variables below it
pub later_open : (clauses : List (List ℤ)) (size : ℕ) (t : List Assigned) → IsTrail clauses size t → (n m : ℕ) (e d : Assigned) → slice_get t n ≡ Some e → slice_get t m ≡ Some d → d.reason ≡ None → e.variable ≤ d.variable → HasValue t n d.variable → ⊥
later_open clauses size t h n m e d i j q le a =
    let same : a.at ≡ m = one_place clauses size t h a.at m a.entry d a.there j a.is in
    let lt : m < n = omega (arith, a.before) in
    elim (cases_lt e.variable d.variable) as (λ _. ⊥) [
      | inl l ↦ (h.each n e i).first (value_later t m n e.variable (omega arith) ((decision clauses size t h m d j q).least e.variable (h.each n e i).real l))
      | inr g ↦ let k : d.variable ≡ e.variable = omega arith in (h.each n e i).first (subst (λ (v : ℕ). HasValue t n v) k a)
    ]

-- under a decision up to the last but one number of the clause, both it and a further number are open
settled_above : (clauses : List (List ℤ)) (size : ℕ) (t : List Assigned) → IsTrail clauses size t → (c : List ℤ) (above : ℕ) → AreTwo c above → IsOfDecisions t c → (n : ℕ) (e : Assigned) → slice_get t n ≡ Some e → e.variable ≤ above → IsSettledBy t n c
settled_above clauses size t h c above two of n e i le =
    let still_open : (v : ℕ) → above ≤ v → Contains c (pos v) → Holds t n (neg_ℤ (pos v)) → ⊥ = λ v ge j a.
    let d = of.each (pos v) j in
    let same : v ≡ d.1.variable = same_pos v d.1.variable d.4 in
    later_open clauses size t h n d.0 e d.1 i d.2 d.3 (omega arith) (subst (λ (w : ℕ). HasValue t n w) same (valued_neg t n (pos v) a)) in
    let less : above < two.other = two.less in
    record {
      closed = λ x j p. elim (Decides-cases (int_eq x (pos above)) (x ≡ pos above) (Decides-int_eq x (pos above))) as (λ _. Holds t n x) [
        | inl q ↦ absurd (still_open two.other (omega arith) two.held_other (p (pos two.other) two.held_other (λ k. let z : two.other ≡ above = same_pos two.other above (k ∙ q) in absurd (omega arith))))
        | inr q ↦ absurd (still_open above (omega arith) two.held (p (pos above) two.held (λ k. q (sym k))))
      ];
      stands = λ p. still_open above (omega arith) two.held (p (pos above) two.held);
    }

-- the clause added, and the values behind a place taken back
pub learned_trail : (clauses : List (List ℤ)) (size : ℕ) (t : List Assigned) → IsTrail clauses size t → (c : List ℤ) (q above : ℕ) → AreBelow t q above → (0 < above → AreTwo c above) → IsOfDecisions t c → IsTrail (clauses ++ c ∷ []) size (take q t)
learned_trail clauses size t h c q above below two of =
    trail_added clauses size (take q t) c (trail_cut clauses size t q h) (λ n e i d.
    let a = get_take q t n e i in
    let le : e.variable ≤ above = below.each n e a.0 a.1 d in
    let real : 0 < e.variable = (h.each n e a.1).real in
    let s = settled_above clauses size t h c above (two (omega arith)) of n e a.1 le in
    let nq : n ≤ q = omega (arith, a.0) in
    record {
      closed = λ x j p. holds_cut t q n x nq (s.closed x j (λ y k ne. holds_uncut t q n (neg_ℤ y) (p y k ne)));
      stands = λ p. s.stands (λ y k. holds_uncut t q n (neg_ℤ y) (p y k));
    })

implied_at : (clauses : List (List ℤ)) (t : List Assigned) (n : ℕ) (e : Assigned) (r : Option ℕ) (k : ℕ) → r ≡ Some k → Why clauses t n e r → Implied clauses t n (number e) k
implied_at clauses t n e (Some j) k q w = subst (λ (i : ℕ). Implied clauses t n (number e) i) (same_Some j k q) w
implied_at clauses t n e None k q w = absurd (none-some k q)

pub implied_of : (clauses : List (List ℤ)) (size : ℕ) (t : List Assigned) → IsTrail clauses size t → (n : ℕ) (e : Assigned) (k : ℕ) → slice_get t n ≡ Some e → e.reason ≡ Some k → Implied clauses t n (number e) k
implied_of clauses size t h n e k i q = implied_at clauses t n e e.reason k q (h.each n e i).why
