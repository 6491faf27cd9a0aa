-- Resolution from a conflict back to decisions.
use Rattle.std.proofs.Common.{◌≡◌, ◌≢◌, ℕ, zero, suc, ◌+◌, ◌<◌, ◌≤◌, ◌^◌, ◌⊎◌, inl, inr, Bool, true, false, cond, Some, None, List, [], ◌∷◌, ◌++◌, length, ℤ, neg_ℤ, refl, sym, ◌∙◌, ap, subst, arith}
use Rattle.std.specs.Prelude.{slice_get, slice_set, unsigned_abs, ◌-◌}
use Rattle.std.specs.List.{Contains}
use Rattle.std.proofs.lemmas.Bool.{cases_lt, false≢true, both_ways}
use Rattle.std.proofs.lemmas.Option.{none-some, same_Some, slice_get_within}
use Rattle.std.proofs.lemmas.List.{get_or-set_same, get_or-set_other, get_or_past, length-set}
use Rattle.clauses.specs.Tseitin.{flag_at}
use Rattle.clauses.specs.declared.log.Resolve.{Resolve}
use Rattle.clauses.specs.Log.{Resolvent, AreSame, IsClauseAt, Derives}
use Rattle.sat_core.specs.declared.trail.Assigned.{Assigned}
use Rattle.sat_core.specs.Trail.{number, Holds, HasValue, IsTrail, AreNumbersOf}
use Rattle.sat_core.specs.Derived.{IsConflict, running, AreMarked, IsAnalyzed}
use Rattle.sat_newness.proofs.Lists.{get_push, contains_at, cons_here, cons_there, cons_cases}
use Rattle.sat_newness.proofs.Others.{neg_neg, abs_neg}
use Rattle.sat_core.proofs.Places.{variable_of, one_place, same_entry, consistent, valued_neg}

-- a number of the clause, and where its opposite stands
pub record Runs (seen : List Bool) (t : List Assigned) (y : ℤ) : Type 0 where
  pub at : ℕ
  pub entry : Assigned
  pub there : slice_get t at ≡ Some entry
  pub flagged : flag_at seen entry.variable ≡ true
  pub is : neg_ℤ (number entry) ≡ y

kept_or : (b : Bool) (x : ℤ) (xs : List ℤ) (y : ℤ) → Contains xs y → Contains (cond b (x ∷ xs) xs) y
kept_or true x xs y c = cons_there x y xs c
kept_or false x xs y c = c

kept_here : (b : Bool) (x : ℤ) (xs : List ℤ) → b ≡ true → Contains (cond b (x ∷ xs) xs) x
kept_here true x xs e = cons_here x xs
kept_here false x xs e = absurd (false≢true e)

kept_cases : (b : Bool) (x : ℤ) (xs : List ℤ) (y : ℤ) → Contains (cond b (x ∷ xs) xs) y → ((b ≡ true) × (x ≡ y)) ⊎ Contains xs y
kept_cases true x xs y c = elim (cons_cases x y xs c) as (λ _. ((true ≡ true) × (x ≡ y)) ⊎ Contains xs y) [ inl e ↦ inl (refl, e) | inr k ↦ inr k ]
kept_cases false x xs y c = inr c

pub runs_from : (seen : List Bool) (t : List Assigned) (y : ℤ) → Contains (running seen t) y → Runs seen t y
runs_from seen [] y c = absurd (omega (arith, c.1))
runs_from seen (e ∷ es) y c = elim (kept_cases (flag_at seen e.variable) (neg_ℤ (number e)) (running seen es) y c) as (λ _. Runs seen (e ∷ es) y) [
  | inl h ↦ record { at = 0; entry = e; there = refl; flagged = h.0; is = h.1 }
  | inr k ↦ let r = runs_from seen es y k in record { at = suc r.at; entry = r.entry; there = r.there; flagged = r.flagged; is = r.is }
]

pub runs_at : (seen : List Bool) (t : List Assigned) (n : ℕ) (e : Assigned) → slice_get t n ≡ Some e → flag_at seen e.variable ≡ true → Contains (running seen t) (neg_ℤ (number e))
runs_at seen [] n e i f = absurd (none-some e i)
runs_at seen (g ∷ es) zero e i f = subst (λ (h : Assigned). Contains (running seen (g ∷ es)) (neg_ℤ (number h))) (same_Some g e i) (kept_here (flag_at seen g.variable) (neg_ℤ (number g)) (running seen es) (subst (λ (h : Assigned). flag_at seen h.variable ≡ true) (sym (same_Some g e i)) f))
runs_at seen (g ∷ es) (suc n) e i f = kept_or (flag_at seen g.variable) (neg_ℤ (number g)) (running seen es) (neg_ℤ (number e)) (runs_at seen es n e i f)

-- flags after a write
flag_cleared : (seen : List Bool) (v : ℕ) → flag_at (slice_set seen v false) v ≡ true → ⊥
flag_cleared seen v h = elim (cases_lt v (length seen)) as (λ _. ⊥) [
  | inl l ↦ both_ways (flag_at (slice_set seen v false) v) (get_or-set_same seen v false false l) h
  | inr g ↦ both_ways (flag_at (slice_set seen v false) v) (get_or_past (slice_set seen v false) v false (rw (length-set seen v false) g)) h
]

flag_other : (seen : List Bool) (v w : ℕ) → (w ≡ v → ⊥) → flag_at (slice_set seen v false) w ≡ flag_at seen w
flag_other seen v w h = get_or-set_other seen v w false false h

-- chains grow at their end
resolvent_of_same : (a b c r : List ℤ) (on : ℕ) → AreSame a b → Resolvent b c on r → Resolvent a c on r
resolvent_of_same a b c r on s h = record {
  number = h.number;
  variable = h.variable;
  clash = record { left = (s h.number).1 h.clash.left; right = h.clash.right; only = λ y i. h.clash.only y ((s y).0 i) };
  members = λ y. (
    λ i. elim ((h.members y).0 i) as (λ _. (Contains a y × (y ≢ h.number)) ⊎ (Contains c y × (y ≢ neg_ℤ h.number))) [ inl k ↦ inl ((s y).1 k.0, k.1) | inr k ↦ inr k ],
    λ i. (h.members y).1 (elim i as (λ _. (Contains b y × (y ≢ h.number)) ⊎ (Contains c y × (y ≢ neg_ℤ h.number))) [ inl k ↦ inl ((s y).0 k.0, k.1) | inr k ↦ inr k ]),
  );
}

pub derives_more : (clauses : List (List ℤ)) (a : List ℤ) (steps : List Resolve) (m c r : List ℤ) (s : Resolve) → Derives clauses a steps m → IsClauseAt clauses s.with c → Resolvent m c s.on r → Derives clauses a (steps ++ s ∷ []) r
derives_more clauses a [] m c r s d at h = (c, r, at, resolvent_of_same a m c r s.on d h, λ y. (λ i. i, λ i. i))
derives_more clauses a (z ∷ zs) m c r s (b, n, i, k, rest) at h = (b, n, i, k, derives_more clauses n zs m c r s rest at h)

pub derives_same : (clauses : List (List ℤ)) (a : List ℤ) (steps : List Resolve) (m r : List ℤ) → Derives clauses a steps m → AreSame m r → Derives clauses a steps r
derives_same clauses a [] m r d s = λ y. (λ i. (s y).0 ((d y).0 i), λ i. (d y).1 ((s y).1 i))
derives_same clauses a (z ∷ zs) m r (b, n, i, k, rest) s = (b, n, i, k, derives_same clauses n zs m r rest s)

-- ---- one step
-- the reason of a value clashes with the running clause on that value alone
resolvent_of : (clauses : List (List ℤ)) (size : ℕ) (t : List Assigned) → IsTrail clauses size t → (seen marks : List Bool) (n : ℕ) (e : Assigned) (c : List ℤ) → slice_get t n ≡ Some e → flag_at seen e.variable ≡ true
    → Contains c (number e) → ((y : ℤ) → Contains c y → y ≢ number e → Holds t n (neg_ℤ y)) → AreMarked seen c marks → Resolvent (running seen t) c e.variable (running (slice_set marks e.variable false) t)
resolvent_of clauses size t h seen marks n e c i f held others m =
    let x = number e in
    let le : n ≤ length t = omega (arith, slice_get_within t n e i) in
    let after = slice_set marks e.variable false in
    record {
      number = neg_ℤ x;
      variable = abs_neg x ∙ sym (variable_of e x refl);
      clash = record {
        left = runs_at seen t n e i f;
        right = subst (λ (y : ℤ). Contains c y) (sym (neg_neg x)) held;
        only = λ y j k ne.
            let r = runs_from seen t y j in
            let is : neg_ℤ y ≡ number r.entry = sym (ap neg_ℤ r.is) ∙ neg_neg (number r.entry) in
            let a : Holds t n (neg_ℤ (neg_ℤ y)) = others (neg_ℤ y) k (λ q. ne (sym (neg_neg y) ∙ ap neg_ℤ q)) in
            consistent clauses size t h (length t) n (neg_ℤ y) (record { at = r.at; entry = r.entry; before = slice_get_within t r.at r.entry r.there; there = r.there; is = sym is }) a;
      };
      members = λ y. (
        λ j.
            let r = runs_from after t y j in
            let apart : r.entry.variable ≡ e.variable → ⊥ = λ q. flag_cleared marks e.variable (subst (λ (v : ℕ). flag_at after v ≡ true) q r.flagged) in
            let vy : unsigned_abs y ≡ r.entry.variable = sym (ap unsigned_abs r.is) ∙ abs_neg (number r.entry) ∙ sym (variable_of r.entry (number r.entry) refl) in
            let not_x : y ≢ neg_ℤ x = λ q. apart (sym vy ∙ ap unsigned_abs q ∙ abs_neg x ∙ sym (variable_of e x refl)) in
            let not_nx : y ≢ neg_ℤ (neg_ℤ x) = λ q. apart (sym vy ∙ ap unsigned_abs (q ∙ neg_neg x) ∙ sym (variable_of e x refl)) in
            elim (m.from r.entry.variable (sym (flag_other marks e.variable r.entry.variable apart) ∙ r.flagged)) as (λ _. (Contains (running seen t) y × (y ≢ neg_ℤ x)) ⊎ (Contains c y × (y ≢ neg_ℤ (neg_ℤ x)))) [
              | inl g ↦ inl (subst (λ (z : ℤ). Contains (running seen t) z) r.is (runs_at seen t r.at r.entry r.there g), not_x)
              | inr g ↦
                  let z = g.0 in
                  let zx : z ≢ x = λ q. apart (sym g.2 ∙ ap unsigned_abs q ∙ sym (variable_of e x refl)) in
                  let a = others z g.1 zx in
                  let va : a.entry.variable ≡ r.entry.variable = variable_of a.entry (neg_ℤ z) a.is ∙ abs_neg z ∙ g.2 in
                  let same : a.entry ≡ r.entry = same_entry t a.at r.at a.entry r.entry a.there r.there (one_place clauses size t h a.at r.at a.entry r.entry a.there r.there va) in
                  let zy : z ≡ y = sym (neg_neg z) ∙ ap neg_ℤ (sym a.is ∙ ap number same) ∙ r.is in
                  inr (subst (λ (w : ℤ). Contains c w) zy g.1, not_nx)
            ],
        λ j. elim j as (λ _. Contains (running after t) y) [
          | inl k ↦
              let r = runs_from seen t y k.0 in
              let apart : r.entry.variable ≡ e.variable → ⊥ = λ q. k.1 (sym r.is ∙ ap (λ g. neg_ℤ (number g)) (same_entry t r.at n r.entry e r.there i (one_place clauses size t h r.at n r.entry e r.there i q))) in
              subst (λ (z : ℤ). Contains (running after t) z) r.is (runs_at after t r.at r.entry r.there (flag_other marks e.variable r.entry.variable apart ∙ m.stays r.entry.variable r.flagged))
          | inr k ↦
              let a = others y k.0 (λ q. k.1 (q ∙ sym (neg_neg x))) in
              let va : a.entry.variable ≡ unsigned_abs y = variable_of a.entry (neg_ℤ y) a.is ∙ abs_neg y in
              let apart : a.entry.variable ≡ e.variable → ⊥ = λ q. let p : a.at ≡ n = one_place clauses size t h a.at n a.entry e a.there i q in let lt : a.at < n = a.before in absurd (omega arith) in
              let fl : flag_at after a.entry.variable ≡ true = flag_other marks e.variable a.entry.variable apart ∙ subst (λ (v : ℕ). flag_at marks v ≡ true) (sym va) (m.set y k.0) in
              subst (λ (z : ℤ). Contains (running after t) z) (ap neg_ℤ a.is ∙ neg_neg y) (runs_at after t a.at a.entry a.there fl)
        ],
      );
    }

-- the conflict itself
pub analyzed_first : (clauses : List (List ℤ)) (size : ℕ) (t : List Assigned) → AreNumbersOf size clauses → (start : ℕ) (k : IsConflict clauses t start) (unseen marks : List Bool) → ((v : ℕ) → flag_at unseen v ≡ true → ⊥) → length marks ≡ size → IsTrail clauses size t → AreMarked unseen k.clause marks → IsAnalyzed clauses size t start (length t) [] marks
analyzed_first clauses size t w start k unseen marks none many h m =
    let in_clause : (v : ℕ) → flag_at marks v ≡ true → (x : ℤ) × Contains k.clause x × (unsigned_abs x ≡ v) = λ v f. elim (m.from v f) as (λ _. (x : ℤ) × Contains k.clause x × (unsigned_abs x ≡ v)) [ inl g ↦ absurd (none v g) | inr g ↦ g ] in
    record {
      first = k.clause;
      named = k.named;
      many = many;
      derives = λ y. (
        λ i.
            let a = k.fails y i in
            let va : a.entry.variable ≡ unsigned_abs y = variable_of a.entry (neg_ℤ y) a.is ∙ abs_neg y in
            subst (λ (z : ℤ). Contains (running marks t) z) (ap neg_ℤ a.is ∙ neg_neg y) (runs_at marks t a.at a.entry a.there (subst (λ (v : ℕ). flag_at marks v ≡ true) (sym va) (m.set y i))),
        λ i.
            let r = runs_from marks t y i in
            let g = in_clause r.entry.variable r.flagged in
            let a = k.fails g.0 g.1 in
            let va : a.entry.variable ≡ r.entry.variable = variable_of a.entry (neg_ℤ g.0) a.is ∙ abs_neg g.0 ∙ g.2 in
            let same : a.entry ≡ r.entry = same_entry t a.at r.at a.entry r.entry a.there r.there (one_place clauses size t h a.at r.at a.entry r.entry a.there r.there va) in
            subst (λ (z : ℤ). Contains k.clause z) (sym (neg_neg g.0) ∙ ap neg_ℤ (sym a.is ∙ ap number same) ∙ r.is) g.1,
      );
      covered = λ v f. let g = in_clause v f in let a = k.fails g.0 g.1 in subst (λ (u : ℕ). HasValue t (length t) u) g.2 (valued_neg t (length t) g.0 a);
      small = λ v f. let g = in_clause v f in subst (λ (u : ℕ). u < 2 ^ 31) g.2 (w.each k.clause g.0 (contains_at clauses start k.clause k.named) g.1).small;
      decided = λ n e le i f. let lt : n < length t = slice_get_within t n e i in absurd (omega arith);
      behind = λ j s q. absurd (none-some s q);
      once = λ i j s r lt p q. absurd (none-some s p);
    }

-- a value that isn't flagged, or a decision
pub analyzed_passed : (clauses : List (List ℤ)) (size : ℕ) (t : List Assigned) (start n : ℕ) (steps : List Resolve) (seen : List Bool) (e : Assigned) → slice_get t n ≡ Some e → (flag_at seen e.variable ≡ true → e.reason ≡ None) → IsAnalyzed clauses size t start (n + 1) steps seen → IsAnalyzed clauses size t start n steps seen
analyzed_passed clauses size t start n steps seen e i g h = record {
  first = h.first;
  named = h.named;
  many = h.many;
  derives = h.derives;
  covered = h.covered;
  small = h.small;
  decided = λ m f le j k. elim (cases_lt n m) as (λ _. f.reason ≡ None) [
    | inl l ↦ h.decided m f (omega arith) j k
    | inr l ↦ let same : e ≡ f = same_entry t n m e f i j (omega arith) in
        subst (λ (d : Assigned). d.reason ≡ None) same (g (subst (λ (d : Assigned). flag_at seen d.variable ≡ true) (sym same) k))
  ];
  behind = λ j s q. let b = h.behind j s q in (b.0, b.1, omega (arith, b.2), b.3, b.4);
  once = h.once;
}

pub analyzed_step : (clauses : List (List ℤ)) (size : ℕ) (t : List Assigned) → IsTrail clauses size t → AreNumbersOf size clauses → (start n : ℕ) (steps : List Resolve) (seen marks : List Bool) (e : Assigned) (s : Resolve) (c : List ℤ) → slice_get t n ≡ Some e → flag_at seen e.variable ≡ true → s.on ≡ e.variable → IsClauseAt clauses s.with c
    → Contains c (number e) → ((y : ℤ) → Contains c y → y ≢ number e → Holds t n (neg_ℤ y)) → length marks ≡ size → AreMarked seen c marks → IsAnalyzed clauses size t start (n + 1) steps seen → IsAnalyzed clauses size t start n (steps ++ s ∷ []) (slice_set marks e.variable false)
analyzed_step clauses size t h w start n steps seen marks e s c i f on at held others many m a =
    let after = slice_set marks e.variable false in
    let apart : (v : ℕ) → flag_at after v ≡ true → v ≡ e.variable → ⊥ = λ v g q. flag_cleared marks e.variable (subst (λ (u : ℕ). flag_at after u ≡ true) q g) in
    let before : (v : ℕ) → flag_at after v ≡ true → (flag_at seen v ≡ true) ⊎ ((x : ℤ) × Contains c x × (unsigned_abs x ≡ v)) = λ v g. m.from v (sym (flag_other marks e.variable v (apart v g)) ∙ g) in
    let le : n ≤ length t = omega (arith, slice_get_within t n e i) in
    let valued_at : (v : ℕ) → flag_at after v ≡ true → (x : ℤ) → Contains c x → unsigned_abs x ≡ v → HasValue t n v = λ v g x j q.
    subst (λ (u : ℕ). HasValue t n u) q (valued_neg t n x (others x j (λ k. apart v g (sym q ∙ ap unsigned_abs k ∙ sym (variable_of e (number e) refl))))) in
    record {
      first = a.first;
      named = a.named;
      many = length-set marks e.variable false ∙ many;
      derives = derives_more clauses a.first steps (running seen t) c (running after t) s a.derives at
          (subst (λ (v : ℕ). Resolvent (running seen t) c v (running after t)) (sym on) (resolvent_of clauses size t h seen marks n e c i f held others m));
      covered = λ v g. elim (before v g) as (λ _. HasValue t (length t) v) [
        | inl k ↦ a.covered v k
        | inr k ↦ let u = valued_at v g k.0 k.1 k.2 in record { at = u.at; entry = u.entry; before = omega (arith, u.before); there = u.there; is = u.is }
      ];
      small = λ v g. elim (before v g) as (λ _. v < 2 ^ 31) [
        | inl k ↦ a.small v k
        | inr k ↦ subst (λ (u : ℕ). u < 2 ^ 31) k.2 (w.each c k.0 (contains_at clauses (s.with - 1) c at.1) k.1).small
      ];
      decided = λ p d le2 j g. elim (cases_lt n p) as (λ _. d.reason ≡ None) [
        | inl l ↦ elim (before d.variable g) as (λ _. d.reason ≡ None) [
          | inl k ↦ a.decided p d (omega arith) j k
          | inr k ↦
              let u = valued_at d.variable g k.0 k.1 k.2 in
              let q : u.at ≡ p = one_place clauses size t h u.at p u.entry d u.there j u.is in
              let lt : u.at < n = u.before in absurd (omega arith)
        ]
        | inr l ↦ let same : d ≡ e = same_entry t p n d e j i (omega arith) in absurd (apart d.variable g (ap (λ x. x.variable) same))
      ];
      behind = λ j r q. elim (get_push steps s j r q) as (λ _. (p : ℕ) × (d : Assigned) × (n ≤ p) × (slice_get t p ≡ Some d) × (d.variable ≡ r.on)) [
        | inl k ↦ let b = a.behind j r k in (b.0, b.1, omega (arith, b.2), b.3, b.4)
        | inr k ↦ (n, e, omega arith, i, sym on ∙ ap (λ x. x.on) k.1)
      ];
      once = λ x y p r lt q z same. elim (get_push steps s y r z) as (λ _. ⊥) [
        | inl k ↦ elim (get_push steps s x p q) as (λ _. ⊥) [
          | inl j ↦ a.once x y p r lt j k same
          | inr j ↦ let l : y < length steps = slice_get_within steps y r k in let xl : x ≡ length steps = j.0 in absurd (omega arith)
        ]
        | inr k ↦ elim (get_push steps s x p q) as (λ _. ⊥) [
          | inl j ↦
              let b = a.behind x p j in
              let v : b.1.variable ≡ e.variable = b.4 ∙ same ∙ sym (ap (λ x. x.on) k.1) ∙ on in
              let place : b.0 ≡ n = one_place clauses size t h b.0 n b.1 e b.3 i v in
              let ge : n + 1 ≤ b.0 = b.2 in absurd (omega arith)
          | inr j ↦ let xl : x ≡ length steps = j.0 in let yl : y ≡ length steps = k.0 in absurd (omega arith)
        ]
      ];
    }
