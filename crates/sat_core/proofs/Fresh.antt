-- Why a derived clause is new, and which values it is the first to block.
use Rattle.std.proofs.Common.{◌≡◌, ◌≢◌, ℕ, zero, suc, ◌+◌, ◌-◌, ◌<◌, ◌≤◌, inl, inr, Bool, true, false, not, Some, List, [], ◌∷◌, ◌++◌, length, ℤ, pos, neg_ℤ, refl, sym, ◌∙◌, ap, subst, arith}
use Rattle.std.specs.Prelude.{slice_get, slice_index_or}
use Rattle.std.specs.List.{Contains}
use Rattle.std.proofs.lemmas.Bool.{cases_lt}
use Rattle.std.proofs.lemmas.List.{length_push}
use Rattle.std.proofs.lemmas.Option.{same_Some, get_or_from_slice_get}
use Rattle.std.proofs.lemmas.List.Elements.{Contains-append_left}
use Rattle.clauses.specs.Tseitin.{number_of, input_numbers}
use Rattle.clauses.specs.Units.{Units, given_one, forced, Fails}
use Rattle.sat_core.specs.declared.trail.Assigned.{Assigned}
use Rattle.sat_core.specs.Trail.{number, Holds, HasValue, Settled, IsTrail}
use Rattle.sat_core.specs.Derived.{IsOfDecisions}
use Rattle.sat_core.specs.Learned.{IsFresh}
use Rattle.sat_newness.proofs.Lists.{get_append, get_pushed, cons_here, cons_there, cons_cases}
use Rattle.sat_newness.proofs.Others.{neg_neg, others, others_from, others_at, input_at}
use Rattle.sat_core.proofs.Places.{one_place, consistent, valued, valued_neg}
use Rattle.sat_core.proofs.Kept.{decision, same_pos}

-- unit propagation stays within settled values
pub units_hold : (clauses : List (List ℤ)) (given : List ℤ) (t : List Assigned) (n : ℕ) → Settled clauses t n → ((x : ℤ) → Contains given x → Holds t n x) → (x : ℤ) → Units clauses given x → Holds t n x
units_hold clauses given t n s g _ (given_one x i) = g x i
units_hold clauses given t n s g _ (forced c x i j f) = (s.each c i).closed x j (λ y k ne. units_hold clauses given t n s g (neg_ℤ y) (f y k ne))

units_stand : (clauses : List (List ℤ)) (given : List ℤ) (t : List Assigned) (n : ℕ) → Settled clauses t n → ((x : ℤ) → Contains given x → Holds t n x) → Fails clauses given → ⊥
units_stand clauses given t n s g (c, i, f) = (s.each c i).stands (λ y k. units_hold clauses given t n s g (neg_ℤ y) (f y k))

-- the greatest number
pub record Top (c : List ℤ) : Type 0 where
  pub most : ℕ
  pub held : Contains c (pos most)
  pub above : (y : ℤ) → Contains c y → (v : ℕ) × (v ≤ most) × (y ≡ pos v)

abbrev pub ArePositive : List ℤ → Type 0
ArePositive c = (y : ℤ) → Contains c y → (v : ℕ) × (y ≡ pos v)

pub top_of : (c : List ℤ) → ArePositive c → c ≢ [] → Top c
top_of [] p ne = absurd (ne refl)
top_of (x ∷ []) p ne =
    let h = p x (cons_here x []) in
    record {
      most = h.0;
      held = subst (λ (z : ℤ). Contains (x ∷ []) z) h.1 (cons_here x []);
      above = λ y i. elim (cons_cases x y [] i) as (λ _. (v : ℕ) × (v ≤ h.0) × (y ≡ pos v)) [
        | inl e ↦ (h.0, omega arith, sym e ∙ h.1)
        | inr k ↦ absurd (omega (arith, k.1))
      ];
    }
top_of (x ∷ z ∷ zs) p ne =
    let h = p x (cons_here x (z ∷ zs)) in
    let r = top_of (z ∷ zs) (λ y i. p y (cons_there x y (z ∷ zs) i)) (λ e. cc) in
    elim (cases_lt h.0 r.most) as (λ _. Top (x ∷ z ∷ zs)) [
      | inl l ↦ record {
        most = r.most;
        held = cons_there x (pos r.most) (z ∷ zs) r.held;
        above = λ y i. elim (cons_cases x y (z ∷ zs) i) as (λ _. (v : ℕ) × (v ≤ r.most) × (y ≡ pos v)) [
          | inl e ↦ (h.0, omega arith, sym e ∙ h.1)
          | inr k ↦ r.above y k
        ];
      }
      | inr g ↦ record {
        most = h.0;
        held = subst (λ (w : ℤ). Contains (x ∷ z ∷ zs) w) h.1 (cons_here x (z ∷ zs));
        above = λ y i. elim (cons_cases x y (z ∷ zs) i) as (λ _. (v : ℕ) × (v ≤ h.0) × (y ≡ pos v)) [
          | inl e ↦ (h.0, omega arith, sym e ∙ h.1)
          | inr k ↦ let a = r.above y k in (a.0, omega (arith, a.1), a.2)
        ];
      }
    ]

-- the values of the first variables
pub record Values (t : List Assigned) (n m : ℕ) : Type 0 where
  pub list : List Bool
  pub many : length list ≡ m
  pub each : (u : ℕ) → u < m → (b : Bool) × (slice_get list u ≡ Some b) × Holds t n (number_of (not b) (u + 1))

values_of : (t : List Assigned) (n m : ℕ) → ((u : ℕ) → u < m → HasValue t n (u + 1)) → Values t n m
values_of t n zero h = record { list = []; many = refl; each = λ u lt. absurd (omega arith) }
values_of t n (suc m) h =
    let r = values_of t n m (λ u lt. h u (omega arith)) in
    let a = h m (omega arith) in
    let list = r.list ++ a.entry.value ∷ [] in
    record {
      list = list;
      many = length_push r.list a.entry.value ∙ ap (λ k. k + 1) r.many ∙ omega arith;
      each = λ u lt. elim (cases_lt u m) as (λ _. (b : Bool) × (slice_get list u ≡ Some b) × Holds t n (number_of (not b) (u + 1))) [
        | inl l ↦ let x = r.each u l in (x.0, get_append r.list (a.entry.value ∷ []) u x.0 x.1, x.2)
        | inr g ↦ let q : m ≡ u = omega arith in (
          a.entry.value,
          ap (slice_get list) (sym q ∙ sym r.many) ∙ get_pushed r.list a.entry.value,
          record { at = a.at; entry = a.entry; before = a.before; there = a.there; is = ap (number_of (not a.entry.value)) (a.is ∙ ap (λ k. k + 1) q) },
        )
      ];
    }

pub number_false : (e : Assigned) → e.value ≡ false → number e ≡ neg_ℤ (pos e.variable)
number_false e h = ap (λ b. number_of (not b) e.variable) h

false_of : (b : Bool) → (b ≡ true → ⊥) → b ≡ false
false_of true h = absurd (h refl)
false_of false h = refl

number_true : (b : Bool) (v : ℕ) → b ≡ true → number_of (not b) v ≡ pos v
number_true b v h = ap (λ c. number_of (not c) v) h

pub fresh : (given more : List (List ℤ)) (size : ℕ) (t : List Assigned) → IsTrail (given ++ more) size t → (c : List ℤ) → IsOfDecisions t c → c ≢ [] → IsFresh given size (given ++ more) c
fresh given more size t h c of ne =
    let clauses = given ++ more in
    let top = top_of c (λ y i. let o = of.each y i in (o.1.variable, o.4)) ne in
    let m = top.most in
    let o = of.each (pos m) top.held in
    let p = o.0 in
    let d = o.1 in
    let is : m ≡ d.variable = same_pos m d.variable o.4 in
    let D = decision clauses size t h p d o.2 o.3 in
    let F = h.each p d o.2 in
    let unset : HasValue t p m → ⊥ = λ a. F.first (subst (λ (v : ℕ). HasValue t p v) is a) in
    let real : 0 < m = subst (λ (v : ℕ). 0 < v) (sym is) F.real in
    let within : m < size = subst (λ (v : ℕ). v < size) (sym is) F.within in
    let below : (y : ℤ) → Contains c y → y ≢ pos m → (v : ℕ) × (0 < v) × (v < m) × (y ≡ pos v) × Holds t p (neg_ℤ y) = λ y i apart.
    let a = top.above y i in
    let e = of.each y i in
    let same : a.0 ≡ e.1.variable = same_pos a.0 e.1.variable (sym a.2 ∙ e.4) in
    let not_top : a.0 ≡ m → ⊥ = λ q. apart (a.2 ∙ ap pos q) in
    let lt : a.0 < m = omega (arith, a.1, not_top) in
    let pos_real : 0 < a.0 = subst (λ (v : ℕ). 0 < v) (sym same) (h.each e.0 e.1 e.2).real in
    let v = D.least a.0 pos_real (subst (λ (k : ℕ). a.0 < k) is lt) in
    let place : v.at ≡ e.0 = one_place clauses size t h v.at e.0 v.entry e.1 v.there e.2 (v.is ∙ same) in
    let before : e.0 < p = omega (arith, v.before) in
    let falsified : number e.1 ≡ neg_ℤ y = number_false e.1 (decision clauses size t h e.0 e.1 e.2 e.3).value ∙ ap neg_ℤ (sym e.4) in
    (a.0, pos_real, lt, a.2, record { at = e.0; entry = e.1; before = before; there = e.2; is = falsified }) in
    let held : (x : ℤ) → Contains (others (pos m) c) x → Holds t p x = λ x i.
    let f = others_from (pos m) c x i in
    subst (λ (z : ℤ). Holds t p z) (neg_neg x) (below (neg_ℤ x) f.0 f.1).4 in
    let first = values_of t p (m - 1) (λ u lt. D.least (u + 1) (omega arith) (omega arith)) in
    let w = first.list in
    let long : length w + 1 ≡ m = let q : length w ≡ m - 1 = first.many in omega arith in
    record {
      new = record {
        number = pos m;
        held = top.held;
        others = others (pos m) c;
        opposite = λ y. (λ i. others_from (pos m) c y i, λ i. others_at (pos m) c y i.0 i.1);
        stands = units_stand clauses (others (pos m) c) t p D.settled held;
        unforced = λ u. unset (valued t p (pos m) (units_hold clauses (others (pos m) c) t p D.settled held (pos m) u));
      };
      values = w;
      blocks = record {
        last = subst (λ (k : ℕ). Contains c (pos k)) (sym long) top.held;
        others = λ y i apart.
            let b = below y i (λ q. apart (q ∙ ap pos (sym long))) in
            let lt : b.0 - 1 < m - 1 = omega (arith, b.1, b.2) in
            let e = first.each (b.0 - 1) lt in
            let back : b.0 - 1 + 1 ≡ b.0 = omega (arith, b.1) in
            let is_y : y ≡ pos (b.0 - 1 + 1) = b.3 ∙ ap pos (sym back) in
            let ltw : b.0 - 1 < length w = omega (arith, first.many) in
            (b.0 - 1, ltw, is_y, e.1 ∙ ap Some (false_of e.0 (λ q. consistent clauses size t h p p y (subst (λ (z : ℤ). Holds t p z) (number_true e.0 (b.0 - 1 + 1) q ∙ sym is_y) e.2) b.4)));
      };
      first = λ x i b. unset (valued t p (pos m) ((D.settled.each x i).closed (pos m) (subst (λ (k : ℕ). Contains x (pos k)) long b.last) (λ y j apart.
          let r = b.others y j (λ q. apart (q ∙ ap pos long)) in
          let lt : r.0 < m - 1 = omega (arith, r.1, first.many) in
          let e = first.each r.0 lt in
          let is_false : e.0 ≡ false = same_Some e.0 false (sym e.1 ∙ r.3) in
          subst (λ (z : ℤ). Holds t p z) (ap (λ q. number_of (not q) (r.0 + 1)) is_false ∙ ap neg_ℤ (sym r.2)) e.2)));
      few = λ k variables sized decides. elim (cases_lt (length w) k) as (λ _. length w < k) [
        | inl l ↦ l
        | inr g ↦
            let v : ℕ → Bool = λ j. slice_index_or w j false in
            let s : Settled given t p = record { each = λ x i. D.settled.each x (Contains-append_left given more x i) } in
            let inputs : (x : ℤ) → Contains (input_numbers v k) x → Holds t p x = λ x i.
            let r = input_at v k x i in
            let lt : r.0 < m - 1 = omega (arith, r.1, first.many) in
            let e = first.each r.0 lt in
            let b : slice_index_or w r.0 false ≡ e.0 = get_or_from_slice_get w r.0 e.0 false e.1 in
            subst (λ (z : ℤ). Holds t p z) (ap (λ q. number_of (not q) (r.0 + 1)) (sym b) ∙ sym r.2) e.2 in
            elim (decides v) as (λ _. length w < k) [
              | inl f ↦ absurd (units_stand given (input_numbers v k) t p s inputs f)
              | inr all ↦ elim (all m real (omega arith)) as (λ _. length w < k) [
                | inl u ↦ absurd (unset (valued t p (pos m) (units_hold given (input_numbers v k) t p s inputs (pos m) u)))
                | inr u ↦ absurd (unset (valued_neg t p (pos m) (units_hold given (input_numbers v k) t p s inputs (neg_ℤ (pos m)) u)))
              ]
            ]
      ];
    }
