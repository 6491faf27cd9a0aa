-- One operand behind others: they have no order exactly where one of its effects meets them.
use Rattle.std.proofs.Common.{◌≡◌, ◌⊎◌, inl, inr, ℕ, zero, suc, ◌+◌, ◌<◌, length, take, Bool, true, false, ◌||◌, List, [], ◌∷◌, ◌++◌, refl, sym, ap, subst, ◌∙◌, arith}
use Rattle.std.specs.Prelude.{nat_eq, get_or}
use Rattle.std.specs.List.{list_any, Contains}
use Rattle.std.proofs.lemmas.Bool.{false≢true, eqb-true, eq-eqb}
use Rattle.std.proofs.lemmas.List.Elements.{Contains-push_cases}
use Rattle.std.proofs.lemmas.List.{take_more}
use Rattle.check_sequencing.proofs.Lists.{here, left_of, there}
use Rattle.check_sequencing.proofs.MarkLaws.{either, or_left, or_right}
use Rattle.c_core.specs.declared.tree.Object.{Object}
use Rattle.check_sequencing.specs.declared.effect.Effect.{Effect}
use Rattle.check_sequencing.specs.declared.effect.Effect.TheVariants as does
use Rattle.check_sequencing.specs.Effects.{AreUnsequenced, CallDoes, CallsOne, Changes, Does, Itself, ByCall, IsCallThatDoes, Meets, MeetsCall, OneOf, Through, Touches, changes, is_call, is_fixed, reads, touches, wanted}
use Rattle.check_sequencing.specs.Deciding.{Tells}

pub call_told : (bodies : List (List Effect)) (objects : List Object) (o k : ℕ) (b only : Bool)
    → only ≡ true → is_fixed objects o ≡ true → Tells b (Does bodies (wanted only o) k) → Tells b (CallDoes bodies objects changes o k)
call_told bodies objects o k b only e f t =
    (λ h. (f, subst (λ x. Does bodies (wanted x o) k) e (t.0 h)), λ d. t.1 (subst (λ x. Does bodies (wanted x o) k) (sym e) d.1))

-- none of the first and not the next: none of one more
pub none_more : (P : Effect → Type 0) (es : List Effect) (i : ℕ) (d : Effect) → i < length es → (OneOf P (take i es) → ⊥) → (P (get_or es i d) → ⊥) → OneOf P (take (i + 1) es) → ⊥
none_more P es i d l none next o =
    elim (Contains-push_cases (take i es) (get_or es i d) o.effect (subst (λ xs. Contains xs o.effect) (take_more es i d l) o.among)) as (λ _. ⊥) [
      | inl c ↦ none (record { effect = o.effect; among = c; holds = o.holds })
      | inr e ↦ next (subst P (sym e) o.holds)
    ]

-- ---- an effect of a list that passes a test

passes_at : (test : Effect → Bool) (es : List Effect) (n : ℕ) (e : Effect) → n < length es → get_or es n e ≡ e → test e ≡ true → list_any test es ≡ true
passes_at test [] n e l g t = absurd (omega (arith, l))
passes_at test (d ∷ es) zero e l g t = or_left (test d) (list_any test es) (ap test g ∙ t)
passes_at test (d ∷ es) (suc n) e l g t = or_right (test d) (list_any test es) (passes_at test es n e (omega (arith, l)) g t)

pub passes : (test : Effect → Bool) (es : List Effect) (e : Effect) → Contains es e → test e ≡ true → list_any test es ≡ true
passes test es e c t = passes_at test es c.0 e c.1 c.2 t

pub one_that_passes : (test : Effect → Bool) (es : List Effect) → list_any test es ≡ true → OneOf (λ e. test e ≡ true) es
one_that_passes test [] h = absurd (false≢true h)
one_that_passes test (e ∷ es) h = elim (either (test e) (list_any test es) h) as (λ _. OneOf (λ x. test x ≡ true) (e ∷ es)) [
  | inl t ↦ record { effect = e; among = here e es; holds = t }
  | inr r ↦ let o = one_that_passes test es r in record { effect = o.effect; among = there e o.effect es o.among; holds = o.holds }
]

-- what is changed is touched
pub touched_too : (o : ℕ) (e : Effect) → changes o e ≡ true → touches o e ≡ true
touched_too o e h = or_right (reads o e) (changes o e) h

module _ (bodies : List (List Effect)) (objects : List Object) where
  pub does_too : (p q : Effect → Bool) → ((e : Effect) → p e ≡ true → q e ≡ true) → (k : ℕ) → Does bodies p k → Does bodies q k
  does_too p q more k (Itself {es = es} b t) = let o = one_that_passes p es t in Itself b (passes q es o.effect o.among (more o.effect o.holds))
  does_too p q more k (ByCall {j = j} b t d) = ByCall b t (does_too p q more j d)

  through_too : (o : ℕ) (es : List Effect) → Through bodies objects changes o es → Through bodies objects touches o es
  through_too o es t = record { effect = t.effect; among = t.among; holds = same t.effect t.holds }
    where
      same : (e : Effect) → IsCallThatDoes bodies objects changes o e → IsCallThatDoes bodies objects touches o e
      same (does.Reads n) h = h
      same (does.Changes n) h = h
      same (does.Calls k) h = (h.0, does_too (changes o) (touches o) (touched_too o) k h.1)

  pub changes_touch : (o : ℕ) (es : List Effect) → Changes bodies objects o es → Touches bodies objects o es
  changes_touch o es (inl d) = let e = one_that_passes (changes o) es d in inl (passes (touches o) es e.effect e.among (touched_too o e.effect e.holds))
  changes_touch o es (inr t) = inr (through_too o es t)

  -- a call among effects
  a_call : (es : List Effect) (test : ℕ → Effect → Bool) (o : ℕ) → Through bodies objects test o es → CallsOne es
  a_call es test o t = passes is_call es t.effect t.among (kind t.effect t.holds)
    where
      kind : (e : Effect) → IsCallThatDoes bodies objects test o e → is_call e ≡ true
      kind (does.Reads n) h = absurd h
      kind (does.Changes n) h = absurd h
      kind (does.Calls k) h = refl

  -- ---- one that meets: no order
  meets_one : (es fs : List Effect) (e : Effect) → Contains fs e → Meets bodies objects es e → AreUnsequenced bodies objects es fs
  meets_one es fs (does.Reads o) c m = inl (record { object = o; changed = m; touched = inl (passes (touches o) fs (does.Reads o) c (or_left (nat_eq o o) false (eq-eqb o o refl))) })
  meets_one es fs (does.Changes o) c m = inr (inl (record { object = o; changed = inl (passes (changes o) fs (does.Changes o) c (eq-eqb o o refl)); touched = m }))
  meets_one es fs (does.Calls k) c (inl calling) = inr (inr (calling, passes is_call fs (does.Calls k) c refl))
  meets_one es fs (does.Calls k) c (inr some) = by_call some.effect some.among some.holds
    where
      by_call : (d : Effect) → Contains es d → MeetsCall bodies objects k d → AreUnsequenced bodies objects es fs
      by_call (does.Reads o) a h =
          inr (inl (record { object = o; changed = inr (record { effect = does.Calls k; among = c; holds = h }); touched = inl (passes (touches o) es (does.Reads o) a (or_left (nat_eq o o) false (eq-eqb o o refl))) }))
      by_call (does.Changes o) a h =
          inl (record { object = o; changed = inl (passes (changes o) es (does.Changes o) a (eq-eqb o o refl)); touched = inr (record { effect = does.Calls k; among = c; holds = h }) })
      by_call (does.Calls j) a h = absurd h

  pub met_is_unsequenced : (es fs : List Effect) → OneOf (Meets bodies objects es) fs → AreUnsequenced bodies objects es fs
  met_is_unsequenced es fs o = meets_one es fs o.effect o.among o.holds

  -- ---- no order: one that meets

  -- a call behind a call
  calls_meet : (es fs : List Effect) → CallsOne es → CallsOne fs → OneOf (Meets bodies objects es) fs
  calls_meet es fs c d = let o = one_that_passes is_call fs d in record { effect = o.effect; among = o.among; holds = kind o.effect o.holds }
    where
      kind : (e : Effect) → is_call e ≡ true → Meets bodies objects es e
      kind (does.Reads n) h = absurd (false≢true h)
      kind (does.Changes n) h = absurd (false≢true h)
      kind (does.Calls k) h = inl c

  -- an effect that touches the object o, behind effects that change it
  touch_meets : (es fs : List Effect) (o : ℕ) → Changes bodies objects o es → list_any (touches o) fs ≡ true → OneOf (Meets bodies objects es) fs
  touch_meets es fs o c t = let e = one_that_passes (touches o) fs t in record { effect = e.effect; among = e.among; holds = kind e.effect e.holds }
    where
      kind : (e : Effect) → touches o e ≡ true → Meets bodies objects es e
      kind (does.Reads n) h = subst (λ x. Changes bodies objects x es) (sym (eqb-true n o (left_of (nat_eq n o) h))) c
      kind (does.Changes n) h = subst (λ x. Touches bodies objects x es) (sym (eqb-true n o h)) (changes_touch o es c)
      kind (does.Calls k) h = absurd (false≢true h)

  change_meets : (es fs : List Effect) (o : ℕ) → Touches bodies objects o es → list_any (changes o) fs ≡ true → OneOf (Meets bodies objects es) fs
  change_meets es fs o t c = let e = one_that_passes (changes o) fs c in record { effect = e.effect; among = e.among; holds = kind e.effect e.holds }
    where
      kind : (e : Effect) → changes o e ≡ true → Meets bodies objects es e
      kind (does.Reads n) h = absurd (false≢true h)
      kind (does.Changes n) h = subst (λ x. Touches bodies objects x es) (sym (eqb-true n o h)) t
      kind (does.Calls k) h = absurd (false≢true h)

  -- a call that touches the object o, behind an effect that changes it
  call_touches_meets : (es fs : List Effect) (o : ℕ) → list_any (changes o) es ≡ true → Through bodies objects touches o fs → OneOf (Meets bodies objects es) fs
  call_touches_meets es fs o c t = record { effect = t.effect; among = t.among; holds = kind t.effect t.holds }
    where
      before : OneOf (λ e. changes o e ≡ true) es
      before = one_that_passes (changes o) es c

      met : (k : ℕ) → CallDoes bodies objects touches o k → (d : Effect) → changes o d ≡ true → MeetsCall bodies objects k d
      met k h (does.Reads n) p = absurd (false≢true p)
      met k h (does.Changes n) p = subst (λ x. CallDoes bodies objects touches x k) (sym (eqb-true n o p)) h
      met k h (does.Calls j) p = absurd (false≢true p)

      kind : (e : Effect) → IsCallThatDoes bodies objects touches o e → Meets bodies objects es e
      kind (does.Reads n) h = absurd h
      kind (does.Changes n) h = absurd h
      kind (does.Calls k) h = inr (record { effect = before.effect; among = before.among; holds = met k h before.effect before.holds })

  call_changes_meets : (es fs : List Effect) (o : ℕ) → list_any (touches o) es ≡ true → Through bodies objects changes o fs → OneOf (Meets bodies objects es) fs
  call_changes_meets es fs o c t = record { effect = t.effect; among = t.among; holds = kind t.effect t.holds }
    where
      before : OneOf (λ e. touches o e ≡ true) es
      before = one_that_passes (touches o) es c

      met : (k : ℕ) → CallDoes bodies objects changes o k → (d : Effect) → touches o d ≡ true → MeetsCall bodies objects k d
      met k h (does.Reads n) p = subst (λ x. CallDoes bodies objects changes x k) (sym (eqb-true n o (left_of (nat_eq n o) p))) h
      met k h (does.Changes n) p = subst (λ x. CallDoes bodies objects touches x k) (sym (eqb-true n o p)) (h.0, does_too (changes o) (touches o) (touched_too o) k h.1)
      met k h (does.Calls j) p = absurd (false≢true p)

      kind : (e : Effect) → IsCallThatDoes bodies objects changes o e → Meets bodies objects es e
      kind (does.Reads n) h = absurd h
      kind (does.Changes n) h = absurd h
      kind (does.Calls k) h = inr (record { effect = before.effect; among = before.among; holds = met k h before.effect before.holds })

  pub unsequenced_is_met : (es fs : List Effect) → AreUnsequenced bodies objects es fs → OneOf (Meets bodies objects es) fs
  unsequenced_is_met es fs (inl clash) = elim clash.touched as (λ _. OneOf (Meets bodies objects es) fs) [
    | inl t ↦ touch_meets es fs clash.object clash.changed t
    | inr t ↦ elim clash.changed as (λ _. OneOf (Meets bodies objects es) fs) [
      | inl c ↦ call_touches_meets es fs clash.object c t
      | inr c ↦ calls_meet es fs (a_call es changes clash.object c) (a_call fs touches clash.object t)
    ]
  ]
  unsequenced_is_met es fs (inr (inl clash)) = elim clash.changed as (λ _. OneOf (Meets bodies objects es) fs) [
    | inl c ↦ change_meets es fs clash.object clash.touched c
    | inr c ↦ elim clash.touched as (λ _. OneOf (Meets bodies objects es) fs) [
      | inl t ↦ call_changes_meets es fs clash.object t c
      | inr t ↦ calls_meet es fs (a_call es touches clash.object t) (a_call fs changes clash.object c)
    ]
  ]
  unsequenced_is_met es fs (inr (inr both)) = calls_meet es fs both.0 both.1
