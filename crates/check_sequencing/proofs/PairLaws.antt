-- Some two operands have no order exactly where one of them has none with all before it, taken together.
use Rattle.std.proofs.Common.{◌≡◌, ◌⊎◌, inl, inr, ℕ, zero, suc, ◌<◌, length, Bool, true, false, List, [], ◌∷◌, ◌++◌, refl, sym, ap, subst, ◌∙◌, arith}
use Rattle.std.specs.Prelude.{get_or}
use Rattle.std.specs.List.{list_any, Contains}
use Rattle.std.proofs.lemmas.Bool.{false≢true}
use Rattle.std.proofs.lemmas.List.Elements.{Contains-append_left, Contains-append_right, Contains-append_cases}
use Rattle.c_core.specs.declared.tree.Object.{Object}
use Rattle.check_sequencing.specs.declared.effect.Effect.{Effect}
use Rattle.check_sequencing.specs.declared.effect.Effect.TheVariants as does
use Rattle.check_sequencing.specs.Effects.{AreUnsequenced, CallsOne, Changes, IsCallThatDoes, Meets, MeetsCall, OneOf, SomePair, OfFirst, OfOthers, SomeBehind, Next, Later, Through, Touches, changes, is_call, touches}
use Rattle.check_sequencing.specs.Deciding.{Tells}
use Rattle.check_sequencing.proofs.ClashLaws.{met_is_unsequenced, unsequenced_is_met, one_that_passes, passes}
use Rattle.check_sequencing.proofs.Lists.{here, there}

-- ---- more effects do no less

abbrev Within : List Effect → List Effect → Type 0
Within es fs = (e : Effect) → Contains es e → Contains fs e

one_more : (P : Effect → Type 0) (es fs : List Effect) → Within es fs → OneOf P es → OneOf P fs
one_more P es fs w o = record { effect = o.effect; among = w o.effect o.among; holds = o.holds }

any_more : (test : Effect → Bool) (es fs : List Effect) → Within es fs → list_any test es ≡ true → list_any test fs ≡ true
any_more test es fs w h = let o = one_that_passes test es h in passes test fs o.effect (w o.effect o.among) o.holds

one_of_two : (P : Effect → Type 0) (es fs : List Effect) → OneOf P (es ++ fs) → OneOf P es ⊎ OneOf P fs
one_of_two P es fs o = elim (Contains-append_cases es fs o.effect o.among) as (λ _. OneOf P es ⊎ OneOf P fs) [
  | inl c ↦ inl (record { effect = o.effect; among = c; holds = o.holds })
  | inr c ↦ inr (record { effect = o.effect; among = c; holds = o.holds })
]

any_of_two : (test : Effect → Bool) (es fs : List Effect) → list_any test (es ++ fs) ≡ true → (list_any test es ≡ true) ⊎ (list_any test fs ≡ true)
any_of_two test es fs h = elim (one_of_two (λ e. test e ≡ true) es fs (one_that_passes test (es ++ fs) h)) as (λ _. (list_any test es ≡ true) ⊎ (list_any test fs ≡ true)) [
  | inl o ↦ inl (passes test es o.effect o.among o.holds)
  | inr o ↦ inr (passes test fs o.effect o.among o.holds)
]

pub told_alone : (b : Bool) (P : Type 0) → Tells b P → Tells b (P ⊎ ⊥)
told_alone b P t = (λ h. inl (t.0 h), λ p. elim p as (λ _. b ≡ true) [ inl x ↦ t.1 x | inr x ↦ absurd x ])

module _ (bodies : List (List Effect)) (objects : List Object) where
  changes_more : (o : ℕ) (es fs : List Effect) → Within es fs → Changes bodies objects o es → Changes bodies objects o fs
  changes_more o es fs w (inl d) = inl (any_more (changes o) es fs w d)
  changes_more o es fs w (inr t) = inr (one_more (IsCallThatDoes bodies objects changes o) es fs w t)

  touches_more : (o : ℕ) (es fs : List Effect) → Within es fs → Touches bodies objects o es → Touches bodies objects o fs
  touches_more o es fs w (inl d) = inl (any_more (touches o) es fs w d)
  touches_more o es fs w (inr t) = inr (one_more (IsCallThatDoes bodies objects touches o) es fs w t)

  meets_more : (es fs : List Effect) → Within es fs → (e : Effect) → Meets bodies objects es e → Meets bodies objects fs e
  meets_more es fs w (does.Reads o) m = changes_more o es fs w m
  meets_more es fs w (does.Changes o) m = touches_more o es fs w m
  meets_more es fs w (does.Calls k) (inl c) = inl (any_more is_call es fs w c)
  meets_more es fs w (does.Calls k) (inr s) = inr (one_more (MeetsCall bodies objects k) es fs w s)

  -- what has no order with some effects has none with more
  pub unsequenced_more : (es fs gs : List Effect) → Within es fs → AreUnsequenced bodies objects es gs → AreUnsequenced bodies objects fs gs
  unsequenced_more es fs gs w u =
      let o = unsequenced_is_met bodies objects es gs u in
      met_is_unsequenced bodies objects fs gs (record { effect = o.effect; among = o.among; holds = meets_more es fs w o.effect o.holds })

  changes_of_two : (o : ℕ) (es fs : List Effect) → Changes bodies objects o (es ++ fs) → Changes bodies objects o es ⊎ Changes bodies objects o fs
  changes_of_two o es fs (inl d) = elim (any_of_two (changes o) es fs d) as (λ _. Changes bodies objects o es ⊎ Changes bodies objects o fs) [ inl a ↦ inl (inl a) | inr b ↦ inr (inl b) ]
  changes_of_two o es fs (inr t) =
      elim (one_of_two (IsCallThatDoes bodies objects changes o) es fs t) as (λ _. Changes bodies objects o es ⊎ Changes bodies objects o fs) [ inl a ↦ inl (inr a) | inr b ↦ inr (inr b) ]

  touches_of_two : (o : ℕ) (es fs : List Effect) → Touches bodies objects o (es ++ fs) → Touches bodies objects o es ⊎ Touches bodies objects o fs
  touches_of_two o es fs (inl d) = elim (any_of_two (touches o) es fs d) as (λ _. Touches bodies objects o es ⊎ Touches bodies objects o fs) [ inl a ↦ inl (inl a) | inr b ↦ inr (inl b) ]
  touches_of_two o es fs (inr t) =
      elim (one_of_two (IsCallThatDoes bodies objects touches o) es fs t) as (λ _. Touches bodies objects o es ⊎ Touches bodies objects o fs) [ inl a ↦ inl (inr a) | inr b ↦ inr (inr b) ]

  meets_of_two : (es fs : List Effect) (e : Effect) → Meets bodies objects (es ++ fs) e → Meets bodies objects es e ⊎ Meets bodies objects fs e
  meets_of_two es fs (does.Reads o) m = changes_of_two o es fs m
  meets_of_two es fs (does.Changes o) m = touches_of_two o es fs m
  meets_of_two es fs (does.Calls k) (inl c) = elim (any_of_two is_call es fs c) as (λ _. Meets bodies objects es (does.Calls k) ⊎ Meets bodies objects fs (does.Calls k)) [ inl a ↦ inl (inl a) | inr b ↦ inr (inl b) ]
  meets_of_two es fs (does.Calls k) (inr s) =
      elim (one_of_two (MeetsCall bodies objects k) es fs s) as (λ _. Meets bodies objects es (does.Calls k) ⊎ Meets bodies objects fs (does.Calls k)) [ inl a ↦ inl (inr a) | inr b ↦ inr (inr b) ]

  -- what has no order with two operands together has none with one of them
  unsequenced_of_two : (es fs gs : List Effect) → AreUnsequenced bodies objects (es ++ fs) gs → AreUnsequenced bodies objects es gs ⊎ AreUnsequenced bodies objects fs gs
  unsequenced_of_two es fs gs u =
      let o = unsequenced_is_met bodies objects (es ++ fs) gs u in
      elim (meets_of_two es fs o.effect o.holds) as (λ _. AreUnsequenced bodies objects es gs ⊎ AreUnsequenced bodies objects fs gs) [
        | inl m ↦ inl (met_is_unsequenced bodies objects es gs (record { effect = o.effect; among = o.among; holds = m }))
        | inr m ↦ inr (met_is_unsequenced bodies objects fs gs (record { effect = o.effect; among = o.among; holds = m }))
      ]

  -- ---- pairs

  pub record SomeWith (before : List Effect) (rest : List (List Effect)) : Type 0 where
    pub operand : List Effect
    pub among : Contains rest operand
    pub no_order : AreUnsequenced bodies objects before operand

  pub pair_of_behind : (before : List Effect) (rest : List (List Effect)) → SomeBehind bodies objects before rest → SomeWith before rest ⊎ SomePair bodies objects rest
  pair_of_behind before [] b = elim b [ ]
  pair_of_behind before (es ∷ rest) (Next u) = inl (record { operand = es; among = here es rest; no_order = u })
  pair_of_behind before (es ∷ rest) (Later b) = elim (pair_of_behind (before ++ es) rest b) as (λ _. SomeWith before (es ∷ rest) ⊎ SomePair bodies objects (es ∷ rest)) [
    | inl s ↦ elim (unsequenced_of_two before es s.operand s.no_order) as (λ _. SomeWith before (es ∷ rest) ⊎ SomePair bodies objects (es ∷ rest)) [
      | inl u ↦ inl (record { operand = s.operand; among = there es s.operand rest s.among; no_order = u })
      | inr u ↦ inr (OfFirst s.among u)
    ]
    | inr p ↦ inr (OfOthers p)
  ]

  with_one : (es before : List Effect) (rest : List (List Effect)) (n : ℕ) (fs : List Effect) → Within es before → n < length rest → get_or rest n fs ≡ fs → AreUnsequenced bodies objects es fs → SomeBehind bodies objects before rest
  with_one es before [] n fs w l g u = absurd (omega (arith, l))
  with_one es before (gs ∷ rest) zero fs w l g u = Next (subst (AreUnsequenced bodies objects before) (sym g) (unsequenced_more es before fs w u))
  with_one es before (gs ∷ rest) (suc n) fs w l g u = Later (with_one es (before ++ gs) rest n fs (λ e c. Contains-append_left before gs e (w e c)) (omega (arith, l)) g u)

  pub behind_of_pair : (before : List Effect) (rest : List (List Effect)) → SomePair bodies objects rest → SomeBehind bodies objects before rest
  behind_of_pair before [] p = elim p [ ]
  behind_of_pair before (es ∷ rest) (OfFirst c u) = Later (with_one es (before ++ es) rest c.0 _ (λ e i. Contains-append_right before es e i) c.1 c.2 u)
  behind_of_pair before (es ∷ rest) (OfOthers p) = Later (behind_of_pair (before ++ es) rest p)

  -- with no effects everything has an order
  nothing_before : (es : List Effect) → AreUnsequenced bodies objects [] es → ⊥
  nothing_before es u = let o = unsequenced_is_met bodies objects [] es u in met o.effect o.holds
    where
      none : (P : Effect → Type 0) → OneOf P [] → ⊥
      none P o = absurd (omega (arith, o.among.1))

      met : (e : Effect) → Meets bodies objects [] e → ⊥
      met (does.Reads n) (inl h) = false≢true h
      met (does.Reads n) (inr t) = none (IsCallThatDoes bodies objects changes n) t
      met (does.Changes n) (inl h) = false≢true h
      met (does.Changes n) (inr t) = none (IsCallThatDoes bodies objects touches n) t
      met (does.Calls k) (inl h) = false≢true h
      met (does.Calls k) (inr s) = none (MeetsCall bodies objects k) s

  pub pair_if_behind : (rest : List (List Effect)) → SomeBehind bodies objects [] rest → SomePair bodies objects rest
  pair_if_behind rest b = elim (pair_of_behind [] rest b) as (λ _. SomePair bodies objects rest) [
    | inl s ↦ absurd (nothing_before s.operand s.no_order)
    | inr p ↦ p
  ]

  second_of : (es fs : List Effect) → SomeBehind bodies objects [] (es ∷ fs ∷ []) → AreUnsequenced bodies objects es fs
  second_of es fs (Next u) = absurd (nothing_before es u)
  second_of es fs (Later (Next u)) = u
  second_of es fs (Later (Later b)) = elim b [ ]

  pub pair_told : (b : Bool) (es fs : List Effect) → Tells b (AreUnsequenced bodies objects es fs) → Tells b (SomePair bodies objects (es ∷ fs ∷ []))
  pair_told b es fs t = (λ h. OfFirst (here fs []) (t.0 h), λ p. t.1 (second_of es fs (behind_of_pair [] (es ∷ fs ∷ []) p)))

  -- one operand more
  pub one_behind : (before es : List Effect) (rest : List (List Effect)) → (AreUnsequenced bodies objects before es → ⊥) → SomeBehind bodies objects before (es ∷ rest) → SomeBehind bodies objects (before ++ es) rest
  one_behind before es rest n (Next u) = absurd (n u)
  one_behind before es rest n (Later b) = b

  pub none_behind : (before : List Effect) → SomeBehind bodies objects before [] → ⊥
  none_behind before b = elim b [ ]
