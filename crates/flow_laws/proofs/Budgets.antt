-- A machine with more steps goes the same way.
use Rattle.std.proofs.Common.{◌≡◌, ℕ, zero, suc, ◌+◌, ◌-◌, ◌≤◌, Bool, true, false, cond, List, Option, Some, None, slice_get, nat_le, ◌<◌, leb-true, leb-false, refl, sym, ap, ◌∙◌, subst, arith}
use Rattle.c_meaning.specs.declared.run.End.{End}
use Rattle.c_meaning.specs.declared.run.Event.{Event}
use Rattle.c_meaning.specs.Acts.{Res, Go, Stop}
use Rattle.c_meaning.specs.Cells.{Cell}
use Rattle.c_meaning.specs.Run.{State}
use Rattle.flow_code.specs.declared.code.Action.{Action}
use Rattle.flow_code.specs.declared.code.Code.{Code}
use Rattle.flow_code.specs.declared.code.Op.{Op}
use Rattle.flow_laws.specs.Machines.{Control, Machine, with_steps}
use Rattle.flow_laws.specs.Acting.{acted}
use Rattle.flow_laws.specs.Stepping.{Turn, On, Short, Over, onward, moved, due, paid_all, behind, done_if, step, steps, Reaches}
use Rattle.flow_laws.proofs.Apart.{state_by, result_by, apart_acted}

-- the same state with other steps left
abbrev pub at_steps : {S : Type 0} → ℕ → State S → State S
at_steps n s = state_by (λ x. x) n s

-- the same outcome with other steps left
abbrev pub as_steps : {S A : Type 0} → ℕ → Res End (State S) A → Res End (State S) A
as_steps n r = result_by (λ x. x) n r

module _ (c : Code) (S : Type 0) (after : Event → List Cell → S → S) where
  -- no action looks at the steps that are left
  pub acted_at : (a : Action) (k : Control) (n : ℕ) (s : State S) → acted c S after a k (at_steps n s) ≡ as_steps n (acted c S after a k s)
  acted_at a k n s = (apart_acted S S after after (λ x. x) (λ e cs x. refl) n c a k s).0

  -- what an outcome leaves of the steps
  abbrev pub Leaves : {A : Type 0} → ℕ → Res End (State S) A → Type 0
  Leaves n (Go a s) = s.steps ≡ n
  Leaves n (Stop e s) = s.steps ≡ n

  leaves_as : {A : Type 0} (n : ℕ) (r : Res End (State S) A) → Leaves n (as_steps n r)
  leaves_as n (Go a s) = refl
  leaves_as n (Stop e s) = refl

  -- no action takes a step
  pub acted_leaves : (a : Action) (k : Control) (s : State S) → Leaves s.steps (acted c S after a k s)
  acted_leaves a k s = subst (λ r. Leaves s.steps r) (sym (acted_at a k s.steps s)) (leaves_as s.steps (acted c S after a k s))

  moved_leaves : (y : Machine S) (r : Res End (State S) Control) (n : ℕ) → Leaves n r → moved r ≡ On y → y.run.steps ≡ n
  moved_leaves y (Go k s) n h e = let g : record { control = k; run = s } ≡ y = cc in subst (λ z. z.run.steps ≡ n) g h
  moved_leaves y (Stop x s) n h e = cc

  -- an operation takes what is due
  done_leaves : (b : Bool) (y k : Machine S) (r : Res End (State S) Control) (n : ℕ) → Leaves n r → cond b (moved r) (Short k) ≡ On y → (b ≡ true) × (y.run.steps ≡ n)
  done_leaves true y k r n h e = (refl, moved_leaves y r n h e)
  done_leaves false y k r n h e = cc

  step_takes : (m y : Machine S) (o : Option Op) → done_if c S after m o ≡ On y → (x : Op) × (o ≡ Some x) × (nat_le (due m x) m.run.steps ≡ true) × (y.run.steps ≡ m.run.steps - due m x)
  step_takes m y None e = cc
  step_takes m y (Some x) e =
      let k = behind m.control in
      let s = record m.run { steps = m.run.steps - due m x } in
      let d = done_leaves (nat_le (due m x) m.run.steps) y (paid_all m) (acted c S after x.action k s) s.steps (acted_leaves x.action k s) e in
      (x, refl, d.0, d.1)

  -- an operation leaves at most the steps that there were
  pub fewer_step : (m y : Machine S) → step c S after m ≡ On y → y.run.steps ≤ m.run.steps
  fewer_step m y e = let t = step_takes m y (slice_get c.ops m.control.at) e in omega (arith, t.3)

  onward_on : (t : Turn S) (f : Machine S → Turn S) (y : Machine S) → onward t f ≡ On y → (m : Machine S) × (t ≡ On m) × (f m ≡ On y)
  onward_on (On m) f y e = (m, refl, e)
  onward_on (Short m) f y e = cc
  onward_on (Over x s) f y e = cc

  fewer_steps : (n : ℕ) (m y : Machine S) → steps c S after n m ≡ On y → y.run.steps ≤ m.run.steps
  fewer_steps zero m y e = let g : m ≡ y = cc in subst (λ z. z.run.steps ≤ m.run.steps) g (omega arith)
  fewer_steps (suc n) m y e =
      let t = onward_on (step c S after m) (steps c S after n) y e in
      let a = fewer_step m t.0 t.1 in
      let b = fewer_steps n t.0 y t.2 in
      omega (arith, a, b)

  -- a machine that is reached has at most the steps that there were
  pub fewer : (m y : Machine S) → Reaches c S after m y → y.run.steps ≤ m.run.steps
  fewer m y r = fewer_steps r.count m y r.is

  moved_more : (y : Machine S) (r : Res End (State S) Control) (n q d : ℕ) → Leaves q r → n ≡ q + d → moved r ≡ On y → moved (as_steps n r) ≡ On (with_steps (y.run.steps + d) y)
  moved_more y (Go k s) n q d l h e =
      let g : record { control = k; run = s } ≡ y = cc in
      subst (λ z. On (record { control = k; run = at_steps n s }) ≡ On (with_steps (z.run.steps + d) z)) g
      (ap (λ t. On (record { control = k; run = at_steps t s })) (h ∙ ap (λ t. t + d) (sym l)))
  moved_more y (Stop x s) n q d l h e = cc

  done_more : (b a : Bool) (m y : Machine S) (x : Op) (d : ℕ) → nat_le (due m x) m.run.steps ≡ b → nat_le (due m x) (m.run.steps + d) ≡ a
      → cond b (moved (acted c S after x.action (behind m.control) (record m.run { steps = m.run.steps - due m x }))) (Short (paid_all m)) ≡ On y
      → cond a (moved (acted c S after x.action (behind m.control) (record m.run { steps = m.run.steps + d - due m x }))) (Short (paid_all (with_steps (m.run.steps + d) m))) ≡ On (with_steps (y.run.steps + d) y)
  done_more true true m y x d g h e =
      let k = behind m.control in
      let s = record m.run { steps = m.run.steps - due m x } in
      let n = m.run.steps + d - due m x in
      let within = leb-true (due m x) m.run.steps g in
      let sum : n ≡ (m.run.steps - due m x) + d = omega (arith, within) in
      ap moved (acted_at x.action k n s) ∙ moved_more y (acted c S after x.action k s) n (m.run.steps - due m x) d (acted_leaves x.action k s) sum e
  done_more true false m y x d g h e =
      let within = leb-true (due m x) m.run.steps g in
      let beyond = leb-false (due m x) (m.run.steps + d) h in
      absurd (omega (arith, within, beyond))
  done_more false a m y x d g h e = cc

  more_if : (m y : Machine S) (o : Option Op) (d : ℕ) → done_if c S after m o ≡ On y → done_if c S after (with_steps (m.run.steps + d) m) o ≡ On (with_steps (y.run.steps + d) y)
  more_if m y None d e = cc
  more_if m y (Some x) d e = done_more (nat_le (due m x) m.run.steps) (nat_le (due m x) (m.run.steps + d)) m y x d refl refl e

  -- with more steps an operation does the same
  pub more_steps : (m y : Machine S) (d : ℕ) → step c S after m ≡ On y → step c S after (with_steps (m.run.steps + d) m) ≡ On (with_steps (y.run.steps + d) y)
  more_steps m y d e = more_if m y (slice_get c.ops m.control.at) d e

  moved_not_short : (y : Machine S) (r : Res End (State S) Control) → moved r ≡ Short y → ⊥
  moved_not_short y (Go k s) e = cc
  moved_not_short y (Stop x s) e = cc

  short_is : (b : Bool) (r : Res End (State S) Control) (k y : Machine S) → cond b (moved r) (Short k) ≡ Short y → (b ≡ false) × (k ≡ y)
  short_is true r k y e = absurd (moved_not_short y r e)
  short_is false r k y e = let g : k ≡ y = cc in (refl, g)

  done_short : (a z : Bool) (m : Machine S) (x : Op) (d : ℕ) → m.run.steps < due m x → nat_le (due m x) (m.run.steps + d) ≡ a → nat_le (due (paid_all m) x) d ≡ z
      → cond a (moved (acted c S after x.action (behind m.control) (record m.run { steps = m.run.steps + d - due m x }))) (Short (paid_all (with_steps (m.run.steps + d) m)))
      ≡ cond z (moved (acted c S after x.action (behind m.control) (record m.run { steps = d - due (paid_all m) x }))) (Short (paid_all (with_steps d (paid_all m))))
  done_short true true m x d g h i =
      let a = leb-true (due m x) (m.run.steps + d) h in
      let left : m.run.steps + d - due m x ≡ d - due (paid_all m) x = omega (arith, g, a) in
      ap (λ n. moved (acted c S after x.action (behind m.control) (record m.run { steps = n }))) left
  done_short false false m x d g h i =
      let sum : m.control.paid + (m.run.steps + d) ≡ m.control.paid + m.run.steps + d = omega arith in
      ap (λ n. Short (record { control = record m.control { paid = n }; run = record m.run { steps = 0 } })) sum
  done_short true false m x d g h i =
      let a = leb-true (due m x) (m.run.steps + d) h in
      let b = leb-false (due (paid_all m) x) d i in
      absurd (omega (arith, g, a, b))
  done_short false true m x d g h i =
      let a = leb-false (due m x) (m.run.steps + d) h in
      let b = leb-true (due (paid_all m) x) d i in
      absurd (omega (arith, g, a, b))

  short_if : (m y : Machine S) (o : Option Op) (d : ℕ) → done_if c S after m o ≡ Short y → done_if c S after (with_steps (m.run.steps + d) m) o ≡ done_if c S after (with_steps d y) o
  short_if m y None d e = cc
  short_if m y (Some x) d e =
      let q = short_is (nat_le (due m x) m.run.steps) (acted c S after x.action (behind m.control) (record m.run { steps = m.run.steps - due m x })) (paid_all m) y e in
      done_short (nat_le (due m x) (m.run.steps + d)) (nat_le (due (paid_all m) x) d) m x d (leb-false (due m x) m.run.steps q.0) refl refl
      ∙ ap (λ k. done_if c S after (with_steps d k) (Some x)) q.1

  same_address : (m y : Machine S) (o : Option Op) → done_if c S after m o ≡ Short y → y.control.at ≡ m.control.at
  same_address m y None e = cc
  same_address m y (Some x) e =
      let q = short_is (nat_le (due m x) m.run.steps) (acted c S after x.action (behind m.control) (record m.run { steps = m.run.steps - due m x })) (paid_all m) y e in
      ap (λ k. k.control.at) (sym q.1)

  -- a machine whose steps were too few goes on as one that had more
  pub short_goes_on : (m y : Machine S) (d : ℕ) → step c S after m ≡ Short y → step c S after (with_steps (m.run.steps + d) m) ≡ step c S after (with_steps d y)
  short_goes_on m y d e =
      short_if m y (slice_get c.ops m.control.at) d e ∙ ap (λ i. done_if c S after (with_steps d y) (slice_get c.ops i)) (sym (same_address m y (slice_get c.ops m.control.at) e))
