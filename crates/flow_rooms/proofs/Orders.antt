-- Machines stay in order when they are short of steps and when they get more; a machine in order does only so many operations.
use Rattle.std.proofs.Common.{◌≡◌, ◌<◌, ◌⊎◌, inl, inr, ℕ, zero, suc, ◌-◌, nat_le, Bool, true, false, cond, List, Option, Some, None, slice_get, leb-false, refl, ap, subst, arith}
use Rattle.c_meaning.specs.declared.run.End.{End}
use Rattle.c_meaning.specs.declared.run.Event.{Event}
use Rattle.c_meaning.specs.Acts.{Res, Go, Stop}
use Rattle.c_meaning.specs.Cells.{Cell}
use Rattle.c_meaning.specs.Run.{State}
use Rattle.flow_code.specs.declared.code.Code.{Code}
use Rattle.flow_code.specs.declared.code.Op.{Op}
use Rattle.flow_laws.specs.Machines.{Control, Machine}
use Rattle.flow_laws.specs.Acting.{acted}
use Rattle.flow_laws.specs.Stepping.{Turn, On, Short, Over, onward, moved, due, paid_all, behind, done_if, step, steps}
use Rattle.flow_rooms.specs.Paces.{IsPaced, IsInOrder}
use Rattle.flow_rooms.proofs.Falls.{step_falls}

module _ (c : Code) (S : Type 0) (after : Event → List Cell → S → S) where
  moved_not_short : (r : Res End (State S) Control) (y : Machine S) → moved r ≡ Short y → ⊥
  moved_not_short (Go k s) y e = cc
  moved_not_short (Stop x s) y e = cc

  short_is : (b : Bool) (r : Res End (State S) Control) (k y : Machine S) → cond b (moved r) (Short k) ≡ Short y → (b ≡ false) × (k ≡ y)
  short_is true r k y e = absurd (moved_not_short r y e)
  short_is false r k y e = let g : k ≡ y = cc in (refl, g)

  paid_in_order : (m : Machine S) (o : Op) → slice_get c.ops m.control.at ≡ Some o → m.run.steps < due m o → IsInOrder c m → IsInOrder c (paid_all m)
  paid_in_order m o h l order = record {
    unpaid = λ x g t. let same : x ≡ o = cc in let long = ap (λ (z : Op). z.steps) same in omega (arith, long, l);
    noted = order.noted;
    few = order.few;
  }

  short_if : (m y : Machine S) (o : Option Op) → slice_get c.ops m.control.at ≡ o → IsInOrder c m → done_if c S after m o ≡ Short y → IsInOrder c y
  short_if m y None h order e = absurd (cc)
  short_if m y (Some o) h order e =
      let q = short_is (nat_le (due m o) m.run.steps) (acted c S after o.action (behind m.control) (record m.run { steps = m.run.steps - due m o })) (paid_all m) y e in
      subst (λ z. IsInOrder c z) q.1 (paid_in_order m o h (leb-false (due m o) m.run.steps q.0) order)

  -- a machine that is short of steps for its next operation is in order
  pub short_in_order : (m y : Machine S) → IsInOrder c m → step c S after m ≡ Short y → IsInOrder c y
  short_in_order m y order e = short_if m y (slice_get c.ops m.control.at) refl order e

  onward_short : (t : Turn S) (f : Machine S → Turn S) (y : Machine S) → onward t f ≡ Short y → ((m : Machine S) × (t ≡ On m) × (f m ≡ Short y)) ⊎ (t ≡ Short y)
  onward_short (On m) f y e = inl (m, refl, e)
  onward_short (Short m) f y e = inr e
  onward_short (Over x s) f y e = cc

  module _ (paced : IsPaced c) where
    -- so is one that is short of steps some operations later
    pub shorts_in_order : (k : ℕ) (m y : Machine S) → IsInOrder c m → steps c S after k m ≡ Short y → IsInOrder c y
    shorts_in_order zero m y order e = cc
    shorts_in_order (suc k) m y order e = elim (onward_short (step c S after m) (steps c S after k) y e) [
      | inl t ↦ shorts_in_order k t.0 y (step_falls c paced S after m t.0 order t.1).0 t.2
      | inr t ↦ short_in_order m y order t
    ]
