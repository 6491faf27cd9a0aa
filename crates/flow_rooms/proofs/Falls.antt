-- Each operation lowers a number, where code is paced; so a machine's steps pay only so many of them.
use Rattle.std.proofs.Common.{◌≡◌, ◌≤◌, ◌<◌, ◌⊎◌, inl, inr, ℕ, ℤ, zero, suc, ◌+◌, ◌*◌, ◌-◌, nat_le, nat_lt, Bool, true, false, cond, ◌&&◌, ◌||◌, List, length, Option, Some, None, slice_get, leb-true, ltb-true, ltb-false, refl, sym, ap, ◌∙◌, subst, arith}
use Rattle.std.proofs.Math.Nat.{suc-mul, mul-le-mul_right}
use Rattle.std.proofs.lemmas.Option.{slice_get_within}
use Rattle.c_meaning.specs.declared.run.Choices.{Choices}
use Rattle.c_meaning.specs.declared.run.End.{End}
use Rattle.c_meaning.specs.declared.run.Event.{Event}
use Rattle.c_meaning.specs.Acts.{Res, Go, Stop}
use Rattle.c_meaning.specs.Cells.{Cell}
use Rattle.c_meaning.specs.Run.{State, most_cells}
use Rattle.flow_code.specs.declared.code.Code.{Code}
use Rattle.flow_code.specs.declared.code.Op.{Op}
use Rattle.flow_laws.specs.Machines.{Control, Machine, first_machine}
use Rattle.flow_laws.specs.Acting.{acted, top}
use Rattle.flow_laws.specs.Stepping.{Turn, On, Short, Over, onward, moved, due, paid_all, behind, done_if, step, steps}
use Rattle.flow_laws.proofs.Budgets.{acted_leaves, Leaves}
use Rattle.flow_rooms.specs.Paces.{target_of, opens, takes_step, opens_scope, takes_soon, IsPaced, ahead_by, ahead_at, ahead, pace, still, IsInOrder}
use Rattle.flow_rooms.proofs.Moves.{Move, Along, Led, Entered, Left, Moves, acted_moves}

ahead_most : (t s : Bool) (n : ℕ) → 1 ≤ n → ahead_by t s n ≤ n
ahead_most true s n h = omega arith
ahead_most false true n h = h
ahead_most false false n h = omega arith

ahead_soon : (t s : Bool) (n : ℕ) → s ≡ true → ahead_by t s n ≤ 1
ahead_soon true s n h = omega arith
ahead_soon false true n h = omega arith
ahead_soon false false n h = cc

ahead_now : (t s : Bool) (n : ℕ) → t ≡ true → ahead_by t s n ≡ 0
ahead_now true s n h = refl
ahead_now false s n h = cc

and_both : (a b : Bool) → (a && b) ≡ true → (a ≡ true) × (b ≡ true)
and_both true b h = (refl, h)
and_both false b h = cc

-- a step is worth more than all that may be ahead
steps_pay : (a b w h g : ℕ) → a < b → h < w → a * w + h < b * w + g
steps_pay a b w h g l k =
    let more = mul-le-mul_right {m = suc a} {n = b} w l in
    let one = suc-mul a w in
    omega (arith, more, one, k)

-- what is ahead is less than the pace
below_pace : (most n i d : ℕ) → d ≤ most → d * (n + 3) + (n - i + 2) < (most + 1) * (n + 3)
below_pace most n i d h =
    let less = mul-le-mul_right {m = d} {n = most} (n + 3) h in
    let e : most + 1 ≡ suc most = omega arith in
    let one = ap (λ k. k * (n + 3)) e ∙ suc-mul most (n + 3) in
    omega (arith, less, one)

further : (a n i j : ℕ) → i < j → i < n → a + (n - j + 2) < a + (n - i + 2)
further a n i j h l = omega (arith, h, l)

-- a call less is worth all addresses of a function
call_less : (n d e i j : ℕ) → d ≡ suc e → e * (n + 3) + (n - j + 2) < d * (n + 3) + (n - i + 2)
call_less n d e i j h = let one = ap (λ k. k * (n + 3)) h ∙ suc-mul e (n + 3) in omega (arith, one)

module _ (c : Code) (paced : IsPaced c) where
  -- where a scope is opened, an operation that takes a step is next
  next_takes : (o : Op) (v : ℤ) (i d n i' d' n' : ℕ) → opens o.action ≡ true → takes_step (slice_get c.ops (suc i)) ≡ true → Move c (opens o.action) (target_of o.action v) (i + 1) d n i' d' n' → ahead_at c i' d' ≡ 0
  next_takes o v i d n i' d' n' h t (Along a e f) =
      let same : suc i ≡ i' = omega (arith, a) in
      ahead_now (takes_step (slice_get c.ops i')) (takes_soon c.ops i') (d' * (length c.ops + 3) + (length c.ops - i' + 2)) (subst (λ j. takes_step (slice_get c.ops j) ≡ true) same t)
  next_takes o v i d n i' d' n' h t (Led z a e f) = absurd (cc)
  next_takes o v i d n i' d' n' h t (Entered g b z a e f k l) = absurd (cc)
  next_takes o v i d n i' d' n' h t (Left z a e) = absurd (cc)

  led_on : (i d i' d' : ℕ) → i < length c.ops → d' ≡ d → (i < i') ⊎ (takes_soon c.ops i' ≡ true) → ahead_at c i' d' < d * (length c.ops + 3) + (length c.ops - i + 2)
  led_on i d i' d' l e (inl h) =
      let most = ahead_most (takes_step (slice_get c.ops i')) (takes_soon c.ops i') (d' * (length c.ops + 3) + (length c.ops - i' + 2)) (omega arith) in
      let same = ap (λ k. k * (length c.ops + 3)) e in
      let less = further (d * (length c.ops + 3)) (length c.ops) i i' h l in
      omega (arith, most, same, less)
  led_on i d i' d' l e (inr h) =
      let one = ahead_soon (takes_step (slice_get c.ops i')) (takes_soon c.ops i') (d' * (length c.ops + 3) + (length c.ops - i' + 2)) h in
      omega (arith, one)

  -- elsewhere there is less ahead
  leads_on : (o : Op) (v : ℤ) (i d n i' d' n' : ℕ) → slice_get c.ops i ≡ Some o → Move c (opens o.action) (target_of o.action v) (i + 1) d n i' d' n' → ahead_at c i' d' < d * (length c.ops + 3) + (length c.ops - i + 2)
  leads_on o v i d n i' d' n' h (Along a e f) = led_on i d i' d' (slice_get_within c.ops i o h) e (inl (omega (arith, a)))
  leads_on o v i d n i' d' n' h (Led z a e f) = led_on i d i' d' (slice_get_within c.ops i o h) e (paced.leads i i' o v h a)
  leads_on o v i d n i' d' n' h (Entered g b z a e f k l) =
      let starts = subst (λ j. takes_step (slice_get c.ops j) ≡ true) (sym e) (paced.begins g b a) in
      let now = ahead_now (takes_step (slice_get c.ops i')) (takes_soon c.ops i') (d' * (length c.ops + 3) + (length c.ops - i' + 2)) starts in
      omega (arith, now)
  leads_on o v i d n i' d' n' h (Left z a e) =
      let most = ahead_most (takes_step (slice_get c.ops i')) (takes_soon c.ops i') (d' * (length c.ops + 3) + (length c.ops - i' + 2)) (omega arith) in
      let less = call_less (length c.ops) d d' i i' a in
      omega (arith, most, less)

  -- by what comes soon
  free_by : (t b : Bool) (o : Op) (v : ℤ) (i d n i' d' n' : ℕ) → slice_get c.ops i ≡ Some o → takes_step (slice_get c.ops i) ≡ t → t ≡ false → takes_soon c.ops i ≡ b
      → Move c (opens o.action) (target_of o.action v) (i + 1) d n i' d' n' → ahead_at c i' d' < ahead_by t b (d * (length c.ops + 3) + (length c.ops - i + 2))
  free_by true b o v i d n i' d' n' h e z s move = absurd (cc)
  free_by false true o v i d n i' d' n' h e z s move =
      let two = and_both (opens_scope (slice_get c.ops i)) (takes_step (slice_get c.ops (suc i))) (sym (ap (λ t. t || (opens_scope (slice_get c.ops i) && takes_step (slice_get c.ops (suc i)))) e) ∙ s) in
      let none = next_takes o v i d n i' d' n' (sym (ap opens_scope h) ∙ two.0) two.1 move in
      omega (arith, none)
  free_by false false o v i d n i' d' n' h e z s move = leads_on o v i d n i' d' n' h move

  -- an operation that takes no step leaves less ahead
  free_falls : (o : Op) (v : ℤ) (i d n i' d' n' : ℕ) → slice_get c.ops i ≡ Some o → nat_lt 0 o.steps ≡ false → Move c (opens o.action) (target_of o.action v) (i + 1) d n i' d' n' → ahead_at c i' d' < ahead_at c i d
  free_falls o v i d n i' d' n' h z move = free_by (takes_step (slice_get c.ops i)) (takes_soon c.ops i) o v i d n i' d' n' h refl (ap takes_step h ∙ z) refl move

  -- what is ahead is less than the pace
  pub ahead_below : (i d : ℕ) → d ≤ most_cells → ahead_at c i d < pace c
  ahead_below i d h =
      let most = ahead_most (takes_step (slice_get c.ops i)) (takes_soon c.ops i) (d * (length c.ops + 3) + (length c.ops - i + 2)) (omega arith) in
      let less = below_pace most_cells (length c.ops) i d h in
      omega (arith, most, less)

  -- behind a move the calls are noted as before
  still_noted : (o : Op) (v : ℤ) (at d n i' d' n' : ℕ) → n ≡ d → n ≤ most_cells → Move c (opens o.action) (target_of o.action v) at d n i' d' n' → (n' ≡ d') × (n' ≤ most_cells)
  still_noted o v at d n i' d' n' h l (Along a e f) = (f ∙ h ∙ sym e, omega (arith, f, l))
  still_noted o v at d n i' d' n' h l (Led z a e f) = (f ∙ h ∙ sym e, omega (arith, f, l))
  still_noted o v at d n i' d' n' h l (Entered g b z a e f k q) = (omega (arith, f, k, h), omega (arith, k, q))
  still_noted o v at d n i' d' n' h l (Left z a e) = (omega (arith, a, e, h), omega (arith, e, l))

  module _ (S : Type 0) (after : Event → List Cell → S → S) where
    moved_is : (r : Res End (State S) Control) (y : Machine S) → moved r ≡ On y → r ≡ Go y.control y.run
    moved_is (Go k s) y e = let g : record { control = k; run = s } ≡ y = cc in ap (λ (z : Machine S). Go z.control z.run) g
    moved_is (Stop x s) y e = cc

    done_is : (b : Bool) (r : Res End (State S) Control) (k y : Machine S) → cond b (moved r) (Short k) ≡ On y → (b ≡ true) × (r ≡ Go y.control y.run)
    done_is true r k y e = (refl, moved_is r y e)
    done_is false r k y e = cc

    -- behind an operation that is paid
    record Behind (m y : Machine S) : Type 0 where
      op : Op
      found : slice_get c.ops m.control.at ≡ Some op
      enough : due m op ≤ m.run.steps
      left : y.run.steps ≡ m.run.steps - due m op
      paid : y.control.paid ≡ 0
      move : Move c (opens op.action) (target_of op.action (top m.control.stack)) (m.control.at + 1) (length m.control.frames) m.run.active y.control.at (length y.control.frames) y.run.active

    behind_if : (m y : Machine S) (o : Option Op) → slice_get c.ops m.control.at ≡ o → done_if c S after m o ≡ On y → Behind m y
    behind_if m y None h e = absurd (cc)
    behind_if m y (Some o) h e =
        let k = behind m.control in
        let s : State S = record m.run { steps = m.run.steps - due m o } in
        let r = acted c S after o.action k s in
        let d = done_is (nat_le (due m o) m.run.steps) r (paid_all m) y e in
        let q = subst (λ z. Moves c (opens o.action) (target_of o.action (top m.control.stack)) (m.control.at + 1) 0 (length m.control.frames) m.run.active z) d.1 (acted_moves c S after o.action k s) in
        record {
          op = o;
          found = h;
          enough = leb-true (due m o) m.run.steps d.0;
          left = subst (λ z. Leaves c S after s.steps z) d.1 (acted_leaves c S after o.action k s);
          paid = q.0;
          move = q.1;
        }

    behind_step : (m y : Machine S) → step c S after m ≡ On y → Behind m y
    behind_step m y e = behind_if m y (slice_get c.ops m.control.at) refl e

    -- an operation that takes a step, or one that doesn't
    falls_by : (m y : Machine S) → IsInOrder c m → (b : Behind m y) → y.run.active ≡ length y.control.frames → y.run.active ≤ most_cells → (t : Bool) → nat_lt 0 b.op.steps ≡ t → still c y < still c m
    falls_by m y order b noted few true t =
        let takes : 0 < b.op.steps = omega (arith, ltb-true 0 b.op.steps t) in
        let unpaid = order.unpaid b.op b.found takes in
        let left = b.left in
        let enough = b.enough in
        let fewer : y.run.steps < m.run.steps = omega (arith, left, enough, unpaid) in
        steps_pay y.run.steps m.run.steps (pace c) (ahead c y.control) (ahead c m.control) fewer (ahead_below y.control.at (length y.control.frames) (omega (arith, noted, few)))
    falls_by m y order b noted few false t =
        let none : b.op.steps ≡ 0 = omega (arith, ltb-false 0 b.op.steps t) in
        let left = b.left in
        let same : y.run.steps ≡ m.run.steps = omega (arith, left, none) in
        let all = ap (λ n. n * pace c) same in
        let less = free_falls b.op (top m.control.stack) m.control.at (length m.control.frames) m.run.active y.control.at (length y.control.frames) y.run.active b.found t b.move in
        omega (arith, all, less)

    -- an operation leaves a machine in order, and lowers the number
    pub step_falls : (m y : Machine S) → IsInOrder c m → step c S after m ≡ On y → IsInOrder c y × (still c y < still c m)
    step_falls m y order e =
        let b = behind_step m y e in
        let paid = b.paid in
        let q = still_noted b.op (top m.control.stack) (m.control.at + 1) (length m.control.frames) m.run.active y.control.at (length y.control.frames) y.run.active order.noted order.few b.move in
        (record { unpaid = λ o h l. omega (arith, paid, l); noted = q.0; few = q.1 }, falls_by m y order b q.0 q.1 (nat_lt 0 b.op.steps) refl)

    onward_on : (t : Turn S) (f : Machine S → Turn S) (y : Machine S) → onward t f ≡ On y → (m : Machine S) × (t ≡ On m) × (f m ≡ On y)
    onward_on (On m) f y e = (m, refl, e)
    onward_on (Short m) f y e = cc
    onward_on (Over x s) f y e = cc

    -- so do k operations, by k at least
    pub steps_fall : (k : ℕ) (m y : Machine S) → IsInOrder c m → steps c S after k m ≡ On y → IsInOrder c y × (k + still c y ≤ still c m)
    steps_fall zero m y order e =
        let same : m ≡ y = cc in
        let within : 0 + still c m ≤ still c m = omega arith in
        subst (λ z. IsInOrder c z × (0 + still c z ≤ still c m)) same (order, within)
    steps_fall (suc k) m y order e =
        let t = onward_on (step c S after m) (steps c S after k) y e in
        let one = step_falls m t.0 order t.1 in
        let more = steps_fall k t.0 y one.0 t.2 in
        let first = one.1 in
        let others = more.1 in
        (more.0, omega (arith, first, others))

    -- the first machine is in order
    pub first_in_order : (x : S) (choices : Choices) (n : ℕ) → IsInOrder c (first_machine c S x choices n)
    first_in_order x choices n = record { unpaid = λ o h l. l; noted = refl; few = omega arith }

    -- operations that lower such a number, each by one at least, are at most so many
    pub total : (n w h k s : ℕ) → h < w → k + s ≤ n * w + h → k ≤ (n + 1) * w
    total n w h k s l e =
        let z : n + 1 ≡ suc n = omega arith in
        let one = ap (λ m. m * w) z ∙ suc-mul n w in
        omega (arith, one, l, e)

    -- with n steps at most so many operations are done
    pub within_pace : (x : S) (choices : Choices) (n k : ℕ) (m : Machine S) → steps c S after k (first_machine c S x choices n) ≡ On m → k ≤ (n + 1) * pace c
    within_pace x choices n k m e =
        let first = first_machine c S x choices n in
        let fall = steps_fall k first m (first_in_order x choices n) e in
        total n (pace c) (ahead c first.control) k (still c m) (ahead_below first.control.at 0 (omega arith)) fall.1
