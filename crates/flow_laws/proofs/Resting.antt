-- A machine whose steps were spent goes on as one that had more; a run has one end.
use Rattle.std.proofs.Common.{◌≡◌, ℕ, zero, suc, ◌+◌, ◌-◌, ◌≤◌, Bool, true, false, cond, List, Option, Some, None, slice_get, nat_le, leb-true, leb-false, refl, sym, ap, ◌∙◌, subst, arith}
use Rattle.c_meaning.specs.declared.run.End.{End}
use Rattle.c_meaning.specs.declared.run.End.TheVariants.{Ended, Spent}
use Rattle.c_meaning.specs.declared.run.Event.{Event}
use Rattle.c_meaning.specs.Acts.{Res, Go, Stop}
use Rattle.c_meaning.specs.Cells.{Cell}
use Rattle.c_meaning.specs.Run.{State}
use Rattle.flow_code.specs.declared.code.Code.{Code}
use Rattle.flow_code.specs.declared.code.Op.{Op}
use Rattle.flow_laws.specs.Machines.{Control, Machine, with_steps}
use Rattle.flow_laws.specs.Acting.{acted}
use Rattle.flow_laws.specs.Stepping.{Turn, On, Short, Over, onward, outcome, moved, due, paid_all, behind, done_if, step, steps, Ends}
use Rattle.flow_laws.proofs.Apart.{Spares, apart_acted}
use Rattle.flow_laws.proofs.Reaching.{steps_on}
use Rattle.flow_laws.proofs.Budgets.{at_steps, as_steps, acted_at, Leaves, acted_leaves, fewer_step, more_steps, short_goes_on}

-- whether a machine goes on is known of what its operations come to
ended_stays : {S : Type 0} (t : Turn S) (f : Machine S → Turn S) (e : End) (s : State S) → outcome t ≡ Stop e s → onward t f ≡ t
ended_stays (On m) f e s h = cc
ended_stays (Short m) f e s h = refl
ended_stays (Over x u) f e s h = refl

module _ (c : Code) (S : Type 0) (after : Event → List Cell → S → S) where
  -- a run that has ended stays so
  stays : (i j : ℕ) (m : Machine S) (e : End) (s : State S) → outcome (steps c S after i m) ≡ Stop e s → steps c S after (i + j) m ≡ steps c S after i m
  stays i j m e s h = steps_on c S after i j m ∙ ended_stays (steps c S after i m) (steps c S after j) e s h

  -- a run has one end, in one state
  pub ends_once : (m : Machine S) (e f : End) (s t : State S) → Ends c S after m e s → Ends c S after m f t → (e ≡ f) × (s ≡ t)
  ends_once m e f s t g h =
      let swap : g.count + h.count ≡ h.count + g.count = omega arith in
      let same : steps c S after g.count m ≡ steps c S after h.count m =
      sym (stays g.count h.count m e s g.is) ∙ ap (λ n. steps c S after n m) swap ∙ stays h.count g.count m f t h.is in
      let ends : Stop e s ≡ Stop f t = sym g.is ∙ ap outcome same ∙ h.is in
      (cc, cc)

  -- an end comes of some operation
  pub counted : (m : Machine S) (e : End) (s : State S) (n : ℕ) → outcome (steps c S after n m) ≡ Stop e s → (k : ℕ) × (n ≡ suc k)
  counted m e s zero h = cc
  counted m e s (suc n) h = (n, refl)

  moved_over : (r : Res End (State S) Control) (q n d : ℕ) (e : End) (s : State S) → Leaves c S after q r → n ≡ q + d → moved r ≡ Over e s
      → (moved (as_steps n r) ≡ Over e (at_steps (s.steps + d) s)) × (s.steps ≡ q)
  moved_over (Go k t) q n d e s l h i = cc
  moved_over (Stop x t) q n d e s l h i =
      let same : t ≡ s = cc in
      let end : x ≡ e = cc in
      let left : s.steps ≡ q = ap (λ u. u.steps) (sym same) ∙ l in
      let sum : n ≡ s.steps + d = omega (arith, h, left) in
      (ap (λ y. Over y (at_steps n t)) end ∙ ap (λ u. Over e (at_steps n u)) same ∙ ap (λ k. Over e (at_steps k s)) sum, left)

  done_over : (b a : Bool) (m : Machine S) (x : Op) (e : End) (s : State S) (d : ℕ) → nat_le (due m x) m.run.steps ≡ b → nat_le (due m x) (m.run.steps + d) ≡ a
      → cond b (moved (acted c S after x.action (behind m.control) (record m.run { steps = m.run.steps - due m x }))) (Short (paid_all m)) ≡ Over e s
      → (cond a (moved (acted c S after x.action (behind m.control) (record m.run { steps = m.run.steps + d - due m x }))) (Short (paid_all (with_steps (m.run.steps + d) m))) ≡ Over e (at_steps (s.steps + d) s))
      × (s.steps ≤ m.run.steps)
  done_over true true m x e s d g h i =
      let k = behind m.control in
      let u = record m.run { steps = m.run.steps - due m x } in
      let n = m.run.steps + d - due m x in
      let within = leb-true (due m x) m.run.steps g in
      let sum : n ≡ (m.run.steps - due m x) + d = omega (arith, within) in
      let o = moved_over (acted c S after x.action k u) (m.run.steps - due m x) n d e s (acted_leaves c S after x.action k u) sum i in
      (ap moved (acted_at c S after x.action k n u) ∙ o.0, omega (arith, o.1))
  done_over true false m x e s d g h i =
      let within = leb-true (due m x) m.run.steps g in
      let beyond = leb-false (due m x) (m.run.steps + d) h in
      absurd (omega (arith, within, beyond))
  done_over false a m x e s d g h i = cc

  over_if : (m : Machine S) (o : Option Op) (e : End) (s : State S) (d : ℕ) → done_if c S after m o ≡ Over e s
      → (done_if c S after (with_steps (m.run.steps + d) m) o ≡ Over e (at_steps (s.steps + d) s)) × (s.steps ≤ m.run.steps)
  over_if m None e s d h =
      let end : Ended ≡ e = cc in
      let same : m.run ≡ s = cc in
      (ap (λ x. Over x (at_steps (m.run.steps + d) m.run)) end ∙ ap (λ u. Over e (at_steps (u.steps + d) u)) same, subst (λ u. u.steps ≤ m.run.steps) same (omega arith))
  over_if m (Some x) e s d h = done_over (nat_le (due m x) m.run.steps) (nat_le (due m x) (m.run.steps + d)) m x e s d refl refl h

  -- an operation that ends the run ends it with more steps too
  pub over_more : (m : Machine S) (e : End) (s : State S) (d : ℕ) → step c S after m ≡ Over e s
      → (step c S after (with_steps (m.run.steps + d) m) ≡ Over e (at_steps (s.steps + d) s)) × (s.steps ≤ m.run.steps)
  over_more m e s d h = over_if m (slice_get c.ops m.control.at) e s d h

  -- a machine whose steps didn't suffice has none
  none_left : (m y : Machine S) (o : Option Op) → done_if c S after m o ≡ Short y → y.run.steps ≡ 0
  none_left m y None h = cc
  none_left m y (Some o) h = left (nat_le (due m o) m.run.steps) (acted c S after o.action (behind m.control) (record m.run { steps = m.run.steps - due m o })) h
    where
      left : (b : Bool) (r : Res End (State S) Control) → cond b (moved r) (Short (paid_all m)) ≡ Short y → y.run.steps ≡ 0
      left true (Go k s) e = cc
      left true (Stop x s) e = cc
      left false r e = let same : paid_all m ≡ y = cc in ap (λ z. z.run.steps) (sym same)

  -- after some operations, how a machine that was short goes on with d steps more, from its next operation on
  pub record GoesOn (m y : Machine S) (d : ℕ) : Type 0 where
    pub count : ℕ
    pub alike : (i : ℕ) → steps c S after (count + suc i) (with_steps (m.run.steps + d) m) ≡ steps c S after (suc i) (with_steps d y)
    pub none : y.run.steps ≡ 0

  short_on_if : (n : ℕ) (m y : Machine S) (d : ℕ) (t : Turn S) → step c S after m ≡ t → onward t (steps c S after n) ≡ Short y
      → ((x : Machine S) → steps c S after n x ≡ Short y → GoesOn x y d) → GoesOn m y d
  short_on_if n m y d (On x) e h rest =
      let r = rest x h in
      record {
        count = suc r.count;
        alike = λ i. let s : suc r.count + suc i ≡ suc (r.count + suc i) = omega arith in
            ap (λ k. steps c S after k (with_steps (m.run.steps + d) m)) s ∙ ap (λ t. onward t (steps c S after (r.count + suc i))) (more_steps c S after m x d e) ∙ r.alike i;
        none = r.none;
      }
  short_on_if n m y d (Short x) e h rest =
      let same : x ≡ y = cc in
      record {
        count = 0;
        alike = λ i. let s : 0 + suc i ≡ suc i = omega arith in
            ap (λ k. steps c S after k (with_steps (m.run.steps + d) m)) s ∙ ap (λ t. onward t (steps c S after i)) (short_goes_on c S after m y d (e ∙ ap Short same));
        none = none_left m y (slice_get c.ops m.control.at) (e ∙ ap Short same);
      }
  short_on_if n m y d (Over x s) e h rest = cc

  -- with more steps a machine that was short goes on from there
  pub short_on : (n : ℕ) (m y : Machine S) (d : ℕ) → steps c S after n m ≡ Short y → GoesOn m y d
  short_on zero m y d h = cc
  short_on (suc n) m y d h = short_on_if n m y d (step c S after m) refl h (λ x g. short_on n x y d g)

  -- the same end with d steps more
  pub record EndsToo (m : Machine S) (e : End) (s : State S) (d : ℕ) : Type 0 where
    pub count : ℕ
    pub is : steps c S after count (with_steps (m.run.steps + d) m) ≡ Over e (at_steps (s.steps + d) s)
    pub fewer : s.steps ≤ m.run.steps

  over_on_if : (n : ℕ) (m : Machine S) (e : End) (s : State S) (d : ℕ) (t : Turn S) → step c S after m ≡ t → onward t (steps c S after n) ≡ Over e s
      → ((x : Machine S) → steps c S after n x ≡ Over e s → EndsToo x e s d) → EndsToo m e s d
  over_on_if n m e s d (On x) g h rest =
      let r = rest x h in
      let f = fewer_step c S after m x g in
      record {
        count = suc r.count;
        is = ap (λ t. onward t (steps c S after r.count)) (more_steps c S after m x d g) ∙ r.is;
        fewer = omega (arith, r.fewer, f);
      }
  over_on_if n m e s d (Short x) g h rest = cc
  over_on_if n m e s d (Over x u) g h rest =
      let o = over_more m e s d (g ∙ h) in
      record {
        count = 1;
        is = ap (λ t. onward t (steps c S after 0)) o.0;
        fewer = o.1;
      }

  -- with more steps a run that has ended ends so too
  pub over_on : (n : ℕ) (m : Machine S) (e : End) (s : State S) (d : ℕ) → steps c S after n m ≡ Over e s → EndsToo m e s d
  over_on zero m e s d h = cc
  over_on (suc n) m e s d h = over_on_if n m e s d (step c S after m) refl h (λ x g. over_on n x e s d g)

  done_spares : (b : Bool) (r : Res End (State S) Control) (m : Machine S) (s : State S) → Spares r → cond b (moved r) (Short m) ≡ Over Spent s → ⊥
  done_spares true (Go k u) m s g h = cc
  done_spares true (Stop e u) m s g h = let same : e ≡ Spent = cc in g same
  done_spares false r m s g h = cc

  step_spares : (m : Machine S) (o : Option Op) (s : State S) → done_if c S after m o ≡ Over Spent s → ⊥
  step_spares m None s h = cc
  step_spares m (Some o) s h =
      let u = record m.run { steps = m.run.steps - due m o } in
      done_spares (nat_le (due m o) m.run.steps) (acted c S after o.action (behind m.control) u) (paid_all m) s
      (apart_acted S S after after (λ x. x) (λ e cs x. refl) 0 c o.action (behind m.control) u).1 h

  onward_spares : (t : Turn S) (f : Machine S → Turn S) (s : State S) → ((u : State S) → t ≡ Over Spent u → ⊥) → ((m : Machine S) → f m ≡ Over Spent s → ⊥) → onward t f ≡ Over Spent s → ⊥
  onward_spares (On m) f s g h e = h m e
  onward_spares (Short m) f s g h e = cc
  onward_spares (Over x u) f s g h e = g s e

  -- operations end no run as spent
  pub never_spent : (n : ℕ) (m : Machine S) (s : State S) → steps c S after n m ≡ Over Spent s → ⊥
  never_spent zero m s h = cc
  never_spent (suc n) m s h =
      onward_spares (step c S after m) (steps c S after n) s (λ u e. step_spares m (slice_get c.ops m.control.at) u e) (λ y e. never_spent n y s e) h
