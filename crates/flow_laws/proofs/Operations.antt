-- One operation, and operations one behind another.
use Rattle.std.proofs.Common.{◌≡◌, ℕ, zero, suc, ◌+◌, ◌-◌, ◌≤◌, ◌<◌, nat_le, Bool, true, false, cond, List, [], ◌∷◌, ◌++◌, length, Some, slice_get, leb-true, leb-false, refl, sym, ap, ◌∙◌, subst, arith}
use Rattle.c_core.specs.Tree.{Program}
use Rattle.c_meaning.specs.declared.run.End.{End}
use Rattle.c_meaning.specs.declared.run.End.TheVariants.{Spent}
use Rattle.c_meaning.specs.declared.run.Event.{Event}
use Rattle.c_meaning.specs.Cells.{Cell}
use Rattle.c_meaning.specs.Acts.{Res, Go, Stop, bind}
use Rattle.c_meaning.specs.Meaning.{AStatement}
use Rattle.c_meaning.specs.Exec.{ticks}
use Rattle.c_meaning.specs.Run.{State}
use Rattle.flow_code.specs.declared.code.Op.{Op}
use Rattle.flow_code.specs.declared.code.Code.{Code}
use Rattle.flow_laws.specs.Machines.{Control, Machine}
use Rattle.flow_laws.specs.Acting.{acted}
use Rattle.flow_laws.specs.Stepping.{Short, outcome, moved, paid_all, behind, done_if, step, Reaches, Does}
use Rattle.flow_laws.specs.inside.Simulating.{HasCode, StandsAt, control_at, meaning, paying}
use Rattle.flow_laws.proofs.Reaching.{one_step, one_end, does_from}
use Rattle.flow_laws.proofs.Budgets.{fewer}

-- a code that has operations and more has these, and those behind them
pub code_split : (c : Code) (i : ℕ) (xs ys : List Op) → HasCode c i (xs ++ ys) → HasCode c i xs × HasCode c (i + length xs) ys
code_split c i [] ys h = let e : i + 0 ≡ i = omega arith in (tt, subst (λ j. HasCode c j ys) (sym e) h)
code_split c i (x ∷ xs) ys h =
    let r = code_split c (suc i) xs ys h.1 in
    let e : suc i + length xs ≡ i + length (x ∷ xs) = omega arith in
    ((h.0, r.0), subst (λ j. HasCode c j ys) e r.1)

-- the same, where the length is known
pub code_parts : (c : Code) (i n : ℕ) (xs ys : List Op) → length xs ≡ n → HasCode c i (xs ++ ys) → HasCode c i xs × HasCode c (i + n) ys
code_parts c i n xs ys e h = let r = code_split c i xs ys h in (r.0, subst (λ l. HasCode c (i + l) ys) e r.1)

-- one part behind another, and behind them a third, whichever way they are put together
pub bind_behind : {E T A B C : Type 0} (r : Res E T A) (f : A → T → Res E T B) (g : B → T → Res E T C) → bind (bind r f) g ≡ bind r (λ a t. bind (f a t) g)
bind_behind (Go a s) f g = refl
bind_behind (Stop e s) f g = refl

-- parts that go on alike
pub bind_alike : {E T A B : Type 0} (r : Res E T A) (f g : A → T → Res E T B) → ((a : A) (t : T) → f a t ≡ g a t) → bind r f ≡ bind r g
bind_alike (Go a s) f g h = h a s
bind_alike (Stop e s) f g h = refl

-- what a part gives, where it goes on
abbrev pub Gives : {E T A : Type 0} → (A → Type 0) → Res E T A → Type 0
Gives P (Go a s) = P a
Gives P (Stop e s) = Unit {0}

-- a machine with a control and a state of its run, at an address
abbrev pub standing : {S : Type 0} → Control → ℕ → State S → Machine S
standing k i s = record { control = control_at k i; run = s }

module _ (p : Program) (c : Code) (S : Type 0) (after : Event → List Cell → S → S) where
  enough : (n : ℕ) (s : State S) (k : ℕ) → s.steps ≡ k → n ≤ k → ticks p (meaning p c S after) AStatement n s ≡ Go tt (record s { steps = k - n })
  enough zero s k e h = let z : k - 0 ≡ k = omega arith in rw (z, ← e) refl
  enough (suc n) s zero e h = absurd (omega arith)
  enough (suc n) s (suc k) e h =
      let j : n ≤ k = omega arith in
      let d : suc k - suc n ≡ k - n = omega arith in
      rw (e, d) (enough n (record s { steps = k }) k refl j)

  too_few : (n : ℕ) (s : State S) (k : ℕ) → s.steps ≡ k → k < n → ticks p (meaning p c S after) AStatement n s ≡ Stop Spent (record s { steps = 0 })
  too_few zero s k e h = absurd (omega arith)
  too_few (suc n) s zero e h = rw e refl
  too_few (suc n) s (suc k) e h =
      let j : k < n = omega arith in
      rw e (too_few n (record s { steps = k }) k refl j)

  -- the machine comes to a control, in a state of the run, or ends as the part does
  abbrev pub Comes : Machine S → Res End (State S) Control → Type 0
  Comes m r = Does c S after m r (λ k s y. (y.control ≡ k) × (y.run ≡ s))

  moved_comes : (m : Machine S) (r : Res End (State S) Control) → step c S after m ≡ moved r → Comes m r
  moved_comes m (Go k s) e = (record { control = k; run = s }, one_step c S after m (record { control = k; run = s }) e, (refl, refl))
  moved_comes m (Stop x s) e = one_end c S after m x s (ap outcome e)

  paid_or_short : (b : Bool) (i : ℕ) (o : Op) (k : Control) (s : State S) → slice_get c.ops i ≡ Some o → nat_le (o.steps - 0) s.steps ≡ b
      → Comes (standing k i s) (paying p c S after o.steps (acted c S after o.action (control_at k (suc i))) s)
  paid_or_short true i o k s h e =
      let z : o.steps - 0 ≡ o.steps = omega arith in
      let f : o.steps ≤ s.steps = omega (arith, leb-true (o.steps - 0) s.steps e) in
      let t : State S = record s { steps = s.steps - o.steps } in
      let g : i + 1 ≡ suc i = omega arith in
      let taken : step c S after (standing k i s) ≡ moved (acted c S after o.action (control_at k (suc i)) t) =
      ap (done_if c S after (standing k i s)) h
      ∙ ap (λ q. cond q (moved (acted c S after o.action (behind (control_at k i)) (record s { steps = s.steps - (o.steps - 0) }))) (Short (paid_all (standing k i s)))) e
      ∙ ap (λ n. moved (acted c S after o.action (behind (control_at k i)) (record s { steps = s.steps - n }))) z
      ∙ ap (λ j. moved (acted c S after o.action (control_at k j) t)) g in
      subst (Comes (standing k i s)) (sym (ap (λ r. bind r (λ _ u. acted c S after o.action (control_at k (suc i)) u)) (enough o.steps s s.steps refl f)))
      (moved_comes (standing k i s) (acted c S after o.action (control_at k (suc i)) t) taken)
  paid_or_short false i o k s h e =
      let f : s.steps < o.steps = omega (arith, leb-false (o.steps - 0) s.steps e) in
      let t : State S = record s { steps = 0 } in
      let taken : step c S after (standing k i s) ≡ Short (paid_all (standing k i s)) =
      ap (done_if c S after (standing k i s)) h
      ∙ ap (λ q. cond q (moved (acted c S after o.action (behind (control_at k i)) (record s { steps = s.steps - (o.steps - 0) }))) (Short (paid_all (standing k i s)))) e in
      subst (Comes (standing k i s)) (sym (ap (λ r. bind r (λ _ u. acted c S after o.action (control_at k (suc i)) u)) (too_few o.steps s s.steps refl f)))
      (one_end c S after (standing k i s) Spent t (ap outcome taken))

  -- an operation takes its steps, and then acts
  pub op_comes : (i : ℕ) (o : Op) (k : Control) (s : State S) → slice_get c.ops i ≡ Some o
      → Comes (standing k i s) (paying p c S after o.steps (acted c S after o.action (control_at k (suc i))) s)
  op_comes i o k s h = paid_or_short (nat_le (o.steps - 0) s.steps) i o k s h refl

  -- a machine that stands at an address, by its control and its run
  pub stands_as : (i : ℕ) (m : Machine S) → StandsAt i m → m ≡ standing m.control i m.run
  stands_as i m h = ap (λ a. record { control = record m.control { at = a; paid = m.control.paid }; run = m.run }) h.at ∙ ap (λ q. record { control = record m.control { at = i; paid = q }; run = m.run }) h.paid

  -- an operation of any machine that stands at it takes its steps, and then acts
  pub op_does : (i : ℕ) (o : Op) (m : Machine S) → slice_get c.ops i ≡ Some o → StandsAt i m
      → Does c S after m (paying p c S after o.steps (λ s. acted c S after o.action (control_at m.control (suc i)) s) m.run) (λ k s y. (y.control ≡ k) × (y.run ≡ s))
  op_does i o m h at =
      subst (λ z. Comes z (paying p c S after o.steps (acted c S after o.action (control_at m.control (suc i))) m.run)) (sym (stands_as i m at)) (op_comes i o m.control m.run h)

  -- the machine goes on from where a part left it
  pub comes_on : {A : Type 0} (P : A → Type 0) (m : Machine S) (r : Res End (State S) A) (h : A → State S → Control) (t : A → State S → State S) (f : A → State S → Res End (State S) Control)
      → Gives P r → Comes m (bind r (λ a s. Go (h a s) (t a s)))
      → ((a : A) (s : State S) → P a → (t a s).steps ≤ m.run.steps → Comes (record { control = h a s; run = t a s }) (f a s)) → Comes m (bind r f)
  comes_on P m (Go a s) h t f q d g =
      let y : Machine S = record { control = h a s; run = t a s } in
      let same : d.0 ≡ y = ap (λ k. record { control = k; run = d.0.run }) d.2.0 ∙ ap (λ u. record { control = h a s; run = u }) d.2.1 in
      let reached : Reaches c S after m y = subst (Reaches c S after m) same d.1 in
      does_from c S after m y (f a s) _ reached (g a s q (fewer c S after m y reached))
  comes_on P m (Stop e s) h t f q d g = d

  -- the same, where nothing is known of what the part gave
  pub comes_then : {A : Type 0} (m : Machine S) (r : Res End (State S) A) (h : A → State S → Control) (t : A → State S → State S) (f : A → State S → Res End (State S) Control)
      → Comes m (bind r (λ a s. Go (h a s) (t a s)))
      → ((a : A) (s : State S) → (t a s).steps ≤ m.run.steps → Comes (record { control = h a s; run = t a s }) (f a s)) → Comes m (bind r f)
  comes_then m r h t f d g = comes_on (λ _. Unit {0}) m r h t f (whatever r) d (λ a s _ l. g a s l)
    where
      whatever : {A : Type 0} (r : Res End (State S) A) → Gives (λ _. Unit {0}) r
      whatever (Go a s) = tt
      whatever (Stop e s) = tt

  -- steps that are passed on
  pub paying_alike : {A : Type 0} (k : ℕ) (f g : State S → Res End (State S) A) (s : State S) → ((u : State S) → f u ≡ g u) → paying p c S after k f s ≡ paying p c S after k g s
  paying_alike k f g s h = bind_alike (ticks p (meaning p c S after) AStatement k s) (λ _ u. f u) (λ _ u. g u) (λ _ u. h u)

  pub paying_behind : {A B : Type 0} (k : ℕ) (f : State S → Res End (State S) A) (g : A → State S → Res End (State S) B) (s : State S)
      → bind (paying p c S after k f s) g ≡ paying p c S after k (λ u. bind (f u) g) s
  paying_behind k f g s = bind_behind (ticks p (meaning p c S after) AStatement k s) (λ _ u. f u) g

  ticks_more : (k : ℕ) (s : State S) → ticks p (meaning p c S after) AStatement (suc k) s ≡ bind (ticks p (meaning p c S after) AStatement k s) (λ _ u. (meaning p c S after).tick AStatement u)
  ticks_more zero s = kept ((meaning p c S after).tick AStatement s)
    where
      kept : (r : Res End (State S) (Unit {0})) → bind r (λ _ u. Go tt u) ≡ r
      kept (Go a s) = refl
      kept (Stop e s) = refl
  ticks_more (suc k) s =
      bind_alike ((meaning p c S after).tick AStatement s) (λ _ u. ticks p (meaning p c S after) AStatement (suc k) u) (λ _ u. bind (ticks p (meaning p c S after) AStatement k u) (λ _ w. (meaning p c S after).tick AStatement w))
      (λ _ u. ticks_more k u)
      ∙ sym (bind_behind ((meaning p c S after).tick AStatement s) (λ _ u. ticks p (meaning p c S after) AStatement k u) (λ _ w. (meaning p c S after).tick AStatement w))

  -- a step that is taken behind others is one more of them
  pub paying_more : {A : Type 0} (k : ℕ) (f : State S → Res End (State S) A) (s : State S)
      → paying p c S after (k + 1) f s ≡ paying p c S after k (λ u. bind ((meaning p c S after).tick AStatement u) (λ _ w. f w)) s
  paying_more k f s =
      let e : k + 1 ≡ suc k = omega arith in
      ap (λ n. paying p c S after n f s) e ∙ ap (λ r. bind r (λ _ w. f w)) (ticks_more k s)
      ∙ bind_behind (ticks p (meaning p c S after) AStatement k s) (λ _ u. (meaning p c S after).tick AStatement u) (λ _ w. f w)
