-- Two operands, and the operation that takes them.
use Rattle.std.proofs.Common.{◌≡◌, ℕ, zero, suc, ◌+◌, ◌≤◌, ℤ, List, [], ◌∷◌, ◌++◌, length, Option, Some, None, slice_get, refl, sym, ap, ◌∙◌, subst, arith}
use Rattle.c_core.specs.Tree.{Exp, Expr, Node, Program}
use Rattle.c_core.specs.declared.number.IntType.{IntType}
use Rattle.c_core.specs.declared.number.Spot.{Spot}
use Rattle.c_meaning.specs.declared.run.End.{End}
use Rattle.c_meaning.specs.declared.run.Event.{Event}
use Rattle.c_meaning.specs.Cells.{Cell}
use Rattle.c_meaning.specs.Acts.{Res, Go, bind}
use Rattle.c_meaning.specs.Meaning.{AStatement, Use, Used}
use Rattle.c_meaning.specs.Exec.{ticks}
use Rattle.c_meaning.specs.Run.{State}
use Rattle.c_meaning.specs.Run as run
use Rattle.c_meaning.specs.Watching.{seen_by}
use Rattle.run_state.specs.declared.machine.Around.{Around}
use Rattle.flow_code.specs.declared.code.Operand.{Operand}
use Rattle.flow_code.specs.declared.code.Operand.TheVariants.{Top, Cell as InCell, Number}
use Rattle.flow_code.specs.declared.code.Then.TheVariants.{Push}
use Rattle.flow_code.specs.declared.code.Action.{Action}
use Rattle.flow_code.specs.declared.code.Action.TheVariants.{Give}
use Rattle.flow_code.specs.declared.code.Op.{Op}
use Rattle.flow_code.specs.declared.code.Code.{Code}
use Rattle.flow_code.specs.Preparing.{op, only, give, with_operand, kept, rest, paired}
use Rattle.flow_code.specs.Sizes.{operand_in, operand_of, with_one, behind_operand, size}
use Rattle.flow_code.specs.Expressions.{code}
use Rattle.flow_code.proofs.Lengths.{code_size}
use Rattle.flow_laws.specs.Machines.{Control}
use Rattle.flow_laws.specs.Acting.{top, below, value_of, stack_of, acted}
use Rattle.flow_laws.specs.inside.Simulating.{HasCode, control_at, meaning, paying}
use Rattle.flow_laws.proofs.Operations.{code_parts, bind_behind, bind_alike, standing, Comes, op_comes, comes_then, paying_alike, paying_more}
use Rattle.flow_laws.proofs.Operands.{behind_left, Eval, NodeOf, ticked, Values, IsOwn, own, TakesBoth, operand_comes, pushed_then}

module _ (p : Program) (c : Code) (S : Type 0) (after : Event → List Cell → S → S) (n : ℕ) where
  -- a step changes no cell
  tick_from_keeps : {A : Type 0} (k : ℕ) (u : State S) (f : List Cell → State S → Res End (State S) A)
      → bind (run.tick_from p S (seen_by after) k u) (λ _ w. f u.cells w) ≡ bind (run.tick_from p S (seen_by after) k u) (λ _ w. f w.cells w)
  tick_from_keeps zero u f = refl
  tick_from_keeps (suc k) u f = refl

  -- an operand by itself changes no cell
  own_keeps : {A : Type 0} (x : Node) (y : Operand) → IsOwn p c S after n x y → (at : Around) (want : Use) (spot : Spot) (ty : Option IntType) (vs : List ℤ) (f : List Cell → ℤ → State S → Res End (State S) A) (u : State S)
      → bind (ticked p c S after n u) (λ _ w. f w.cells (value_of y vs w.cells) w) ≡ bind (Eval p c S after n at want (Expr spot ty x) u) (f u.cells)
  own_keeps x y o at want spot ty vs f u =
      sym (tick_from_keeps u.steps u (λ cs w. f cs (value_of y vs w.cells) w))
      ∙ sym (bind_behind (ticked p c S after n u) (λ _ w. NodeOf p c S after n at want spot ty x w) (f u.cells)
      ∙ bind_alike (ticked p c S after n u) (λ _ w. bind (NodeOf p c S after n at want spot ty x w) (f u.cells)) (λ _ w. f u.cells (value_of y vs w.cells) w)
      (λ _ w. ap (λ r. bind r (f u.cells)) (o.is at want spot ty vs w)))

  -- what is pushed, beside a left operand
  own_again : (x : Node) (y : Operand) → IsOwn p c S after n x y → (at : Around) (want : Use) (spot : Spot) (ty : Option IntType) (k : ℕ) (vs : List ℤ) (s : State S) (f : List Cell → ℤ → State S → Res End (State S) Control)
      → paying p c S after (k + 1) (λ u. f u.cells (value_of y vs u.cells) u) s ≡ paying p c S after k (λ u. bind (Eval p c S after n at want (Expr spot ty x) u) (f u.cells)) s
  own_again x y o at want spot ty k vs s f =
      paying_more p c S after k (λ u. f u.cells (value_of y vs u.cells) u) s
      ∙ paying_alike p c S after k (λ u. bind (ticked p c S after n u) (λ _ w. f w.cells (value_of y vs w.cells) w)) (λ u. bind (Eval p c S after n at want (Expr spot ty x) u) (f u.cells)) s
      (λ u. own_keeps x y o at want spot ty vs f u)

  -- operations behind a left operand
  abbrev pub pair_code : Operand → ℕ → Option Operand → List Op → (Operand → Operand → Action) → List Op
  pair_code x k z ops f = (paired x k z ops).ops ++ op (paired x k z ops).steps (f (paired x k z ops).left (paired x k z ops).right) ∷ []

  -- a left operand that is no value on the stack
  pub record IsApart (x : Operand) : Type 0 where
    pub kept : (k : ℕ) → kept x k ≡ give k x Push ∷ []
    pub rest : (k : ℕ) → rest x k ≡ 0
    pub stays : (vs : List ℤ) → stack_of x vs ≡ vs
    pub steady : (vs ws : List ℤ) (cs : List Cell) → value_of x vs cs ≡ value_of x ws cs

  apart_some : (x y : Operand) → IsApart x → (spot : Spot) (ty : Option IntType) (b : Node) → operand_in b ≡ Some y
      → (f : Operand → Operand → Action) (g : ℤ → ℤ → Control → State S → Res End (State S) Control) → TakesBoth p c S after n f g
      → (at : Around) (i k : ℕ) (κ : Control) (s : State S) → slice_get c.ops i ≡ Some (op (k + 1) (f x y))
      → Comes p c S after (standing κ i s) (paying p c S after k (λ u. bind (Eval p c S after n at Used (Expr spot ty b) u) (λ w t. g (value_of x κ.stack u.cells) w (control_at κ (i + 1)) t)) s)
  apart_some x y a spot ty b e f g takes at i k κ s h =
      let o = own p c S after n b y e in
      let j : suc i ≡ i + 1 = omega arith in
      let both : stack_of x (stack_of y κ.stack) ≡ κ.stack = a.stays (stack_of y κ.stack) ∙ o.stays κ.stack in
      let acts : (u : State S) → acted c S after (f x y) (control_at κ (suc i)) u ≡ g (value_of x κ.stack u.cells) (value_of y κ.stack u.cells) (control_at κ (i + 1)) u =
      λ u. takes x y (control_at κ (suc i)) u
      ∙ ap (λ v. g v (value_of y κ.stack u.cells) (control_at (record κ { stack = stack_of x (stack_of y κ.stack) }) (suc i)) u) (a.steady (stack_of y κ.stack) κ.stack u.cells)
      ∙ ap (λ vs. g (value_of x κ.stack u.cells) (value_of y κ.stack u.cells) (control_at (record κ { stack = vs }) (suc i)) u) both
      ∙ ap (λ l. g (value_of x κ.stack u.cells) (value_of y κ.stack u.cells) (control_at κ l) u) j in
      subst (Comes p c S after (standing κ i s))
      (paying_alike p c S after (k + 1) (acted c S after (f x y) (control_at κ (suc i))) (λ u. g (value_of x κ.stack u.cells) (value_of y κ.stack u.cells) (control_at κ (i + 1)) u) s acts
      ∙ own_again b y o at Used spot ty k κ.stack s (λ cs w t. g (value_of x κ.stack cs) w (control_at κ (i + 1)) t))
      (op_comes p c S after i (op (k + 1) (f x y)) κ s h)

  apart_none : (x : Operand) → IsApart x → (e : Exp) → Values p c S after n e
      → (f : Operand → Operand → Action) (g : ℤ → ℤ → Control → State S → Res End (State S) Control) → TakesBoth p c S after n f g
      → (at : Around) (i k : ℕ) (κ : Control) (s : State S)
      → HasCode c i (give k x Push ∷ (code p at (i + 1) 0 Used e Push ++ op 0 (f Top Top) ∷ [])) → s.steps ≤ n
      → Comes p c S after (standing κ i s) (paying p c S after k (λ u. bind (Eval p c S after n at Used e u) (λ w t. g (value_of x κ.stack u.cells) w (control_at κ (i + (size e + 2))) t)) s)
  apart_none x a e ih f g takes at i k κ s h below =
      let j : suc i ≡ i + 1 = omega arith in
      let l : suc (i + 1 + size e) ≡ i + (size e + 2) = omega arith in
      let parts = code_parts c (suc i) (size e) (code p at (i + 1) 0 Used e Push) (op 0 (f Top Top) ∷ []) (code_size p at (i + 1) 0 Used e Push) h.1 in
      let first = subst (λ z. HasCode c z (code p at (i + 1) 0 Used e Push)) j parts.0 in
      let last = subst (λ z. HasCode c (z + size e) (op 0 (f Top Top) ∷ [])) j parts.1 in
      let pushes : State S → Control = λ u. control_at (record κ { stack = value_of x κ.stack u.cells ∷ κ.stack }) (i + 1) in
      let acts : (u : State S) → acted c S after (Give x (only Push)) (control_at κ (suc i)) u ≡ Go (pushes u) u =
      λ u. ap (λ vs. Go (control_at (record κ { stack = value_of x κ.stack u.cells ∷ vs }) (suc i)) u) (a.stays κ.stack)
      ∙ ap (λ z. Go (control_at (record κ { stack = value_of x κ.stack u.cells ∷ κ.stack }) z) u) j in
      comes_then p c S after (standing κ i s) (ticks p (meaning p c S after) AStatement k s) (λ _ u. pushes u) (λ _ u. u)
      (λ _ u. bind (Eval p c S after n at Used e u) (λ w t. g (value_of x κ.stack u.cells) w (control_at κ (i + (size e + 2))) t))
      (subst (Comes p c S after (standing κ i s)) (paying_alike p c S after k (acted c S after (Give x (only Push)) (control_at κ (suc i))) (λ u. Go (pushes u) u) s acts)
      (op_comes p c S after i (give k x Push) κ s h.0))
      (λ _ u b. pushed_then p c S after n e ih at (i + 1) 0 Used (record κ { stack = value_of x κ.stack u.cells ∷ κ.stack }) u first (omega (arith, b, below))
      (λ w t. g (value_of x κ.stack u.cells) w (control_at κ (i + (size e + 2))) t)
      (λ w t d. subst (Comes p c S after (standing (record κ { stack = w ∷ value_of x κ.stack u.cells ∷ κ.stack }) (i + 1 + size e) t))
      (takes Top Top (control_at (record κ { stack = w ∷ value_of x κ.stack u.cells ∷ κ.stack }) (suc (i + 1 + size e))) t
      ∙ ap (λ z. g (value_of x κ.stack u.cells) w (control_at κ z) t) l)
      (op_comes p c S after (i + 1 + size e) (op 0 (f Top Top)) (record κ { stack = w ∷ value_of x κ.stack u.cells ∷ κ.stack }) t last.0)))

  apart_by : (z : Option Operand) (x : Operand) → IsApart x → (spot : Spot) (ty : Option IntType) (b : Node) → operand_in b ≡ z → Values p c S after n (Expr spot ty b)
      → (f : Operand → Operand → Action) (g : ℤ → ℤ → Control → State S → Res End (State S) Control) → TakesBoth p c S after n f g
      → (at : Around) (i k : ℕ) (κ : Control) (s : State S)
      → HasCode c i (pair_code x k z (code p at (i + length (kept x k)) (rest x k) Used (Expr spot ty b) Push) f) → s.steps ≤ n
      → Comes p c S after (standing κ i s) (paying p c S after k (λ u. bind (Eval p c S after n at Used (Expr spot ty b) u)
      (λ w t. g (value_of x κ.stack u.cells) w (control_at κ (i + behind_operand z (size (Expr spot ty b)))) t)) s)
  apart_by (Some y) x a spot ty b e ih f g takes at i k κ s h below = apart_some x y a spot ty b e f g takes at i k κ s h.0
  apart_by None x a spot ty b e ih f g takes at i k κ s h below =
      let whole = λ (q : List Op) (r : ℕ). HasCode c i ((q ++ code p at (i + length q) r Used (Expr spot ty b) Push) ++ op 0 (f Top Top) ∷ []) in
      apart_none x a (Expr spot ty b) ih f g takes at i k κ s
      (subst (λ r. whole (give k x Push ∷ []) r) (a.rest k) (subst (λ q. whole q (rest x k)) (a.kept k) h)) below

  apart_number : (v : ℤ) → IsApart (Number v)
  apart_number v = record { kept = λ k. refl; rest = λ k. refl; stays = λ vs. refl; steady = λ vs ws cs. refl }

  apart_cell : (o : ℕ) → IsApart (InCell o)
  apart_cell o = record { kept = λ k. refl; rest = λ k. refl; stays = λ vs. refl; steady = λ vs ws cs. refl }

  apart_comes : (x : Operand) → IsApart x → (e : Exp) → Values p c S after n e
      → (f : Operand → Operand → Action) (g : ℤ → ℤ → Control → State S → Res End (State S) Control) → TakesBoth p c S after n f g
      → (at : Around) (i k : ℕ) (κ : Control) (s : State S)
      → HasCode c i (pair_code x k (operand_of e) (code p at (i + length (kept x k)) (rest x k) Used e Push) f) → s.steps ≤ n
      → Comes p c S after (standing κ i s) (paying p c S after k (λ u. bind (Eval p c S after n at Used e u)
      (λ w t. g (value_of x κ.stack u.cells) w (control_at κ (i + behind_operand (operand_of e) (size e))) t)) s)
  apart_comes x a (Expr spot ty b) ih f g takes at i k κ s h below = apart_by (operand_in b) x a spot ty b refl ih f g takes at i k κ s h below

  -- behind a left operand on the stack the code is that of one operand
  top_code : (z : Option Operand) (i k : ℕ) (ops : List Op) (f : Operand → Operand → Action) → HasCode c i (pair_code Top k z ops f) → HasCode c i (with_operand z k ops (f Top))
  top_code (Some y) i k ops f h = h
  top_code None i k ops f h = h

  top_comes : (e : Exp) → Values p c S after n e
      → (f : Operand → Operand → Action) (g : ℤ → ℤ → Control → State S → Res End (State S) Control) → TakesBoth p c S after n f g
      → (at : Around) (i k : ℕ) (κ : Control) (s : State S)
      → HasCode c i (pair_code Top k (operand_of e) (code p at (i + length (kept Top k)) (rest Top k) Used e Push) f) → s.steps ≤ n
      → Comes p c S after (standing κ i s) (paying p c S after k (λ u. bind (Eval p c S after n at Used e u)
      (λ w t. g (top κ.stack) w (record (control_at κ (i + with_one (operand_of e) (size e))) { stack = below κ.stack }) t)) s)
  top_comes e ih f g takes at i k κ s h b =
      let z : i + 0 ≡ i = omega arith in
      operand_comes p c S after n e ih (f Top) (λ w κ t. g (top κ.stack) w (record κ { stack = below κ.stack }) t) (λ y κ s. takes Top y κ s) at i k κ s
      (subst (λ l. HasCode c i (with_operand (operand_of e) k (code p at l k Used e Push) (f Top))) z
      (top_code (operand_of e) i k (code p at (i + 0) k Used e Push) f h)) b

  -- a left operand that is ready, a right one, and the operation that takes them
  pub pair_comes : (x : Operand) (e : Exp) → Values p c S after n e
      → (f : Operand → Operand → Action) (g : ℤ → ℤ → Control → State S → Res End (State S) Control) → TakesBoth p c S after n f g
      → (at : Around) (i k : ℕ) (κ : Control) (s : State S)
      → HasCode c i (pair_code x k (operand_of e) (code p at (i + length (kept x k)) (rest x k) Used e Push) f) → s.steps ≤ n
      → Comes p c S after (standing κ i s) (paying p c S after k (λ u. bind (Eval p c S after n at Used e u)
      (λ w t. g (value_of x κ.stack u.cells) w (record (control_at κ (i + behind_left x (operand_of e) (size e))) { stack = stack_of x κ.stack }) t)) s)
  pair_comes Top e ih f g takes at i k κ s h below = top_comes e ih f g takes at i k κ s h below
  pair_comes (InCell o) e ih f g takes at i k κ s h below = apart_comes (InCell o) (apart_cell o) e ih f g takes at i k κ s h below
  pair_comes (Number v) e ih f g takes at i k κ s h below = apart_comes (Number v) (apart_number v) e ih f g takes at i k κ s h below
