-- Operands: values that the code of an expression leaves on the stack, or that stand in a cell or in the operation itself.
use Rattle.std.proofs.Common.{◌≡◌, ℕ, suc, ◌+◌, ◌≤◌, ℤ, List, [], ◌∷◌, Option, Some, None, refl, sym, ap, ◌∙◌, subst, arith}
use Rattle.c_core.specs.Types.{fit}
use Rattle.c_core.specs.declared.number.DataModel.TheVariants.{Lp64}
use Rattle.c_core.specs.Tree.{Exp, Expr, Node, Const, Var, Index, Unary, Cast, Step, Binary, Logic, Choose, Comma, Assign, Call, Program}
use Rattle.c_core.specs.declared.number.IntType.{IntType}
use Rattle.c_core.specs.declared.number.Spot.{Spot}
use Rattle.c_meaning.specs.declared.run.End.{End}
use Rattle.c_meaning.specs.declared.run.Event.{Event}
use Rattle.c_meaning.specs.Cells.{Cell, put}
use Rattle.c_meaning.specs.Acts.{Res, Go, Stop, bind}
use Rattle.c_meaning.specs.Meaning.{AStatement, Use, Used}
use Rattle.c_meaning.specs.Eval.{eval, node}
use Rattle.c_meaning.specs.Run.{State, with_cells}
use Rattle.run_state.specs.Interpreting.{where_of}
use Rattle.run_state.specs.declared.machine.Around.{Around}
use Rattle.flow_code.specs.declared.code.Operand.{Operand}
use Rattle.flow_code.specs.declared.code.Operand.TheVariants.{Top, Cell as InCell, Number}
use Rattle.flow_code.specs.declared.code.Store.{Store}
use Rattle.flow_code.specs.declared.code.Then.{Then}
use Rattle.flow_code.specs.declared.code.Then.TheVariants.{Push, Drop, Skip, Branch}
use Rattle.flow_code.specs.declared.code.Into.{Into}
use Rattle.flow_code.specs.declared.code.Action.{Action}
use Rattle.flow_code.specs.declared.code.Code.{Code}
use Rattle.flow_code.specs.Preparing.{op, only, with_operand}
use Rattle.flow_code.specs.Sizes.{operand_in, operand_of, with_one, behind_operand, size}
use Rattle.flow_code.specs.Expressions.{code}
use Rattle.flow_code.proofs.Lengths.{code_size}
use Rattle.flow_laws.specs.Machines.{Control, Machine}
use Rattle.flow_laws.specs.Acting.{value_of, stack_of, key_at, stack_at, kept_value, finished, stored, passed_on, acted}
use Rattle.flow_laws.specs.Stepping.{Does}
use Rattle.flow_laws.specs.inside.Simulating.{HasCode, control_at, meaning, calls, paying, Finishes}
use Rattle.flow_laws.proofs.Operations.{code_parts, bind_behind, bind_alike, standing, Comes, op_comes, comes_then, paying_alike, paying_behind, paying_more}

-- operations behind a left operand and a right one
abbrev pub behind_left : Operand → Option Operand → ℕ → ℕ
behind_left Top y m = with_one y m
behind_left (InCell o) y m = behind_operand y m
behind_left (Number v) y m = behind_operand y m

module _ (p : Program) (c : Code) (S : Type 0) (after : Event → List Cell → S → S) (n : ℕ) where
  -- what an expression does
  abbrev pub Eval : Around → Use → Exp → State S → Res End (State S) ℤ
  Eval at want e s = eval p (meaning p c S after) (calls p c S after n) (where_of at) want e s

  -- what a node does
  abbrev pub NodeOf : Around → Use → Spot → Option IntType → Node → State S → Res End (State S) ℤ
  NodeOf at want spot ty x s = node p (meaning p c S after) (calls p c S after n) (where_of at) want spot ty x s

  -- a step
  abbrev pub ticked : State S → Res End (State S) (Unit {0})
  ticked s = (meaning p c S after).tick AStatement s

  -- a value goes where it is to go, behind the code at an address
  abbrev pub goes_to : Control → ℕ → Into → ℤ → State S → Res End (State S) Control
  goes_to k j x v s = finished c S after v v x (control_at k j) s

  -- the code of an expression does what the expression does, and then its value goes on
  abbrev pub Values : Exp → Type 0
  Values e = (at : Around) (i k : ℕ) (want : Use) (then : Then) (κ : Control) (s : State S)
      → HasCode c i (code p at i k want e then) → s.steps ≤ n
      → Comes p c S after (standing κ i s) (paying p c S after k (λ u. bind (Eval at want e u) (goes_to κ (i + size e) (only then))) s)

  passed_goes : (then : Then) (v : ℤ) (k : Control) (s : State S) → (y : Machine S) × (passed_on c S after v then k s ≡ Go y.control y.run)
  passed_goes Push v k s = (record { control = record k { stack = v ∷ k.stack }; run = s }, refl)
  passed_goes Drop v k s = (record { control = k; run = s }, refl)
  passed_goes (Skip way to) v k s = (record { control = _; run = s }, refl)
  passed_goes (Branch at way to) v k s = (record { control = _; run = _ }, refl)

  stored_goes : (x : Option Store) (then : Then) (old v : ℤ) (k : Control) (s : State S) → (y : Machine S) × (stored c S after x old v then k s ≡ Go y.control y.run)
  stored_goes None then old v k s = passed_goes then v k s
  stored_goes (Some y) then old v k s =
      let w = fit Lp64 y.ty v in
      passed_goes then (kept_value y old w) (record k { stack = stack_at y.place k.stack }) (with_cells (put (key_at y.place k.stack) w s.cells) s)

  -- a value always goes on
  pub finished_goes : (x : Into) (old v : ℤ) (k : Control) (s : State S) → (y : Machine S) × (finished c S after old v x k s ≡ Go y.control y.run)
  finished_goes x old v k s = stored_goes x.store x.then old v k s

  pub finishes : (m : Machine S) (r : Res End (State S) ℤ) (κ : Control) (j : ℕ) (x : Into) → Comes p c S after m (bind r (goes_to κ j x)) → Does c S after m r (Finishes p c S after κ j x)
  finishes m (Go v s) κ j x d =
      let y = finished_goes x v v (control_at κ j) s in
      let e = subst (Comes p c S after m) y.1 d in
      (e.0, e.1, y.1 ∙ ap (λ k. Go k y.0.run) (sym e.2.0) ∙ ap (λ u. Go e.0.control u) (sym e.2.1))
  finishes m (Stop e s) κ j x d = d

  -- the code of an expression, and what the machine does behind it
  pub value_then : (e : Exp) → Values e → (at : Around) (i k : ℕ) (want : Use) (then : Then) (κ : Control) (s : State S)
      → HasCode c i (code p at i k want e then) → s.steps ≤ n
      → (h : ℤ → State S → Control) (t : ℤ → State S → State S) → ((v : ℤ) (u : State S) → goes_to κ (i + size e) (only then) v u ≡ Go (h v u) (t v u))
      → (f : ℤ → State S → Res End (State S) Control) → ((v : ℤ) (u : State S) → (t v u).steps ≤ n → Comes p c S after (record { control = h v u; run = t v u }) (f v u))
      → Comes p c S after (standing κ i s) (paying p c S after k (λ u. bind (Eval at want e u) f) s)
  value_then e ih at i k want then κ s code below h t same f g =
      let r = paying p c S after k (Eval at want e) s in
      let reached : Comes p c S after (standing κ i s) (bind r (λ v u. Go (h v u) (t v u))) =
      subst (Comes p c S after (standing κ i s)) (sym (paying_behind p c S after k (Eval at want e) (goes_to κ (i + size e) (only then)) s)
      ∙ bind_alike r (goes_to κ (i + size e) (only then)) (λ v u. Go (h v u) (t v u)) same) (ih at i k want then κ s code below) in
      subst (Comes p c S after (standing κ i s)) (paying_behind p c S after k (Eval at want e) f s)
      (comes_then p c S after (standing κ i s) r h t f reached (λ v u l. g v u (let b = below in omega (arith, l, b))))

  -- the same where the value is on the stack
  pub pushed_then : (e : Exp) → Values e → (at : Around) (i k : ℕ) (want : Use) (κ : Control) (s : State S) → HasCode c i (code p at i k want e Push) → s.steps ≤ n
      → (f : ℤ → State S → Res End (State S) Control) → ((v : ℤ) (u : State S) → u.steps ≤ n → Comes p c S after (standing (record κ { stack = v ∷ κ.stack }) (i + size e) u) (f v u))
      → Comes p c S after (standing κ i s) (paying p c S after k (λ u. bind (Eval at want e u) f) s)
  pushed_then e ih at i k want κ s code below f g =
      value_then e ih at i k want Push κ s code below (λ v u. control_at (record κ { stack = v ∷ κ.stack }) (i + size e)) (λ v u. u) (λ v u. refl) f g

  -- a node that is an operand by itself: what it gives, and that it leaves the stack as it is
  pub record IsOwn (x : Node) (y : Operand) : Type 0 where
    pub is : (at : Around) (want : Use) (spot : Spot) (ty : Option IntType) (vs : List ℤ) (s : State S) → NodeOf at want spot ty x s ≡ Go (value_of y vs s.cells) s
    pub stays : (vs : List ℤ) → stack_of y vs ≡ vs
    pub counts : (z : Option Operand) (m : ℕ) → behind_left y z m ≡ behind_operand z m

  own_number : (v : ℤ) (y : Operand) → Number v ≡ y → IsOwn (Const v) y
  own_number v y e = subst (IsOwn (Const v)) e (record { is = λ at want spot ty vs s. refl; stays = λ vs. refl; counts = λ z m. refl })

  own_cell : (o : ℕ) (y : Operand) → InCell o ≡ y → IsOwn (Var o) y
  own_cell o y e = subst (IsOwn (Var o)) e (record { is = λ at want spot ty vs s. refl; stays = λ vs. refl; counts = λ z m. refl })

  -- each operand that a node is by itself
  pub own : (x : Node) (y : Operand) → operand_in x ≡ Some y → IsOwn x y
  own (Const v) y e = own_number v y (let g : Number v ≡ y = cc in g)
  own (Var o) y e = own_cell o y (let g : InCell o ≡ y = cc in g)
  own (Index o is) y e = absurd (cc)
  own (Unary o a) y e = absurd (cc)
  own (Cast a) y e = absurd (cc)
  own (Step o a) y e = absurd (cc)
  own (Binary o a b) y e = absurd (cc)
  own (Logic b a d) y e = absurd (cc)
  own (Choose m a b d) y e = absurd (cc)
  own (Comma a b) y e = absurd (cc)
  own (Assign o a b) y e = absurd (cc)
  own (Call d es s) y e = absurd (cc)

  -- an action that takes an operand does this with its value and the stack behind it
  abbrev pub Takes : (Operand → Action) → (ℤ → Control → State S → Res End (State S) Control) → Type 0
  Takes f g = (y : Operand) (κ : Control) (s : State S) → acted c S after (f y) κ s ≡ g (value_of y κ.stack s.cells) (record κ { stack = stack_of y κ.stack }) s

  -- the same of two operands
  abbrev pub TakesBoth : (Operand → Operand → Action) → (ℤ → ℤ → Control → State S → Res End (State S) Control) → Type 0
  TakesBoth f g = (a b : Operand) (κ : Control) (s : State S) → acted c S after (f a b) κ s
      ≡ g (value_of a (stack_of b κ.stack) s.cells) (value_of b κ.stack s.cells) (record κ { stack = stack_of a (stack_of b κ.stack) }) s

  -- an operand by itself takes its step with the operation
  pub own_steps : (x : Node) (y : Operand) → IsOwn x y → (at : Around) (want : Use) (spot : Spot) (ty : Option IntType) (k : ℕ) (vs : List ℤ) (s : State S) (f : ℤ → State S → Res End (State S) Control)
      → paying p c S after (k + 1) (λ u. f (value_of y vs u.cells) u) s ≡ paying p c S after k (λ u. bind (Eval at want (Expr spot ty x) u) f) s
  own_steps x y o at want spot ty k vs s f =
      paying_more p c S after k (λ u. f (value_of y vs u.cells) u) s
      ∙ paying_alike p c S after k (λ u. bind (ticked u) (λ _ w. f (value_of y vs w.cells) w)) (λ u. bind (Eval at want (Expr spot ty x) u) f) s
      (λ u. sym (bind_behind (ticked u) (λ _ w. NodeOf at want spot ty x w) f
      ∙ bind_alike (ticked u) (λ _ w. bind (NodeOf at want spot ty x w) f) (λ _ w. f (value_of y vs w.cells) w) (λ _ w. ap (λ r. bind r f) (o.is at want spot ty vs w))))

  operand_by : (z : Option Operand) (spot : Spot) (ty : Option IntType) (x : Node) → operand_in x ≡ z → Values (Expr spot ty x)
      → (f : Operand → Action) (g : ℤ → Control → State S → Res End (State S) Control) → Takes f g
      → (at : Around) (i k : ℕ) (κ : Control) (s : State S) → HasCode c i (with_operand z k (code p at i k Used (Expr spot ty x) Push) f) → s.steps ≤ n
      → Comes p c S after (standing κ i s) (paying p c S after k (λ u. bind (Eval at Used (Expr spot ty x) u) (λ v t. g v (control_at κ (i + with_one z (size (Expr spot ty x)))) t)) s)
  operand_by (Some y) spot ty x e ih f g takes at i k κ s h below =
      let o = own x y e in
      let j : suc i ≡ i + 1 = omega arith in
      let acts : (u : State S) → acted c S after (f y) (control_at κ (suc i)) u ≡ g (value_of y κ.stack u.cells) (control_at κ (i + 1)) u =
      λ u. takes y (control_at κ (suc i)) u ∙ ap (λ vs. g (value_of y κ.stack u.cells) (control_at (record κ { stack = vs }) (suc i)) u) (o.stays κ.stack)
      ∙ ap (λ l. g (value_of y κ.stack u.cells) (control_at κ l) u) j in
      subst (Comes p c S after (standing κ i s))
      (paying_alike p c S after (k + 1) (acted c S after (f y) (control_at κ (suc i))) (λ u. g (value_of y κ.stack u.cells) (control_at κ (i + 1)) u) s acts
      ∙ own_steps x y o at Used spot ty k κ.stack s (λ v t. g v (control_at κ (i + 1)) t))
      (op_comes p c S after i (op (k + 1) (f y)) κ s h.0)
  operand_by None spot ty x e ih f g takes at i k κ s h below =
      let l = size (Expr spot ty x) in
      let parts = code_parts c i l (code p at i k Used (Expr spot ty x) Push) (op 0 (f Top) ∷ []) (code_size p at i k Used (Expr spot ty x) Push) h in
      let j : suc (i + l) ≡ i + (l + 1) = omega arith in
      pushed_then (Expr spot ty x) ih at i k Used κ s parts.0 below (λ v t. g v (control_at κ (i + (l + 1))) t)
      (λ v t b. subst (Comes p c S after (standing (record κ { stack = v ∷ κ.stack }) (i + l) t))
      (takes Top (control_at (record κ { stack = v ∷ κ.stack }) (suc (i + l))) t ∙ ap (λ m. g v (control_at κ m) t) j)
      (op_comes p c S after (i + l) (op 0 (f Top)) (record κ { stack = v ∷ κ.stack }) t parts.1.0))

  -- an operand, and the operation that takes it
  pub operand_comes : (e : Exp) → Values e → (f : Operand → Action) (g : ℤ → Control → State S → Res End (State S) Control) → Takes f g
      → (at : Around) (i k : ℕ) (κ : Control) (s : State S) → HasCode c i (with_operand (operand_of e) k (code p at i k Used e Push) f) → s.steps ≤ n
      → Comes p c S after (standing κ i s) (paying p c S after k (λ u. bind (Eval at Used e u) (λ v t. g v (control_at κ (i + with_one (operand_of e) (size e))) t)) s)
  operand_comes (Expr spot ty x) ih f g takes at i k κ s h below = operand_by (operand_in x) spot ty x refl ih f g takes at i k κ s h below
