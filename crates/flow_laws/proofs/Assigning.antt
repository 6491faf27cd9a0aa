-- Nodes that change a cell.
use Rattle.std.proofs.Common.{◌≡◌, ℕ, suc, ◌+◌, ◌≤◌, ℤ, pos, Bool, true, false, cond, not, List, [], ◌∷◌, ◌++◌, length, Option, Some, None, slice_get, refl, sym, ap, ◌∙◌, subst, arith, append_assoc}
use Rattle.c_core.specs.Types.{fit}
use Rattle.c_core.specs.Operators.{op_of_step, is_prefix}
use Rattle.c_core.specs.Tree.{Exp, Expr, Node, Var, Index, Step, Binary, Assign, Exps, Program}
use Rattle.c_core.specs.declared.number.BinOp.{BinOp}
use Rattle.c_core.specs.declared.number.StepOp.{StepOp}
use Rattle.c_core.specs.declared.number.IntType.{IntType}
use Rattle.c_core.specs.declared.number.IntType.TheVariants.{Int}
use Rattle.c_core.specs.declared.number.Spot.{Spot}
use Rattle.c_meaning.specs.declared.run.End.{End}
use Rattle.c_meaning.specs.declared.run.Event.{Event}
use Rattle.c_meaning.specs.Cells.{Cell, Key, read, put}
use Rattle.c_meaning.specs.Acts.{Res, Go, bind}
use Rattle.c_meaning.specs.Meaning.{Use, Used}
use Rattle.c_meaning.specs.Objects.{type_of, type_or_int}
use Rattle.c_meaning.specs.Eval.{operate}
use Rattle.c_meaning.specs.Run.{State, with_cells}
use Rattle.run_state.specs.Interpreting.{where_of}
use Rattle.run_state.specs.declared.machine.Around.{Around}
use Rattle.flow_code.specs.declared.code.Operand.{Operand}
use Rattle.flow_code.specs.declared.code.Operand.TheVariants.{Top, Cell as InCell, Number}
use Rattle.flow_code.specs.declared.code.Place.{Place}
use Rattle.flow_code.specs.declared.code.Place.TheVariants.{Fixed, Element}
use Rattle.flow_code.specs.declared.code.Then.{Then}
use Rattle.flow_code.specs.declared.code.Then.TheVariants.{Push}
use Rattle.flow_code.specs.declared.code.Into.{Into}
use Rattle.flow_code.specs.declared.code.Action.TheVariants.{Give}
use Rattle.flow_code.specs.declared.code.Code.{Code}
use Rattle.flow_code.specs.Preparing.{op, only, stored_in, with_operand, kept, rest, paired}
use Rattle.flow_code.specs.Sizes.{operand_of, with_one, behind_operand, size, size_stored, size_of_place}
use Rattle.flow_code.specs.Expressions.{code, stored_code, place_code, source, operator}
use Rattle.flow_code.specs.Words.{native}
use Rattle.flow_code.proofs.Lengths.{place_size}
use Rattle.flow_laws.specs.Machines.{Control}
use Rattle.flow_laws.specs.Acting.{cell, value_of, stack_of, key_at, stack_at, finished, acted}
use Rattle.flow_laws.specs.inside.Simulating.{HasCode, control_at, meaning, paying}
use Rattle.flow_laws.proofs.Operations.{code_parts, bind_behind, bind_alike, standing, Comes, op_comes, paying_alike}
use Rattle.flow_laws.proofs.Operands.{Eval, NodeOf, goes_to, Values, operand_comes}
use Rattle.flow_laws.proofs.Pairs.{pair_code, pair_comes}
use Rattle.flow_laws.proofs.Answering.{stored_new, operator_takes}
use Rattle.flow_laws.proofs.Nodes.{Noded, binary_goes, noded_steps}
use Rattle.flow_laws.proofs.Invoking.{InArgs}
use Rattle.flow_laws.proofs.Targets.{AreSmall, TargetOf, PlaceOf, aim_then, target_steps, stores, InTarget}

old_or_new : (b : Bool) (v w : ℤ) → cond (not b) v w ≡ cond b w v
old_or_new true v w = refl
old_or_new false v w = refl

module _ (p : Program) (c : Code) (S : Type 0) (after : Event → List Cell → S → S) (n : ℕ) (property : c.property ≡ p.property) where
  -- a value that is stored, in the words of machines that come to a control
  abbrev pub Stores : Exp → Type 0
  Stores e = (at : Around) (i k : ℕ) (pl : Place) (ty : IntType) (then : Then) (κ : Control) (s : State S)
      → HasCode c i (stored_code p at i k e (stored_in pl ty false then)) → s.steps ≤ n
      → Comes p c S after (standing κ i s) (paying p c S after k (λ u. bind (Eval p c S after n at Used e u) (goes_to p c S after n κ (i + size_stored e) (stored_in pl ty false then))) s)

  -- what is known of an operator's operands
  abbrev pub InBoth : Node → Type 0
  InBoth (Binary o a b) = Values p c S after n a × Values p c S after n b
  InBoth _ = Unit {0}

  abbrev pub InParts : Exp → Type 0
  InParts (Expr spot ty x) = InBoth x

  given_stored : (e : Exp) → Values p c S after n e → (into : Into) (at : Around) (i k : ℕ) (κ : Control) (s : State S)
      → HasCode c i (with_operand (operand_of e) k (code p at i k Used e Push) (λ z. Give z into)) → s.steps ≤ n
      → Comes p c S after (standing κ i s) (paying p c S after k (λ u. bind (Eval p c S after n at Used e u) (goes_to p c S after n κ (i + with_one (operand_of e) (size e)) into)) s)
  given_stored e ih into at i k κ s h below = operand_comes p c S after n e ih (λ z. Give z into) (λ v κ t. finished c S after v v into κ t) (λ y κ s. refl) at i k κ s h below

  pub stored_goes : (e : Exp) → Values p c S after n e → InParts e → Stores e
  stored_goes (Expr spot ty (Binary o a b)) ih q at i k pl to then κ s h below =
      noded_steps p c S after n spot ty (Binary o a b) (stored_in pl to false then) (binary_goes p c S after n property ty o a b q.0 q.1 (stored_in pl to false then) (stored_new p c S after n pl to then)) at i k Used κ s h below
  stored_goes (Expr spot ty x) ih q at i k pl to then κ s h below = given_stored (Expr spot ty x) ih (stored_in pl to false then) at i k κ s h below

  -- what `++` and `--` do with a cell
  abbrev stepped : Around → Spot → StepOp → IntType → Key → State S → Res End (State S) ℤ
  stepped at spot o ty key u =
      bind (operate p (meaning p c S after) (where_of at) spot (op_of_step o) ty (read key u.cells) Int (pos 1) u)
      (λ y q. Go (cond (is_prefix o) (fit p.model ty y) (read key u.cells)) (with_cells (put key (fit p.model ty y) q.cells) q))

  -- an operation that reads and writes a cell
  step_acts : (at : Around) (spot : Spot) (o : StepOp) (ty : IntType) (l : Operand) (pl : Place) (key : Key) (then : Then) (κ : Control) (vs : List ℤ) (j : ℕ) (u : State S)
      → value_of l vs u.cells ≡ read key u.cells → key_at pl (stack_of l vs) ≡ key → stack_at pl (stack_of l vs) ≡ κ.stack
      → acted c S after (operator p (source at spot) (op_of_step o) ty Int (stored_in pl (native p.model ty) (not (is_prefix o)) then) l (Number (pos 1))) (control_at (record κ { stack = vs }) j) u
      ≡ bind (stepped at spot o ty key u) (goes_to p c S after n κ j (only then))
  step_acts at spot o ty l pl key then κ vs j u hv hk hs =
      let into = stored_in pl (native p.model ty) (not (is_prefix o)) then in
      let F = goes_to p c S after n κ j (only then) in
      let answer = λ (v : ℤ). operate p (meaning p c S after) (where_of at) spot (op_of_step o) ty v Int (pos 1) u in
      let x = read key u.cells in
      operator_takes p c S after n property at spot (op_of_step o) ty Int into l (Number (pos 1)) (control_at (record κ { stack = vs }) j) u
      ∙ ap (λ v. bind (answer v) (λ z q. finished c S after v z into (control_at (record κ { stack = stack_of l vs }) j) q)) hv
      ∙ bind_alike (answer x) (λ z q. finished c S after x z into (control_at (record κ { stack = stack_of l vs }) j) q)
      (λ z q. F (cond (is_prefix o) (fit p.model ty z) x) (with_cells (put key (fit p.model ty z) q.cells) q))
      (λ z q. stores p c S after n pl key ty (not (is_prefix o)) then x z κ (stack_of l vs) j q hk hs
      ∙ ap (λ v. F v (with_cells (put key (fit p.model ty z) q.cells) q)) (old_or_new (is_prefix o) x (fit p.model ty z)))
      ∙ sym (bind_behind (answer x) (λ y q. Go (cond (is_prefix o) (fit p.model ty y) x) (with_cells (put key (fit p.model ty y) q.cells) q)) F)

  step_fixed : (at : Around) (spot : Spot) (o : StepOp) (ty : IntType) (x : ℕ) (then : Then) (i k : ℕ) (κ : Control) (s : State S)
      → slice_get c.ops i ≡ Some (op k (operator p (source at spot) (op_of_step o) ty Int (stored_in (Fixed x 0) (native p.model ty) (not (is_prefix o)) then) (InCell x) (Number (pos 1))))
      → Comes p c S after (standing κ i s) (paying p c S after k (λ u. bind (stepped at spot o ty (cell x 0) u) (goes_to p c S after n κ (i + (0 + 1)) (only then))) s)
  step_fixed at spot o ty x then i k κ s h =
      let j : suc i ≡ i + (0 + 1) = omega arith in
      subst (Comes p c S after (standing κ i s))
      (paying_alike p c S after k _ (λ u. bind (stepped at spot o ty (cell x 0) u) (goes_to p c S after n κ (i + (0 + 1)) (only then))) s
      (λ u. step_acts at spot o ty (InCell x) (Fixed x 0) (cell x 0) then κ κ.stack (suc i) u refl refl refl ∙ ap (λ l. bind (stepped at spot o ty (cell x 0) u) (goes_to p c S after n κ l (only then))) j))
      (op_comes p c S after i _ κ s h)

  step_as : (at : Around) (want : Use) (spot : Spot) (ty : Option IntType) (o : StepOp) (ts : Spot) (tty : Option IntType) (x : Node) (k : ℕ) (s : State S) (f : ℤ → State S → Res End (State S) Control)
      → paying p c S after (k + 1) (λ u. bind (PlaceOf p c S after n at ts x u) (λ key w. bind (stepped at spot o (type_or_int tty) key w) f)) s
      ≡ paying p c S after k (λ u. bind (NodeOf p c S after n at want spot ty (Step o (Expr ts tty x)) u) f) s
  step_as at want spot ty o ts tty x k s f =
      target_steps p c S after n at ts tty x k s (λ key w. bind (stepped at spot o (type_or_int tty) key w) f)
      ∙ paying_alike p c S after k (λ u. bind (TargetOf p c S after n at (Expr ts tty x) u) (λ key w. bind (stepped at spot o (type_or_int tty) key w) f)) (λ u. bind (NodeOf p c S after n at want spot ty (Step o (Expr ts tty x)) u) f) s
      (λ u. sym (bind_behind (TargetOf p c S after n at (Expr ts tty x) u) (λ key w. stepped at spot o (type_or_int tty) key w) f))

  step_element : AreSmall p → (at : Around) (spot : Spot) (o : StepOp) (ty : IntType) (x : ℕ) (is : Exps) → InArgs p c S after n is → (ts : Spot) (then : Then) (i k : ℕ) (κ : Control) (s : State S)
      → HasCode c i ((place_code p at i k ts (Index x is) true).ops ++ op 0 (operator p (source at spot) (op_of_step o) ty Int (stored_in (Element x) (native p.model ty) (not (is_prefix o)) then) Top (Number (pos 1))) ∷ []) → s.steps ≤ n
      → Comes p c S after (standing κ i s) (paying p c S after k (λ u. bind (PlaceOf p c S after n at ts (Index x is) u) (λ key w. bind (stepped at spot o ty key w) (goes_to p c S after n κ (i + (size_of_place (Index x is) + 1)) (only then)))) s)
  step_element small at spot o ty x is ih ts then i k κ s h below =
      let sz = size_of_place (Index x is) in
      let into = stored_in (Element x) (native p.model ty) (not (is_prefix o)) then in
      let parts = code_parts c i sz (place_code p at i k ts (Index x is) true).ops (op 0 (operator p (source at spot) (op_of_step o) ty Int into Top (Number (pos 1))) ∷ []) (place_size p at i k ts (Index x is) true) h in
      let j : suc (i + sz) ≡ i + (sz + 1) = omega arith in
      aim_then p c S after n x is ih small at i k ts true κ s parts.0 below (λ key w. bind (stepped at spot o ty key w) (goes_to p c S after n κ (i + (sz + 1)) (only then)))
      (λ key u found d. subst (Comes p c S after (standing (record κ { stack = read key u.cells ∷ pos key.index ∷ κ.stack }) (i + sz) u))
      (step_acts at spot o ty Top (Element x) key then κ (read key u.cells ∷ pos key.index ∷ κ.stack) (suc (i + sz)) u refl found refl
      ∙ ap (λ l. bind (stepped at spot o ty key u) (goes_to p c S after n κ l (only then))) j)
      (op_comes p c S after (i + sz) (op 0 (operator p (source at spot) (op_of_step o) ty Int into Top (Number (pos 1)))) (record κ { stack = read key u.cells ∷ pos key.index ∷ κ.stack }) u parts.1.0))

  pub step_goes : AreSmall p → (ty : Option IntType) (o : StepOp) (t : Exp) → InTarget p c S after n t → (then : Then) → Noded p c S after n ty (Step o t) (only then)
  step_goes small ty o (Expr ts tty (Index x is)) q then at i k want spot κ s h below =
      subst (Comes p c S after (standing κ i s)) (step_as at want spot ty o ts tty (Index x is) k s (goes_to p c S after n κ (i + (size_of_place (Index x is) + 1)) (only then)))
      (step_element small at spot o (type_or_int tty) x is q ts then i (k + 1) κ s h below)
  step_goes small ty o (Expr ts tty (Var x)) q then at i k want spot κ s h below =
      subst (Comes p c S after (standing κ i s)) (step_as at want spot ty o ts tty (Var x) k s (goes_to p c S after n κ (i + (0 + 1)) (only then)))
      (step_fixed at spot o (type_or_int tty) x then i (k + 1) κ s h.0)
  step_goes small ty o (Expr ts tty x) q then at i k want spot κ s h below =
      subst (Comes p c S after (standing κ i s)) (step_as at want spot ty o ts tty x k s (goes_to p c S after n κ (i + (0 + 1)) (only then)))
      (step_fixed at spot o (type_or_int tty) 0 then i (k + 1) κ s h.0)

  -- what `op=` does with a cell
  abbrev changed : Around → Spot → BinOp → IntType → Exp → Key → State S → Res End (State S) ℤ
  changed at spot o ty e key u =
      bind (Eval p c S after n at Used e u) (λ y t. bind (operate p (meaning p c S after) (where_of at) spot o ty (read key u.cells) (type_of e) y t)
      (λ z q. Go (fit p.model ty z) (with_cells (put key (fit p.model ty z) q.cells) q)))

  abbrev applied : Around → Spot → BinOp → IntType → Exp → Into → ℤ → ℤ → Control → State S → Res End (State S) Control
  applied at spot o ty e into v w κ t = bind (operate p (meaning p c S after) (where_of at) spot o ty v (type_of e) w t) (λ z u. finished c S after v z into κ u)

  change_acts : (at : Around) (spot : Spot) (o : BinOp) (ty : IntType) (e : Exp) (l : Operand) (pl : Place) (key : Key) (then : Then) (κ : Control) (vs : List ℤ) (j : ℕ) (u : State S)
      → value_of l vs u.cells ≡ read key u.cells → key_at pl (stack_of l vs) ≡ key → stack_at pl (stack_of l vs) ≡ κ.stack
      → bind (Eval p c S after n at Used e u) (λ w t. applied at spot o ty e (stored_in pl (native p.model ty) false then) (value_of l vs u.cells) w (control_at (record κ { stack = stack_of l vs }) j) t)
      ≡ bind (changed at spot o ty e key u) (goes_to p c S after n κ j (only then))
  change_acts at spot o ty e l pl key then κ vs j u hv hk hs =
      let into = stored_in pl (native p.model ty) false then in
      let F = goes_to p c S after n κ j (only then) in
      let x = read key u.cells in
      let r = Eval p c S after n at Used e u in
      let stack = control_at (record κ { stack = stack_of l vs }) j in
      let answer = λ (w : ℤ) (t : State S). operate p (meaning p c S after) (where_of at) spot o ty x (type_of e) w t in
      let put_in = λ (z : ℤ) (q : State S). with_cells (put key (fit p.model ty z) q.cells) q in
      let gives : ℤ → State S → Res End (State S) ℤ = λ z q. Go (fit p.model ty z) (put_in z q) in
      ap (λ v. bind r (λ w t. applied at spot o ty e into v w stack t)) hv
      ∙ bind_alike r (λ w t. applied at spot o ty e into x w stack t) (λ w t. bind (bind (answer w t) gives) F)
      (λ w t. bind_alike (answer w t) (λ z q. finished c S after x z into stack q) (λ z q. F (fit p.model ty z) (put_in z q)) (λ z q. stores p c S after n pl key ty false then x z κ (stack_of l vs) j q hk hs)
      ∙ sym (bind_behind (answer w t) gives F))
      ∙ sym (bind_behind r (λ w t. bind (answer w t) gives) F)

  change_fixed : (at : Around) (spot : Spot) (o : BinOp) (ty : IntType) (e : Exp) → Values p c S after n e → (x : ℕ) (then : Then) (i k : ℕ) (κ : Control) (s : State S)
      → HasCode c i (pair_code p c S after n (InCell x) k (operand_of e) (code p at (i + 0 + length (kept (InCell x) k)) (rest (InCell x) k) Used e Push)
      (operator p (source at spot) o ty (type_of e) (stored_in (Fixed x 0) (native p.model ty) false then))) → s.steps ≤ n
      → Comes p c S after (standing κ i s) (paying p c S after k (λ u. bind (changed at spot o ty e (cell x 0) u) (goes_to p c S after n κ (i + (0 + behind_operand (operand_of e) (size e))) (only then))) s)
  change_fixed at spot o ty e ih x then i k κ s h below =
      let into = stored_in (Fixed x 0) (native p.model ty) false then in
      let f = operator p (source at spot) o ty (type_of e) into in
      let z : i + 0 ≡ i = omega arith in
      let l : i + behind_operand (operand_of e) (size e) ≡ i + (0 + behind_operand (operand_of e) (size e)) = omega arith in
      let here = subst (λ j. HasCode c i (pair_code p c S after n (InCell x) k (operand_of e) (code p at (j + length (kept (InCell x) k)) (rest (InCell x) k) Used e Push) f)) z h in
      subst (Comes p c S after (standing κ i s))
      (paying_alike p c S after k
      (λ u. bind (Eval p c S after n at Used e u) (λ w t. applied at spot o ty e into (read (cell x 0) u.cells) w (control_at κ (i + behind_operand (operand_of e) (size e))) t))
      (λ u. bind (changed at spot o ty e (cell x 0) u) (goes_to p c S after n κ (i + (0 + behind_operand (operand_of e) (size e))) (only then))) s
      (λ u. change_acts at spot o ty e (InCell x) (Fixed x 0) (cell x 0) then κ κ.stack (i + behind_operand (operand_of e) (size e)) u refl refl refl
      ∙ ap (λ j. bind (changed at spot o ty e (cell x 0) u) (goes_to p c S after n κ j (only then))) l))
      (pair_comes p c S after n (InCell x) e ih f (λ v w κ t. applied at spot o ty e into v w κ t) (operator_takes p c S after n property at spot o ty (type_of e) into) at i k κ s here below)

  change_element : AreSmall p → (at : Around) (spot : Spot) (o : BinOp) (ty : IntType) (e : Exp) → Values p c S after n e → (x : ℕ) (is : Exps) → InArgs p c S after n is → (ts : Spot) (then : Then) (i k : ℕ) (κ : Control) (s : State S)
      → HasCode c i (((place_code p at i k ts (Index x is) true).ops
      ++ (paired Top 0 (operand_of e) (code p at (i + length (place_code p at i k ts (Index x is) true).ops + 0) 0 Used e Push)).ops)
      ++ op (paired Top 0 (operand_of e) (code p at (i + length (place_code p at i k ts (Index x is) true).ops + 0) 0 Used e Push)).steps
      (operator p (source at spot) o ty (type_of e) (stored_in (Element x) (native p.model ty) false then)
      (paired Top 0 (operand_of e) (code p at (i + length (place_code p at i k ts (Index x is) true).ops + 0) 0 Used e Push)).left
      (paired Top 0 (operand_of e) (code p at (i + length (place_code p at i k ts (Index x is) true).ops + 0) 0 Used e Push)).right) ∷ []) → s.steps ≤ n
      → Comes p c S after (standing κ i s) (paying p c S after k (λ u. bind (PlaceOf p c S after n at ts (Index x is) u) (λ key w. bind (changed at spot o ty e key w)
      (goes_to p c S after n κ (i + (size_of_place (Index x is) + with_one (operand_of e) (size e))) (only then)))) s)
  change_element small at spot o ty e ih x is ihs ts then i k κ s h below =
      let sz = size_of_place (Index x is) in
      let m = with_one (operand_of e) (size e) in
      let into = stored_in (Element x) (native p.model ty) false then in
      let f = operator p (source at spot) o ty (type_of e) into in
      let first = (place_code p at i k ts (Index x is) true).ops in
      let first_length = place_size p at i k ts (Index x is) true in
      let next = λ (l : ℕ). pair_code p c S after n Top 0 (operand_of e) (code p at (l + 0) 0 Used e Push) f in
      let parts = code_parts c i sz first (next (i + length first)) first_length
      (subst (HasCode c i) (append_assoc first (paired Top 0 (operand_of e) (code p at (i + length first + 0) 0 Used e Push)).ops _) h) in
      let behind_first = subst (λ l. HasCode c (i + sz) (next (i + l))) first_length parts.1 in
      let j : i + sz + m ≡ i + (sz + m) = omega arith in
      aim_then p c S after n x is ihs small at i k ts true κ s parts.0 below (λ key w. bind (changed at spot o ty e key w) (goes_to p c S after n κ (i + (sz + m)) (only then)))
      (λ key u found b. subst (Comes p c S after (standing (record κ { stack = read key u.cells ∷ pos key.index ∷ κ.stack }) (i + sz) u))
      (change_acts at spot o ty e Top (Element x) key then κ (read key u.cells ∷ pos key.index ∷ κ.stack) (i + sz + m) u refl found refl
      ∙ ap (λ l. bind (changed at spot o ty e key u) (goes_to p c S after n κ l (only then))) j)
      (pair_comes p c S after n Top e ih f (λ v w κ t. applied at spot o ty e into v w κ t) (operator_takes p c S after n property at spot o ty (type_of e) into) at (i + sz) 0
      (record κ { stack = read key u.cells ∷ pos key.index ∷ κ.stack }) u behind_first b))

  -- what `=` does with a cell
  abbrev written : Around → IntType → Exp → Key → State S → Res End (State S) ℤ
  written at ty e key u = bind (Eval p c S after n at Used e u) (λ v t. Go (fit p.model ty v) (with_cells (put key (fit p.model ty v) t.cells) t))

  write_acts : (at : Around) (ty : IntType) (e : Exp) (pl : Place) (key : Key) (then : Then) (κ : Control) (vs : List ℤ) (j : ℕ) (u : State S)
      → key_at pl vs ≡ key → stack_at pl vs ≡ κ.stack
      → bind (Eval p c S after n at Used e u) (goes_to p c S after n (record κ { stack = vs }) j (stored_in pl (native p.model ty) false then))
      ≡ bind (written at ty e key u) (goes_to p c S after n κ j (only then))
  write_acts at ty e pl key then κ vs j u hk hs =
      let F = goes_to p c S after n κ j (only then) in
      let r = Eval p c S after n at Used e u in
      let gives : ℤ → State S → Res End (State S) ℤ = λ v t. Go (fit p.model ty v) (with_cells (put key (fit p.model ty v) t.cells) t) in
      bind_alike r (goes_to p c S after n (record κ { stack = vs }) j (stored_in pl (native p.model ty) false then)) (λ v t. bind (gives v t) F)
      (λ v t. stores p c S after n pl key ty false then v v κ vs j t hk hs)
      ∙ sym (bind_behind r gives F)

  write_fixed : (at : Around) (ty : IntType) (e : Exp) → Stores e → (x : ℕ) (then : Then) (i k : ℕ) (κ : Control) (s : State S)
      → HasCode c i (stored_code p at (i + 0) k e (stored_in (Fixed x 0) (native p.model ty) false then)) → s.steps ≤ n
      → Comes p c S after (standing κ i s) (paying p c S after k (λ u. bind (written at ty e (cell x 0) u) (goes_to p c S after n κ (i + (0 + size_stored e)) (only then))) s)
  write_fixed at ty e ih x then i k κ s h below =
      let into = stored_in (Fixed x 0) (native p.model ty) false then in
      let z : i + 0 ≡ i = omega arith in
      let l : i + size_stored e ≡ i + (0 + size_stored e) = omega arith in
      subst (Comes p c S after (standing κ i s))
      (paying_alike p c S after k
      (λ u. bind (Eval p c S after n at Used e u) (goes_to p c S after n κ (i + size_stored e) into))
      (λ u. bind (written at ty e (cell x 0) u) (goes_to p c S after n κ (i + (0 + size_stored e)) (only then))) s
      (λ u. write_acts at ty e (Fixed x 0) (cell x 0) then κ κ.stack (i + size_stored e) u refl refl ∙ ap (λ j. bind (written at ty e (cell x 0) u) (goes_to p c S after n κ j (only then))) l))
      (ih at i k (Fixed x 0) (native p.model ty) then κ s (subst (λ j. HasCode c i (stored_code p at j k e into)) z h) below)

  write_element : AreSmall p → (at : Around) (ty : IntType) (e : Exp) → Stores e → (x : ℕ) (is : Exps) → InArgs p c S after n is → (ts : Spot) (then : Then) (i k : ℕ) (κ : Control) (s : State S)
      → HasCode c i ((place_code p at i k ts (Index x is) false).ops ++ stored_code p at (i + length (place_code p at i k ts (Index x is) false).ops) 0 e (stored_in (Element x) (native p.model ty) false then)) → s.steps ≤ n
      → Comes p c S after (standing κ i s) (paying p c S after k (λ u. bind (PlaceOf p c S after n at ts (Index x is) u) (λ key w. bind (written at ty e key w)
      (goes_to p c S after n κ (i + (size_of_place (Index x is) + size_stored e)) (only then)))) s)
  write_element small at ty e ih x is ihs ts then i k κ s h below =
      let sz = size_of_place (Index x is) in
      let m = size_stored e in
      let into = stored_in (Element x) (native p.model ty) false then in
      let first = (place_code p at i k ts (Index x is) false).ops in
      let first_length = place_size p at i k ts (Index x is) false in
      let parts = code_parts c i sz first (stored_code p at (i + length first) 0 e into) first_length h in
      let behind_first = subst (λ l. HasCode c (i + sz) (stored_code p at (i + l) 0 e into)) first_length parts.1 in
      let j : i + sz + m ≡ i + (sz + m) = omega arith in
      aim_then p c S after n x is ihs small at i k ts false κ s parts.0 below (λ key w. bind (written at ty e key w) (goes_to p c S after n κ (i + (sz + m)) (only then)))
      (λ key u found b. subst (Comes p c S after (standing (record κ { stack = pos key.index ∷ κ.stack }) (i + sz) u))
      (write_acts at ty e (Element x) key then κ (pos key.index ∷ κ.stack) (i + sz + m) u found refl
      ∙ ap (λ l. bind (written at ty e key u) (goes_to p c S after n κ l (only then))) j)
      (ih at (i + sz) 0 (Element x) (native p.model ty) then (record κ { stack = pos key.index ∷ κ.stack }) u behind_first b))

  write_as : (at : Around) (want : Use) (spot : Spot) (ty : Option IntType) (ts : Spot) (tty : Option IntType) (x : Node) (e : Exp) (k : ℕ) (s : State S) (f : ℤ → State S → Res End (State S) Control)
      → paying p c S after (k + 1) (λ u. bind (PlaceOf p c S after n at ts x u) (λ key w. bind (written at (type_or_int tty) e key w) f)) s
      ≡ paying p c S after k (λ u. bind (NodeOf p c S after n at want spot ty (Assign None (Expr ts tty x) e) u) f) s
  write_as at want spot ty ts tty x e k s f =
      target_steps p c S after n at ts tty x k s (λ key w. bind (written at (type_or_int tty) e key w) f)
      ∙ paying_alike p c S after k (λ u. bind (TargetOf p c S after n at (Expr ts tty x) u) (λ key w. bind (written at (type_or_int tty) e key w) f))
      (λ u. bind (NodeOf p c S after n at want spot ty (Assign None (Expr ts tty x) e) u) f) s
      (λ u. sym (bind_behind (TargetOf p c S after n at (Expr ts tty x) u) (λ key w. written at (type_or_int tty) e key w) f))

  change_as : (at : Around) (want : Use) (spot : Spot) (ty : Option IntType) (o : BinOp) (ts : Spot) (tty : Option IntType) (x : Node) (e : Exp) (k : ℕ) (s : State S) (f : ℤ → State S → Res End (State S) Control)
      → paying p c S after (k + 1) (λ u. bind (PlaceOf p c S after n at ts x u) (λ key w. bind (changed at spot o (type_or_int tty) e key w) f)) s
      ≡ paying p c S after k (λ u. bind (NodeOf p c S after n at want spot ty (Assign (Some o) (Expr ts tty x) e) u) f) s
  change_as at want spot ty o ts tty x e k s f =
      target_steps p c S after n at ts tty x k s (λ key w. bind (changed at spot o (type_or_int tty) e key w) f)
      ∙ paying_alike p c S after k (λ u. bind (TargetOf p c S after n at (Expr ts tty x) u) (λ key w. bind (changed at spot o (type_or_int tty) e key w) f))
      (λ u. bind (NodeOf p c S after n at want spot ty (Assign (Some o) (Expr ts tty x) e) u) f) s
      (λ u. sym (bind_behind (TargetOf p c S after n at (Expr ts tty x) u) (λ key w. changed at spot o (type_or_int tty) e key w) f))

  pub assign_goes : AreSmall p → (ty : Option IntType) (o : Option BinOp) (t e : Exp) → InTarget p c S after n t → Values p c S after n e → Stores e → (then : Then) → Noded p c S after n ty (Assign o t e) (only then)
  assign_goes small ty None (Expr ts tty (Index x is)) e q ih st then at i k want spot κ s h below =
      subst (Comes p c S after (standing κ i s)) (write_as at want spot ty ts tty (Index x is) e k s (goes_to p c S after n κ (i + (size_of_place (Index x is) + size_stored e)) (only then)))
      (write_element small at (type_or_int tty) e st x is q ts then i (k + 1) κ s h below)
  assign_goes small ty None (Expr ts tty (Var x)) e q ih st then at i k want spot κ s h below =
      subst (Comes p c S after (standing κ i s)) (write_as at want spot ty ts tty (Var x) e k s (goes_to p c S after n κ (i + (0 + size_stored e)) (only then)))
      (write_fixed at (type_or_int tty) e st x then i (k + 1) κ s h below)
  assign_goes small ty None (Expr ts tty x) e q ih st then at i k want spot κ s h below =
      subst (Comes p c S after (standing κ i s)) (write_as at want spot ty ts tty x e k s (goes_to p c S after n κ (i + (0 + size_stored e)) (only then)))
      (write_fixed at (type_or_int tty) e st 0 then i (k + 1) κ s h below)
  assign_goes small ty (Some o) (Expr ts tty (Index x is)) e q ih st then at i k want spot κ s h below =
      subst (Comes p c S after (standing κ i s)) (change_as at want spot ty o ts tty (Index x is) e k s (goes_to p c S after n κ (i + (size_of_place (Index x is) + with_one (operand_of e) (size e))) (only then)))
      (change_element small at spot o (type_or_int tty) e ih x is q ts then i (k + 1) κ s h below)
  assign_goes small ty (Some o) (Expr ts tty (Var x)) e q ih st then at i k want spot κ s h below =
      subst (Comes p c S after (standing κ i s)) (change_as at want spot ty o ts tty (Var x) e k s (goes_to p c S after n κ (i + (0 + behind_operand (operand_of e) (size e))) (only then)))
      (change_fixed at spot o (type_or_int tty) e ih x then i (k + 1) κ s h below)
  assign_goes small ty (Some o) (Expr ts tty x) e q ih st then at i k want spot κ s h below =
      subst (Comes p c S after (standing κ i s)) (change_as at want spot ty o ts tty x e k s (goes_to p c S after n κ (i + (0 + behind_operand (operand_of e) (size e))) (only then)))
      (change_fixed at spot o (type_or_int tty) e ih 0 then i (k + 1) κ s h below)
