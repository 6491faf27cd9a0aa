-- Nodes that choose what is evaluated: conditionals, `&&` and `||`, the comma.
use Rattle.std.proofs.Common.{◌≡◌, ℕ, suc, ◌+◌, ◌≤◌, ℤ, pos, Bool, true, false, cond, not, List, [], ◌∷◌, ◌++◌, length, length-append, Option, Some, None, slice_get, refl, sym, ap, ◌∙◌, subst, arith}
use Rattle.c_core.specs.Types.{fit, is_zero, number_of}
use Rattle.c_core.specs.Tree.{Exp, Logic, Choose, Comma, Program}
use Rattle.c_core.specs.declared.number.DataModel.TheVariants.{Lp64}
use Rattle.c_core.specs.declared.number.IntType.{IntType}
use Rattle.c_core.specs.declared.number.Spot.{Spot}
use Rattle.c_meaning.specs.declared.run.End.{End}
use Rattle.c_meaning.specs.declared.run.Event.{Event}
use Rattle.c_meaning.specs.declared.run.Event.TheVariants.{Branch as Branched}
use Rattle.c_meaning.specs.declared.run.Way.TheVariants.{Truth as ByTruth}
use Rattle.c_meaning.specs.Cells.{Cell, put}
use Rattle.c_meaning.specs.Acts.{Res, Go, Stop, bind}
use Rattle.c_meaning.specs.Meaning.{Used, Unused}
use Rattle.c_meaning.specs.Objects.{type_of}
use Rattle.c_meaning.specs.Eval.{convert_to}
use Rattle.c_meaning.specs.Run.{State, with_cells}
use Rattle.run_state.specs.declared.machine.Around.{Around}
use Rattle.flow_code.specs.declared.code.Operand.TheVariants.{Top}
use Rattle.flow_code.specs.declared.code.Store.{Store}
use Rattle.flow_code.specs.declared.code.Then.{Then}
use Rattle.flow_code.specs.declared.code.Then.TheVariants.{Push, Drop, Skip, Branch}
use Rattle.flow_code.specs.declared.code.Into.{Into}
use Rattle.flow_code.specs.declared.code.Action.TheVariants.{Give, Truth, Convert, Jump}
use Rattle.flow_code.specs.declared.code.Op.{Op}
use Rattle.flow_code.specs.declared.code.Code.{Code}
use Rattle.flow_code.specs.Preparing.{followed, op, only, with_operand}
use Rattle.flow_code.specs.Sizes.{operand_of, with_one, size}
use Rattle.flow_code.specs.Expressions.{code, constant, as_type}
use Rattle.flow_code.specs.Words.{native}
use Rattle.flow_code.proofs.Lengths.{code_size, followed_size}
use Rattle.flow_laws.specs.Machines.{Control, Machine}
use Rattle.flow_laws.specs.Acting.{skipped, passed_on, stored, kept_value, key_at, stack_at, finished}
use Rattle.flow_laws.specs.inside.Simulating.{HasCode, control_at, meaning, paying}
use Rattle.flow_laws.proofs.Values.{fit_native}
use Rattle.flow_laws.proofs.Operations.{code_parts, bind_behind, standing, Comes, op_comes, comes_then, paying_alike}
use Rattle.flow_laws.proofs.Operands.{Eval, NodeOf, goes_to, Values, Takes, value_then, pushed_then, operand_comes}
use Rattle.flow_laws.proofs.Nodes.{Noded}
use Rattle.flow_laws.proofs.Sized.{operand_size}

-- one operation more
one_more : (xs : List Op) (a : Op) (n : ℕ) → length xs ≡ n → length (xs ++ a ∷ []) ≡ n + 1
one_more xs a n h = length-append xs (a ∷ []) ∙ ap (λ m. m + 1) h

module _ (p : Program) (c : Code) (S : Type 0) (after : Event → List Cell → S → S) (n : ℕ) where
  jump_on : (κ : Control) (j l : ℕ) (s : State S) (m : Machine S) → slice_get c.ops j ≡ Some (op 0 (Jump l)) → Comes p c S after m (Go (control_at κ j) s) → Comes p c S after m (Go (control_at κ l) s)
  jump_on κ j l s m h d =
      let r : Res End (State S) (Unit {0}) = Go tt s in
      comes_then p c S after m r (λ _ u. control_at κ j) (λ _ u. u) (λ _ u. Go (control_at κ l) u) d (λ _ u b. op_comes p c S after j (op 0 (Jump l)) κ u h)

  skip_on : (b : Bool) (to : ℕ) (κ : Control) (j l : ℕ) (s : State S) (m : Machine S) → slice_get c.ops j ≡ Some (op 0 (Jump l))
      → Comes p c S after m (Go (cond b (control_at κ to) (control_at κ j)) s) → Comes p c S after m (Go (cond b (control_at κ to) (control_at κ l)) s)
  skip_on true to κ j l s m h d = d
  skip_on false to κ j l s m h d = jump_on κ j l s m h d

  pass_on : (then : Then) (v : ℤ) (κ : Control) (j l : ℕ) (s : State S) (m : Machine S) → slice_get c.ops j ≡ Some (op 0 (Jump l))
      → Comes p c S after m (passed_on c S after v then (control_at κ j) s) → Comes p c S after m (passed_on c S after v then (control_at κ l) s)
  pass_on Push v κ j l s m h d = jump_on (record κ { stack = v ∷ κ.stack }) j l s m h d
  pass_on Drop v κ j l s m h d = jump_on κ j l s m h d
  pass_on (Skip way to) v κ j l s m h d = skip_on (cond way (not (is_zero v)) (not (not (is_zero v)))) to κ j l s m h d
  pass_on (Branch at way to) v κ j l s m h d =
      skip_on (cond way (not (is_zero v)) (not (not (is_zero v)))) to κ j l (record s { seen = after (Branched at (ByTruth (not (is_zero v)))) s.cells s.seen }) m h d

  store_on : (x : Option Store) (then : Then) (v : ℤ) (κ : Control) (j l : ℕ) (s : State S) (m : Machine S) → slice_get c.ops j ≡ Some (op 0 (Jump l))
      → Comes p c S after m (stored c S after x v v then (control_at κ j) s) → Comes p c S after m (stored c S after x v v then (control_at κ l) s)
  store_on None then v κ j l s m h d = pass_on then v κ j l s m h d
  store_on (Some y) then v κ j l s m h d =
      let w = fit Lp64 y.ty v in
      pass_on then (kept_value y v w) (record κ { stack = stack_at y.place κ.stack }) j l (with_cells (put (key_at y.place κ.stack) w s.cells) s) m h d

  -- a value that goes on before a jump goes on behind it
  pub jumped : (r : Res End (State S) ℤ) (x : Into) (κ : Control) (j l : ℕ) (m : Machine S) → slice_get c.ops j ≡ Some (op 0 (Jump l))
      → Comes p c S after m (bind r (goes_to p c S after n κ j x)) → Comes p c S after m (bind r (goes_to p c S after n κ l x))
  jumped (Go v s) x κ j l m h d = store_on x.store x.then v κ j l s m h d
  jumped (Stop e s) x κ j l m h d = d

  pub comma_goes : (ty : Option IntType) (a b : Exp) → Values p c S after n a → Values p c S after n b → (then : Then) → Noded p c S after n ty (Comma a b) (only then)
  comma_goes ty a b iha ihb then at i k want spot κ s h below =
      let first = code p at i k Unused a Drop in
      let parts = code_parts c i (size a) first (code p at (i + length first) 0 Used b then) (code_size p at i k Unused a Drop) h in
      let second = subst (λ l. HasCode c (i + size a) (code p at (i + l) 0 Used b then)) (code_size p at i k Unused a Drop) parts.1 in
      let j : i + size a + size b ≡ i + (size a + size b) = omega arith in
      let F = goes_to p c S after n κ (i + (size a + size b)) (only then) in
      subst (Comes p c S after (standing κ i s))
      (paying_alike p c S after k (λ u. bind (Eval p c S after n at Unused a u) (λ _ w. bind (Eval p c S after n at Used b w) F)) (λ u. bind (NodeOf p c S after n at want spot ty (Comma a b) u) F) s
      (λ u. sym (bind_behind (Eval p c S after n at Unused a u) (λ _ w. Eval p c S after n at Used b w) F)))
      (value_then p c S after n a iha at i k Unused Drop κ s parts.0 below (λ v u. control_at κ (i + size a)) (λ v u. u) (λ v u. refl)
      (λ _ w. bind (Eval p c S after n at Used b w) F)
      (λ _ w d. subst (λ l. Comes p c S after (standing κ (i + size a) w) (bind (Eval p c S after n at Used b w) (goes_to p c S after n κ l (only then)))) j
      (ihb at (i + size a) 0 Used then κ w second d)))

  -- an arm of a conditional
  arm_comes : (ty : Option IntType) (e : Exp) → Values p c S after n e → (then : Then) (at : Around) (j : ℕ) (κ : Control) (w : State S)
      → HasCode c j (code p at j 0 Used e Push ++ as_type p.model ty (only then) ∷ []) → w.steps ≤ n
      → Comes p c S after (standing κ j w) (bind (bind (Eval p c S after n at Used e w) (λ v. convert_to p (meaning p c S after) ty (type_of e) v)) (goes_to p c S after n κ (j + size e + 1) (only then)))
  arm_comes None e ih then at j κ w h below =
      let F = goes_to p c S after n κ (j + size e + 1) (only then) in
      let parts = code_parts c j (size e) (code p at j 0 Used e Push) (op 0 (Give Top (only then)) ∷ []) (code_size p at j 0 Used e Push) h in
      let l : suc (j + size e) ≡ j + size e + 1 = omega arith in
      subst (Comes p c S after (standing κ j w)) (sym (bind_behind (Eval p c S after n at Used e w) (λ v t. Go v t) F))
      (pushed_then p c S after n e ih at j 0 Used κ w parts.0 below F
      (λ v u d. subst (λ z. Comes p c S after (standing (record κ { stack = v ∷ κ.stack }) (j + size e) u) (goes_to p c S after n κ z (only then) v u)) l
      (op_comes p c S after (j + size e) (op 0 (Give Top (only then))) (record κ { stack = v ∷ κ.stack }) u parts.1.0)))
  arm_comes (Some to) e ih then at j κ w h below =
      let F = goes_to p c S after n κ (j + size e + 1) (only then) in
      let parts = code_parts c j (size e) (code p at j 0 Used e Push) (op 0 (Convert (native p.model to) Top (only then)) ∷ []) (code_size p at j 0 Used e Push) h in
      let l : suc (j + size e) ≡ j + size e + 1 = omega arith in
      subst (Comes p c S after (standing κ j w)) (sym (bind_behind (Eval p c S after n at Used e w) (λ v t. Go (fit p.model to v) t) F))
      (pushed_then p c S after n e ih at j 0 Used κ w parts.0 below (λ v t. F (fit p.model to v) t)
      (λ v u d. subst (Comes p c S after (standing (record κ { stack = v ∷ κ.stack }) (j + size e) u))
      (ap (λ q. goes_to p c S after n κ (suc (j + size e)) (only then) q u) (fit_native p.model to v) ∙ ap (λ z. goes_to p c S after n κ z (only then) (fit p.model to v) u) l)
      (op_comes p c S after (j + size e) (op 0 (Convert (native p.model to) Top (only then))) (record κ { stack = v ∷ κ.stack }) u parts.1.0)))

  choice : (t : Bool) (first second : ℕ) (κ : Control) (u : State S) (a b : State S → Res End (State S) ℤ) (f : ℤ → State S → Res End (State S) Control)
      → Comes p c S after (standing κ first u) (bind (a u) f) → Comes p c S after (standing κ second u) (bind (b u) f)
      → Comes p c S after (record { control = skipped t false second (control_at κ first); run = u }) (bind (cond t a b u) f)
  choice true first second κ u a b f d e = d
  choice false first second κ u a b f d e = e

  pub choose_goes : (ty : Option IntType) (mark : Spot) (e a b : Exp) → Values p c S after n e → Values p c S after n a → Values p c S after n b → (then : Then)
      → Noded p c S after n ty (Choose mark e a b) (only then)
  choose_goes ty mark e a b ihe iha ihb then at i k want spot κ s h below =
      let x = only then in
      let second = i + (size e + size a + 2) in
      let J = i + (size e + (size a + size b + 3)) in
      let test = code p at i k Used e (Branch mark false second) in
      let yes = λ (j : ℕ). code p at j 0 Used a Push ++ as_type p.model ty x ∷ [] in
      let no = λ (j : ℕ). code p at j 0 Used b Push ++ as_type p.model ty x ∷ [] in
      let past = op 0 (Jump (second + (size b + 1))) ∷ [] in
      let tested = code_size p at i k Used e (Branch mark false second) in
      let first_length = followed_size i test yes (size e) (size a + 1) tested (λ j. one_more (code p at j 0 Used a Push) (as_type p.model ty x) (size a) (code_size p at j 0 Used a Push)) in
      let jump_length = one_more (followed i test yes) (op 0 (Jump (second + (size b + 1)))) (size e + (size a + 1)) first_length in
      let outer = code_parts c i (size e + (size a + 1) + 1) (followed i test yes ++ past) (no (i + length (followed i test yes ++ past))) jump_length h in
      let inner = code_parts c i (size e + (size a + 1)) (followed i test yes) past first_length outer.0 in
      let parts = code_parts c i (size e) test (yes (i + length test)) tested inner.0 in
      let yes_code = subst (λ l. HasCode c (i + size e) (yes (i + l))) tested parts.1 in
      let here : i + (size e + (size a + 1) + 1) ≡ second = omega arith in
      let no_code = subst (λ l. HasCode c l (no l)) here (subst (λ l. HasCode c (i + (size e + (size a + 1) + 1)) (no (i + l))) jump_length outer.1) in
      let jump_here : i + (size e + (size a + 1)) ≡ i + size e + size a + 1 = omega arith in
      let jump_there : second + (size b + 1) ≡ J = omega arith in
      let jump = subst (λ l. slice_get c.ops (i + size e + size a + 1) ≡ Some (op 0 (Jump l))) jump_there (subst (λ l. slice_get c.ops l ≡ Some (op 0 (Jump (second + (size b + 1))))) jump_here inner.1.0) in
      let ends : second + size b + 1 ≡ J = omega arith in
      let F = goes_to p c S after n κ J x in
      let one = λ (w : State S). bind (Eval p c S after n at Used a w) (λ v. convert_to p (meaning p c S after) ty (type_of a) v) in
      let other = λ (w : State S). bind (Eval p c S after n at Used b w) (λ v. convert_to p (meaning p c S after) ty (type_of b) v) in
      let told = λ (v : ℤ) (u : State S). record u { seen = after (Branched mark (ByTruth (not (is_zero v)))) u.cells u.seen } in
      subst (Comes p c S after (standing κ i s))
      (paying_alike p c S after k (λ u. bind (Eval p c S after n at Used e u) (λ v w. bind (cond (not (is_zero v)) one other (told v w)) F)) (λ u. bind (NodeOf p c S after n at want spot ty (Choose mark e a b) u) F) s
      (λ u. sym (bind_behind (Eval p c S after n at Used e u) (λ v w. cond (not (is_zero v)) one other (told v w)) F)))
      (value_then p c S after n e ihe at i k Used (Branch mark false second) κ s parts.0 below
      (λ v u. skipped (not (is_zero v)) false second (control_at κ (i + size e))) told (λ v u. refl)
      (λ v w. bind (cond (not (is_zero v)) one other (told v w)) F)
      (λ v w d. choice (not (is_zero v)) (i + size e) second κ (told v w) one other F
      (jumped (one (told v w)) x κ (i + size e + size a + 1) J (standing κ (i + size e) (told v w)) jump (arm_comes ty a iha then at (i + size e) κ (told v w) yes_code d))
      (subst (λ l. Comes p c S after (standing κ second (told v w)) (bind (other (told v w)) (goes_to p c S after n κ l x))) ends (arm_comes ty b ihb then at second κ (told v w) no_code d))))

  -- the value of an operand as 0 or 1
  truth_takes : (x : Into) → Takes p c S after n (λ y. Truth y x) (λ v κ t. finished c S after (number_of (not (is_zero v))) (number_of (not (is_zero v))) x κ t)
  truth_takes x y κ s = refl

  -- what the second operand of `&&` and `||` gives
  abbrev truth_of : Around → Exp → State S → Res End (State S) ℤ
  truth_of at b w = bind (Eval p c S after n at Used b w) (λ v q. Go (number_of (not (is_zero v))) q)

  abbrev chosen : Bool → Bool → (State S → Res End (State S) ℤ) → State S → Res End (State S) ℤ
  chosen true t a = cond t a (λ w. Go (pos 0) w)
  chosen false t a = cond t (λ w. Go (pos 1) w) a

  shortcut : (both t : Bool) (first decided : ℕ) (κ : Control) (u : State S) (a : State S → Res End (State S) ℤ) (f : ℤ → State S → Res End (State S) Control)
      → Comes p c S after (standing κ first u) (bind (a u) f) → Comes p c S after (standing κ decided u) (f (number_of (not both)) u)
      → Comes p c S after (record { control = skipped t (not both) decided (control_at κ first); run = u }) (bind (chosen both t a u) f)
  shortcut true true first decided κ u a f d e = d
  shortcut true false first decided κ u a f d e = e
  shortcut false true first decided κ u a f d e = e
  shortcut false false first decided κ u a f d e = d

  -- both operands of `&&` or of `||`
  logic_comes : (both : Bool) (a b : Exp) → Values p c S after n a → Values p c S after n b → (x : Into) (at : Around) (i k : ℕ) (κ : Control) (s : State S)
      → HasCode c i (followed i (code p at i k Used a (Skip (not both) (i + (size a + (with_one (operand_of b) (size b) + 1))))) (λ j. with_operand (operand_of b) 0 (code p at j 0 Used b Push) (λ y. Truth y x))
      ++ op 0 (Jump (i + (size a + (with_one (operand_of b) (size b) + 1)) + 1)) ∷ op 0 (Give (constant both) x) ∷ []) → s.steps ≤ n
      → Comes p c S after (standing κ i s) (paying p c S after k (λ u. bind (Eval p c S after n at Used a u) (λ v w. bind (chosen both (not (is_zero v)) (truth_of at b) w)
      (goes_to p c S after n κ (i + (size a + with_one (operand_of b) (size b) + 2)) x))) s)
  logic_comes both a b iha ihb x at i k κ s h below =
      let m = with_one (operand_of b) (size b) in
      let decided = i + (size a + (m + 1)) in
      let J = i + (size a + m + 2) in
      let F = goes_to p c S after n κ J x in
      let first = code p at i k Used a (Skip (not both) decided) in
      let second = λ (j : ℕ). with_operand (operand_of b) 0 (code p at j 0 Used b Push) (λ y. Truth y x) in
      let first_length = code_size p at i k Used a (Skip (not both) decided) in
      let lengths = followed_size i first second (size a) m first_length (λ j. operand_size (operand_of b) 0 (code p at j 0 Used b Push) (λ y. Truth y x) (size b) (code_size p at j 0 Used b Push)) in
      let outer = code_parts c i (size a + m) (followed i first second) (op 0 (Jump (decided + 1)) ∷ op 0 (Give (constant both) x) ∷ []) lengths h in
      let parts = code_parts c i (size a) first (second (i + length first)) first_length outer.0 in
      let second_code = subst (λ l. HasCode c (i + size a) (second (i + l))) first_length parts.1 in
      let from : i + (size a + m) ≡ i + size a + m = omega arith in
      let to : decided + 1 ≡ J = omega arith in
      let jump = subst (λ l. slice_get c.ops (i + size a + m) ≡ Some (op 0 (Jump l))) to (subst (λ l. slice_get c.ops l ≡ Some (op 0 (Jump (decided + 1)))) from outer.1.0) in
      let there : suc (i + (size a + m)) ≡ decided = omega arith in
      let gives = subst (λ l. slice_get c.ops l ≡ Some (op 0 (Give (constant both) x))) there outer.1.1.0 in
      let behind : suc decided ≡ J = omega arith in
      value_then p c S after n a iha at i k Used (Skip (not both) decided) κ s parts.0 below
      (λ v u. skipped (not (is_zero v)) (not both) decided (control_at κ (i + size a))) (λ v u. u) (λ v u. refl)
      (λ v w. bind (chosen both (not (is_zero v)) (truth_of at b) w) F)
      (λ v w d. shortcut both (not (is_zero v)) (i + size a) decided κ w (truth_of at b) F
      (jumped (truth_of at b w) x κ (i + size a + m) J (standing κ (i + size a) w) jump
      (subst (Comes p c S after (standing κ (i + size a) w)) (sym (bind_behind (Eval p c S after n at Used b w) (λ v q. Go (number_of (not (is_zero v))) q) (goes_to p c S after n κ (i + size a + m) x)))
      (operand_comes p c S after n b ihb (λ y. Truth y x) (λ v κ t. finished c S after (number_of (not (is_zero v))) (number_of (not (is_zero v))) x κ t) (truth_takes x) at (i + size a) 0 κ w second_code d)))
      (subst (λ l. Comes p c S after (standing κ decided w) (goes_to p c S after n κ l x (number_of (not both)) w)) behind
      (op_comes p c S after decided (op 0 (Give (constant both) x)) κ w gives)))

  pub logic_goes : (ty : Option IntType) (both : Bool) (a b : Exp) → Values p c S after n a → Values p c S after n b → (x : Into) → Noded p c S after n ty (Logic both a b) x
  logic_goes ty true a b iha ihb x at i k want spot κ s h below =
      let F = goes_to p c S after n κ (i + (size a + with_one (operand_of b) (size b) + 2)) x in
      subst (Comes p c S after (standing κ i s))
      (paying_alike p c S after k (λ u. bind (Eval p c S after n at Used a u) (λ v w. bind (chosen true (not (is_zero v)) (truth_of at b) w) F)) (λ u. bind (NodeOf p c S after n at want spot ty (Logic true a b) u) F) s
      (λ u. sym (bind_behind (Eval p c S after n at Used a u) (λ v w. chosen true (not (is_zero v)) (truth_of at b) w) F)))
      (logic_comes true a b iha ihb x at i k κ s h below)
  logic_goes ty false a b iha ihb x at i k want spot κ s h below =
      let F = goes_to p c S after n κ (i + (size a + with_one (operand_of b) (size b) + 2)) x in
      subst (Comes p c S after (standing κ i s))
      (paying_alike p c S after k (λ u. bind (Eval p c S after n at Used a u) (λ v w. bind (chosen false (not (is_zero v)) (truth_of at b) w) F)) (λ u. bind (NodeOf p c S after n at want spot ty (Logic false a b) u) F) s
      (λ u. sym (bind_behind (Eval p c S after n at Used a u) (λ v w. chosen false (not (is_zero v)) (truth_of at b) w) F)))
      (logic_comes false a b iha ihb x at i k κ s h below)
