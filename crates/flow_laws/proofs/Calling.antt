-- Calls of functions: the steps of the parameters, their cells, the body, and the way back.
use Rattle.std.proofs.Common.{◌≡◌, ℕ, zero, suc, ◌+◌, ◌-◌, ◌≤◌, ℤ, Bool, true, false, ◌||◌, nat_eq, List, [], ◌∷◌, ◌++◌, length, take, drop, reverse, Option, Some, None, slice_get, refl, sym, ap, ◌∙◌, subst, arith}
use Rattle.std.proofs.lemmas.Bool.Decides.{nat_tests}
use Rattle.std.proofs.lemmas.List.{reverse-reverse, length-reverse}
use Rattle.std.proofs.Math.Seq.{take-append_seam, drop-append_seam}
use Rattle.c_core.specs.Tree.{Form, Stm, Stmt, Function, Program}
use Rattle.c_core.specs.Types.{fit}
use Rattle.c_core.specs.declared.number.DataModel.TheVariants.{Lp64}
use Rattle.c_core.specs.declared.number.IntType.{IntType}
use Rattle.c_core.specs.declared.number.Spot.{Spot}
use Rattle.c_meaning.specs.declared.run.End.{End}
use Rattle.c_meaning.specs.declared.run.End.TheVariants.{Spent}
use Rattle.c_meaning.specs.declared.run.Event.{Event}
use Rattle.c_meaning.specs.Acts.{Res, Go, Stop, Flow, Next, Broken, Again, Gave, bind, given}
use Rattle.c_meaning.specs.Acts as acts
use Rattle.c_meaning.specs.Cells.{Cell, same_key, live, put, cells_from}
use Rattle.c_meaning.specs.Exec.{ticks, body, with_params, call_of, run_in, form}
use Rattle.c_meaning.specs.Meaning.{AStatement, AParameter, Meaning}
use Rattle.c_meaning.specs.Objects.{type_of_object}
use Rattle.c_meaning.specs.Run as run
use Rattle.c_meaning.specs.Run.{State, cells_of, with_cells}
use Rattle.c_meaning.specs.Watching.{seen_by}
use Rattle.run_state.specs.Interpreting.{site_of}
use Rattle.run_state.specs.declared.machine.CallSite.{CallSite}
use Rattle.flow_code.specs.declared.code.Action.TheVariants.{Rest, Jump, Call as CallOf, Leave, Return as ReturnOf}
use Rattle.flow_code.specs.declared.code.Body.{Body}
use Rattle.flow_code.specs.declared.code.Code.{Code}
use Rattle.flow_code.specs.declared.code.Op.{Op}
use Rattle.flow_code.specs.declared.code.Parameter.{Parameter}
use Rattle.flow_code.specs.Expressions.{call_of as call_op}
use Rattle.flow_code.specs.Preparing.{followed, op}
use Rattle.flow_code.specs.Programs.{in_function, body_code, function_code, parameters_of}
use Rattle.flow_code.specs.Sizes.{outermost, size_of_form}
use Rattle.flow_code.specs.Statements.{form_code}
use Rattle.flow_code.specs.Words.{native}
use Rattle.flow_code.proofs.Lengths.{followed_size}
use Rattle.flow_laws.specs.declared.frame.Frame.{Frame}
use Rattle.flow_laws.specs.Machines.{Control, Machine}
use Rattle.flow_laws.specs.Acting.{cell, arguments, with_parameters, called, converted}
use Rattle.flow_laws.specs.Stepping.{Reaches, Does}
use Rattle.flow_laws.specs.inside.Simulating.{HasCode, control_at, values_of, meaning, calls, paying, CallIsDone, LeavesAs, FormExecuted}
use Rattle.flow_laws.proofs.Operations.{code_parts, bind_behind, bind_alike, standing, op_does, paying_alike}
use Rattle.flow_laws.proofs.Reaching.{does_from, does_then}
use Rattle.flow_laws.proofs.Budgets.{fewer}
use Rattle.flow_laws.proofs.Sized.{form_size}
use Rattle.flow_laws.proofs.Values.{fit_native}

or_true : (a b : Bool) → b ≡ true → (a || b) ≡ true
or_true true b e = refl
or_true false b e = e

same_cell : (o : ℕ) → same_key (cell o 0) (cell o 0) ≡ true
same_cell o = let e : nat_eq o o ≡ true = grind (arith, nat_tests) in rw e refl

live_appended : (o : ℕ) (cs : List Cell) → live (cell o 0) (cs ++ cells_from o 0 1 []) ≡ true
live_appended o [] = rw (same_cell o) refl
live_appended o (d ∷ cs) = or_true (same_key d.key (cell o 0)) (live (cell o 0) (cs ++ cells_from o 0 1 [])) (live_appended o cs)

-- a cell that was just appended gets a value
pub put_appended : (o : ℕ) (v : ℤ) (cs : List Cell) → put (cell o 0) v (cs ++ cells_from o 0 1 []) ≡ cs ++ cells_from o 0 1 (v ∷ [])
put_appended o v [] = rw (same_cell o) refl
put_appended o v (d ∷ cs) = rw (live_appended o cs) (ap (λ r. d ∷ r) (put_appended o v cs))

values_count : (vs : List (ℤ × IntType)) → length (values_of vs) ≡ length vs
values_count [] = refl
values_count (v ∷ vs) = ap suc (values_count vs)

turned_count : (vs : List (ℤ × IntType)) → length vs ≡ length (reverse (values_of vs))
turned_count vs = sym (values_count vs) ∙ sym (length-reverse (values_of vs))

-- the arguments of a call, on top of a stack
arguments_are : (vs : List (ℤ × IntType)) (rest : List ℤ) → arguments (length vs) (reverse (values_of vs) ++ rest) ≡ values_of vs
arguments_are vs rest =
    ap (λ n. reverse (take n (reverse (values_of vs) ++ rest))) (turned_count vs) ∙ ap reverse (take-append_seam (reverse (values_of vs)) rest) ∙ reverse-reverse (values_of vs)

-- and what is below them
below_arguments : (vs : List (ℤ × IntType)) (rest : List ℤ) → drop (length vs) (reverse (values_of vs) ++ rest) ≡ rest
below_arguments vs rest = ap (λ n. drop n (reverse (values_of vs) ++ rest)) (turned_count vs) ∙ drop-append_seam (reverse (values_of vs)) rest

parameters_count : (p : Program) (os : List ℕ) → length (parameters_of p os) ≡ length os
parameters_count p [] = refl
parameters_count p (o ∷ os) = ap suc (parameters_count p os)

bind_cut : {S A B : Type 0} (n : ℕ) (r : Res End (State S) A) (k : A → State S → Res End (State S) B)
    → bind (acts.cut End (State S) cells_of with_cells n r) k ≡ bind r (λ a t. k a (with_cells (take n t.cells) t))
bind_cut n (Go a t) k = refl
bind_cut n (Stop e t) k = refl

-- the control behind a call, its value on the stack
abbrev pub back_in : Frame → List ℤ → List ℕ → List Frame → ℤ → Control
back_in fr st sc frs v = record { at = fr.back; paid = 0; stack = v ∷ st; scopes = sc; frames = frs }

-- the control inside a call
abbrev pub inside : ℕ → List ℤ → List ℕ → List Frame → Control
inside i st sc frs = record { at = i; paid = 0; stack = st; scopes = sc; frames = frs }

-- a call's cells are gone, and it is over
abbrev pub gone : {S : Type 0} → Frame → State S → State S
gone fr u = record u { cells = take fr.cells u.cells; active = u.active - 1 }

machine_is : {S : Type 0} (y : Machine S) (k : Control) (s : State S) → y.control ≡ k → y.run ≡ s → y ≡ record { control = k; run = s }
machine_is y k s e h = ap (λ x. record { control = x; run = y.run }) e ∙ ap (λ u. record { control = k; run = u }) h

module _ (p : Program) (c : Code) (S : Type 0) (after : Event → List Cell → S → S) where
  abbrev M : Meaning
  M = meaning p c S after

  -- the machine goes on from where a part left it
  does_on : {A B : Type 0} (m : Machine S) (r : Res End (State S) A) (h : A → State S → Control) (t : A → State S → State S) (f : A → State S → Res End (State S) B) (L : B → State S → Machine S → Type 0)
      → Does c S after m (bind r (λ a s. Go (h a s) (t a s))) (λ k s y. (y.control ≡ k) × (y.run ≡ s))
      → ((a : A) (s : State S) → (t a s).steps ≤ m.run.steps → Does c S after (record { control = h a s; run = t a s }) (f a s) L) → Does c S after m (bind r f) L
  does_on m (Go a s) h t f L d g =
      let y : Machine S = record { control = h a s; run = t a s } in
      let same : d.0 ≡ y = machine_is d.0 (h a s) (t a s) d.2.0 d.2.1 in
      let reached : Reaches c S after m y = subst (Reaches c S after m) same d.1 in
      does_from c S after m y (f a s) L reached (g a s (fewer c S after m y reached))
  does_on m (Stop e s) h t f L d g = d

  -- a machine that another leads to
  pub does_at : {A : Type 0} (y : Machine S) (k : Control) (s : State S) (r : Res End (State S) A) (L : A → State S → Machine S → Type 0)
      → y.control ≡ k → y.run ≡ s → Does c S after (record { control = k; run = s }) r L → Does c S after y r L
  does_at y k s r L e h d = subst (λ z. Does c S after z r L) (sym (machine_is y k s e h)) d

  does_back : {A : Type 0} (m : Machine S) (r : Res End (State S) A) (h : A → Control)
      → Does c S after m (bind r (λ a s. Go (h a) s)) (λ k s y. (y.control ≡ k) × (y.run ≡ s)) → Does c S after m r (λ a s y. (y.control ≡ h a) × (y.run ≡ s))
  does_back m (Go a s) h d = d
  does_back m (Stop e s) h d = d

  -- a jump
  pub jumps : {A : Type 0} (i to : ℕ) (k : Control) (s : State S) (r : Res End (State S) A) (L : A → State S → Machine S → Type 0)
      → slice_get c.ops i ≡ Some (op 0 (Jump to)) → Does c S after (standing k to s) r L → Does c S after (standing k i s) r L
  jumps i to k s r L h d =
      let q = op_does p c S after i (op 0 (Jump to)) (standing k i s) h (record { at = refl; paid = refl }) in
      does_from c S after (standing k i s) q.0 r L q.1 (does_at q.0 (control_at k to) s r L q.2.0 q.2.1 d)

  -- steps are steps, whatever they are taken for
  ticks_alike : (n : ℕ) (s : State S) → ticks p M AParameter n s ≡ ticks p M AStatement n s
  ticks_alike zero s = refl
  ticks_alike (suc n) s = bind_alike (M.tick AStatement s) (λ _. ticks p M AParameter n) (λ _. ticks p M AStatement n) (λ _ u. ticks_alike n u)

  -- parameters get their cells
  params_set : (os : List ℕ) (vs : List (ℤ × IntType)) (k : State S → Res End (State S) Flow) (s : State S)
      → with_params p M os vs k s ≡ k (with_cells (with_parameters (parameters_of p os) (values_of vs) s.cells) s)
  params_set [] vs k s = refl
  params_set (o ∷ os) [] k s = params_set os [] k (with_cells (s.cells ++ cells_from o 0 1 []) s)
  params_set (o ∷ os) (v ∷ vs) k s =
      let w = fit p.model (type_of_object p o) v.0 in
      ap (λ cs. with_params p M os vs k (with_cells cs s)) (put_appended o w s.cells ∙ ap (λ x. s.cells ++ cells_from o 0 1 (x ∷ [])) (sym (fit_native p.model (type_of_object p o) v.0)))
      ∙ params_set os vs k (with_cells (s.cells ++ cells_from o 0 1 (fit Lp64 (native p.model (type_of_object p o)) v.0 ∷ [])) s)

  -- behind a call
  abbrev pub IsBack : List ℤ → List ℕ → Frame → List Frame → ℤ → State S → Machine S → Type 0
  IsBack st sc fr frs v s y = (y.control ≡ back_in fr st sc frs v) × (y.run ≡ s)

  -- a call's way back, without a value
  left_none : (l : ℕ) (st : List ℤ) (sc : List ℕ) (fr : Frame) (frs : List Frame) (u : State S) → slice_get c.ops l ≡ Some (op 0 Leave)
      → Does c S after (record { control = inside l st sc (fr ∷ frs); run = u }) (run.returned p S (seen_by after) (site_of fr.site) None (gone fr u)) (IsBack st sc fr frs)
  left_none l st sc fr frs u h =
      let m : Machine S = record { control = inside l st sc (fr ∷ frs); run = u } in
      does_back m (run.returned p S (seen_by after) (site_of fr.site) None (gone fr u)) (back_in fr st sc frs) (op_does p c S after l (op 0 Leave) m h (record { at = refl; paid = refl }))

  -- and with one
  left_some : (l : ℕ) (ty : Option IntType) (w v : ℤ) (st : List ℤ) (sc : List ℕ) (fr : Frame) (frs : List Frame) (u : State S)
      → converted c S after ty w ≡ v → slice_get c.ops l ≡ Some (op 0 (ReturnOf ty))
      → Does c S after (record { control = inside l (w ∷ st) sc (fr ∷ frs); run = u }) (run.returned p S (seen_by after) (site_of fr.site) (Some v) (gone fr u)) (IsBack st sc fr frs)
  left_some l ty w v st sc fr frs u e h =
      let m : Machine S = record { control = inside l (w ∷ st) sc (fr ∷ frs); run = u } in
      subst (λ x. Does c S after m (run.returned p S (seen_by after) (site_of fr.site) (Some x) (gone fr u)) (IsBack st sc fr frs)) e
      (does_back m (run.returned p S (seen_by after) (site_of fr.site) (Some (converted c S after ty w)) (gone fr u)) (back_in fr st sc frs)
      (op_does p c S after l (op 0 (ReturnOf ty)) m h (record { at = refl; paid = refl })))

  -- however its body is left
  body_left : (g : Function) (l i : ℕ) (st : List ℤ) (sc : List ℕ) (fr : Frame) (frs : List Frame) (flow : Flow) (s : State S) (y : Machine S) → slice_get c.ops l ≡ Some (op 0 Leave)
      → LeavesAs p c S after (in_function p.model l g) (inside i st sc (fr ∷ frs)) l flow s y
      → Does c S after y (run.returned p S (seen_by after) (site_of fr.site) (given flow) (gone fr s)) (IsBack st sc fr frs)
  body_left g l i st sc fr frs Next s y h q =
      let R = run.returned p S (seen_by after) (site_of fr.site) None (gone fr s) in
      does_at y (inside l st sc (fr ∷ frs)) s R (IsBack st sc fr frs) q.1 q.0 (left_none l st sc fr frs s h)
  body_left g l i st sc fr frs Broken s y h q =
      let R = run.returned p S (seen_by after) (site_of fr.site) None (gone fr s) in
      does_at y (inside q.1.0 st sc (fr ∷ frs)) s R (IsBack st sc fr frs) q.1.1 q.0 (jumps q.1.0 l (inside i st sc (fr ∷ frs)) s R (IsBack st sc fr frs) q.1.2.0 (left_none l st sc fr frs s h))
  body_left g l i st sc fr frs Again s y h q =
      let R = run.returned p S (seen_by after) (site_of fr.site) None (gone fr s) in
      does_at y (inside q.1.0 st sc (fr ∷ frs)) s R (IsBack st sc fr frs) q.1.1 q.0 (jumps q.1.0 l (inside i st sc (fr ∷ frs)) s R (IsBack st sc fr frs) q.1.2.0 (left_none l st sc fr frs s h))
  body_left g l i st sc fr frs (Gave None) s y h q =
      let R = run.returned p S (seen_by after) (site_of fr.site) None (gone fr s) in
      does_at y (inside q.1.0 st sc (fr ∷ frs)) s R (IsBack st sc fr frs) q.1.1 q.0 (left_none q.1.0 st sc fr frs s q.1.2.0)
  body_left g l i st sc fr frs (Gave (Some v)) s y h q =
      let R = run.returned p S (seen_by after) (site_of fr.site) (Some v) (gone fr s) in
      does_at y (inside q.1.0 (q.1.1 ∷ st) sc (fr ∷ frs)) s R (IsBack st sc fr frs) q.1.3 q.0 (left_some q.1.0 (in_function p.model l g).result q.1.1 v st sc fr frs s q.1.2 q.1.4.0)

  -- the body of a function, with calls at most n deep, from its entry on
  abbrev pub BodyDone : ℕ → Type 0
  BodyDone n = (g : Function) (i : ℕ) (k : Control) (u : State S) → HasCode c i (function_code p i g) → u.steps ≤ n
      → (l : ℕ) × (slice_get c.ops l ≡ Some (op 0 Leave)) × Does c S after (standing k i u) (run_in p M n g u) (LeavesAs p c S after (in_function p.model l g) k l)

  -- the operations of a body
  body_parts : (g : Function) (at : Spot) (x : Form) (i : ℕ) → HasCode c i (body_code p i g (Stmt at x))
      → let l = i + 1 + size_of_form outermost x in (slice_get c.ops i ≡ Some (op 1 Rest)) × HasCode c (i + 1) (form_code p (i + 1) (in_function p.model l g) at x) × (slice_get c.ops l ≡ Some (op 0 Leave))
  body_parts g at x i h =
      let n = size_of_form outermost x in
      let rest : List Op = op 1 Rest ∷ [] in
      let inner = λ (j : ℕ). form_code p j (in_function p.model (j + n) g) at x in
      let parts = code_parts c i (1 + n) (followed i rest inner) (op 0 Leave ∷ []) (followed_size i rest inner 1 n refl (λ j. form_size p j (in_function p.model (j + n) g) at x)) h in
      let e : suc i ≡ i + 1 = omega arith in
      let f : i + (1 + n) ≡ i + 1 + n = omega arith in
      (parts.0.0, subst (λ j. HasCode c j (inner (i + 1))) e parts.0.1, subst (λ j. slice_get c.ops j ≡ Some (op 0 Leave)) f parts.1.0)

  spent_at : {A : Type 0} (f : State S → Res End (State S) A) (u : State S) → u.steps ≡ 0 → paying p c S after 1 f u ≡ Stop Spent u
  spent_at f u e = rw e refl

  paid_at : {A : Type 0} (f : State S → Res End (State S) A) (u : State S) (n : ℕ) → u.steps ≡ suc n → paying p c S after 1 f u ≡ f (record u { steps = n })
  paid_at f u n e = rw e refl

  -- where no step is left the body's step is wanting
  body_spent : (i : ℕ) (k : Control) (u : State S) → slice_get c.ops i ≡ Some (op 1 Rest) → u.steps ≡ 0 → Does c S after {A = Flow} (standing k i u) (Stop Spent u) (λ _ _ _. Unit {0})
  body_spent i k u h e =
      subst (λ r. Does c S after (standing k i u) r (λ k s y. (y.control ≡ k) × (y.run ≡ s))) (spent_at (λ s. Go (control_at k (suc i)) s) u e)
      (op_does p c S after i (op 1 Rest) (standing k i u) h (record { at = refl; paid = refl }))

  zero_body : (g : Function) (st : Stm) (i : ℕ) (k : Control) (u : State S) → HasCode c i (body_code p i g st) → u.steps ≤ 0
      → (l : ℕ) × (slice_get c.ops l ≡ Some (op 0 Leave)) × Does c S after (standing k i u) (M.deep u) (LeavesAs p c S after (in_function p.model l g) k l)
  zero_body g (Stmt at x) i k u h z =
      let parts = body_parts g at x i h in
      let e : u.steps ≡ 0 = omega arith in
      (i + 1 + size_of_form outermost x, parts.2, body_spent i k u parts.0 e)

  module _ (n : ℕ) (forms : FormExecuted p c S after n) where
    by_steps : (g : Function) (at : Spot) (x : Form) (i : ℕ) (k : Control) (u : State S) → HasCode c i (body_code p i g (Stmt at x)) → u.steps ≤ suc n → (d : ℕ) → u.steps ≡ d
        → let l = i + 1 + size_of_form outermost x in Does c S after (standing k i u) (body p M (calls p c S after n) g.result (Stmt at x) u) (LeavesAs p c S after (in_function p.model l g) k l)
    by_steps g at x i k u h z zero e =
        let parts = body_parts g at x i h in
        let l = i + 1 + size_of_form outermost x in
        let stopped : body p M (calls p c S after n) g.result (Stmt at x) u ≡ Stop Spent u = rw e refl in
        subst (λ r. Does c S after (standing k i u) r (LeavesAs p c S after (in_function p.model l g) k l)) (sym stopped) (body_spent i k u parts.0 e)
    by_steps g at x i k u h z (suc d) e =
        let parts = body_parts g at x i h in
        let l = i + 1 + size_of_form outermost x in
        let w = in_function p.model l g in
        let v : State S = record u { steps = d } in
        let f : suc i ≡ i + 1 = omega arith in
        let goes : body p M (calls p c S after n) g.result (Stmt at x) u ≡ form p M (calls p c S after n) g.result at x v = rw e refl in
        let q = subst (λ r. Does c S after (standing k i u) r (λ k s y. (y.control ≡ k) × (y.run ≡ s))) (paid_at (λ s. Go (control_at k (suc i)) s) u d e)
        (op_does p c S after i (op 1 Rest) (standing k i u) parts.0 (record { at = refl; paid = refl })) in
        let within : d ≤ n = omega (arith, e, z) in
        subst (λ r. Does c S after (standing k i u) r (LeavesAs p c S after w k l)) (sym goes)
        (does_from c S after (standing k i u) q.0 (form p M (calls p c S after n) g.result at x v) (LeavesAs p c S after w k l) q.1
        (does_at q.0 (control_at k (i + 1)) v (form p M (calls p c S after n) g.result at x v) (LeavesAs p c S after w k l) (q.2.0 ∙ ap (control_at k) f) q.2.1
        (forms g.result at x (i + 1) w (standing k (i + 1) v) refl parts.1 (record { at = refl; paid = refl }) within)))

    suc_body : (g : Function) (st : Stm) (i : ℕ) (k : Control) (u : State S) → HasCode c i (body_code p i g st) → u.steps ≤ suc n
        → (l : ℕ) × (slice_get c.ops l ≡ Some (op 0 Leave)) × Does c S after (standing k i u) (body p M (calls p c S after n) g.result st u) (LeavesAs p c S after (in_function p.model l g) k l)
    suc_body g (Stmt at x) i k u h z = let parts = body_parts g at x i h in (i + 1 + size_of_form outermost x, parts.2, by_steps g at x i k u h z u.steps refl)

  -- where no step is left
  pub body_at_zero : BodyDone zero
  body_at_zero g i k u h z = zero_body g g.body i k u h z

  -- from the law of forms, one call less deep
  pub body_at_suc : (n : ℕ) → FormExecuted p c S after n → BodyDone (suc n)
  body_at_suc n forms g i k u h z = suc_body n forms g g.body i k u h z

  -- the code of each function of the program
  pub record HasBody (f : ℕ) (g : Function) : Type 0 where
    pub body : Body
    pub found : slice_get c.functions f ≡ Some body
    pub parameters : body.parameters ≡ parameters_of p g.params
    pub code : HasCode c body.entry (function_code p body.entry g)

  -- a call, at a control that shows its parts
  module _ (n : ℕ) (bodies : BodyDone n) (f : ℕ) (g : Function) (b : HasBody f g) (site : CallSite) (vs : List (ℤ × IntType)) (rest : List ℤ) (i : ℕ) (sc : List ℕ) (frs : List Frame) where
    abbrev caller : Control
    caller = inside i (reverse (values_of vs) ++ rest) sc frs

    abbrev frame_of : State S → Frame
    frame_of u = record { back = suc i; cells = length u.cells; site = site }

    abbrev entered : State S → Control
    entered u = inside b.body.entry rest sc (frame_of u ∷ frs)

    abbrev beginning : State S → State S
    beginning u = record u { active = suc u.active; cells = with_parameters (parameters_of p g.params) (values_of vs) u.cells }

    -- a call by its parameters, their number, the values below the arguments, and these
    abbrev entering : List Parameter → ℕ → List ℤ → List ℤ → State S → Res End (State S) Control
    entering ps k st xs s =
        bind (run.room p S (seen_by after) (suc k) s) (λ _ u. Go (inside b.body.entry st sc (frame_of u ∷ frs)) (record u { active = suc u.active; cells = with_parameters ps xs u.cells }))

    called_is : (s : State S) → called c S after (slice_get c.functions f) (length vs) site (control_at caller (suc i)) s ≡ entering (parameters_of p g.params) (length g.params) rest (values_of vs) s
    called_is s =
        let st = reverse (values_of vs) ++ rest in
        ap (λ x. called c S after x (length vs) site (control_at caller (suc i)) s) b.found
        ∙ ap (λ ps. entering ps (length ps) (drop (length vs) st) (arguments (length vs) st) s) b.parameters
        ∙ ap (λ k. entering (parameters_of p g.params) k (drop (length vs) st) (arguments (length vs) st) s) (parameters_count p g.params)
        ∙ ap (λ xs. entering (parameters_of p g.params) (length g.params) xs (arguments (length vs) st) s) (below_arguments vs rest)
        ∙ ap (λ xs. entering (parameters_of p g.params) (length g.params) rest xs s) (arguments_are vs rest)

    abbrev Back : ℤ → State S → Machine S → Type 0
    Back v s y = (y.control ≡ inside (suc i) (v ∷ rest) sc frs) × (y.run ≡ s)

    abbrev whole : State S → Res End (State S) ℤ
    whole u = run.called p S (seen_by after) (site_of site) (with_params p M g.params vs (run_in p M n g)) u

    -- behind the room test
    in_call : (u : State S) → u.steps ≤ n → Does c S after (record { control = entered u; run = beginning u }) (whole u) Back
    in_call u z =
        let m : Machine S = record { control = entered u; run = beginning u } in
        let q = bodies g b.body.entry (entered u) (beginning u) b.code z in
        let leave = λ (flow : Flow) (t : State S). run.returned p S (seen_by after) (site_of site) (given flow) (gone (frame_of u) t) in
        let deeper : State S = record u { active = suc u.active } in
        let is : whole u ≡ bind (run_in p M n g (beginning u)) leave =
        ap (λ r. bind (acts.cut End (State S) cells_of with_cells (length u.cells) r) (λ flow t. run.returned p S (seen_by after) (site_of site) (given flow) (record t { active = t.active - 1 })))
        (params_set g.params vs (run_in p M n g) deeper)
        ∙ bind_cut (length u.cells) (run_in p M n g (beginning u)) (λ flow t. run.returned p S (seen_by after) (site_of site) (given flow) (record t { active = t.active - 1 })) in
        subst (λ r. Does c S after m r Back) (sym is)
        (does_then c S after m (run_in p M n g (beginning u)) leave (LeavesAs p c S after (in_function p.model q.0 g) (entered u) q.0) Back q.2
        (λ flow t y h. body_left g q.0 b.body.entry rest sc (frame_of u) frs flow t y q.1 h))

    pub call_plain : (s : State S) → slice_get c.ops i ≡ Some (call_op f (length vs) site (Some g)) → s.steps ≤ n
        → Does c S after (record { control = caller; run = s }) (call_of p M (run_in p M n) (site_of site) (Some g) vs s) Back
    call_plain s h z =
        let k = length g.params in
        let m : Machine S = record { control = caller; run = s } in
        let room = λ (u : State S). run.room p S (seen_by after) (suc k) u in
        let part = bind (ticks p M AStatement k s) (λ _ u. room u) in
        let action = λ (u : State S). called c S after (slice_get c.functions f) (length vs) site (control_at caller (suc i)) u in
        let plain = λ (u : State S). entering (parameters_of p g.params) k rest (values_of vs) u in
        let acts_so : paying p c S after k action s ≡ bind part (λ _ u. Go (entered u) (beginning u)) =
        paying_alike p c S after k action plain s called_is ∙ sym (bind_behind (ticks p M AStatement k s) (λ _ u. room u) (λ _ u. Go (entered u) (beginning u))) in
        let means_so : call_of p M (run_in p M n) (site_of site) (Some g) vs s ≡ bind part (λ _ u. whole u) =
        ap (λ r. bind r (λ _ u. bind (room u) (λ _ w. whole w))) (ticks_alike k s) ∙ sym (bind_behind (ticks p M AStatement k s) (λ _ u. room u) (λ _ u. whole u)) in
        let d = subst (λ r. Does c S after m r (λ k s y. (y.control ≡ k) × (y.run ≡ s))) acts_so (op_does p c S after i (op k (CallOf f (length vs) site)) m h (record { at = refl; paid = refl })) in
        subst (λ r. Does c S after m r Back) (sym means_so)
        (does_on m part (λ _ u. entered u) (λ _ u. beginning u) (λ _ u. whole u) Back d (λ _ u fewer. let w : u.steps ≤ n = omega (arith, fewer, z) in in_call u w))

  -- calls at most n deep, from the bodies of functions
  pub calls_done : (n : ℕ) → BodyDone n → ((f : ℕ) (g : Function) → slice_get p.functions f ≡ Some g → HasBody f g) → CallIsDone p c S after n
  calls_done n bodies found f g e site vs rest m h paid stack z =
      let k = m.control in
      let same : m ≡ record { control = inside k.at (reverse (values_of vs) ++ rest) k.scopes k.frames; run = m.run } =
      ap (λ q. record { control = record k { paid = q }; run = m.run }) paid ∙ ap (λ st. record { control = record k { paid = 0; stack = st }; run = m.run }) stack in
      let Back : ℤ → State S → Machine S → Type 0 = λ v s y. (y.control ≡ record k { at = suc k.at; stack = v ∷ rest }) × (y.run ≡ s) in
      let Plain : ℤ → State S → Machine S → Type 0 = λ v s y. (y.control ≡ inside (suc k.at) (v ∷ rest) k.scopes k.frames) × (y.run ≡ s) in
      let d = call_plain n bodies f g (found f g e) site vs rest k.at k.scopes k.frames m.run h z in
      let there : Does c S after m (call_of p M (run_in p M n) (site_of site) (Some g) vs m.run) Plain =
      subst (λ x. Does c S after x (call_of p M (run_in p M n) (site_of site) (Some g) vs m.run) Plain) (sym same) d in
      subst (λ x. Does c S after m (call_of p M (run_in p M n) (site_of site) x vs m.run) Back) (sym e)
      (subst (λ q. Does c S after m (call_of p M (run_in p M n) (site_of site) (Some g) vs m.run) (λ v s y. (y.control ≡ record k { at = suc k.at; paid = q; stack = v ∷ rest }) × (y.run ≡ s))) (sym paid) there)
