-- Calls in expressions: arguments, the event, and what is called.
use Rattle.std.proofs.Common.{◌≡◌, ℕ, suc, ◌+◌, ◌≤◌, ℤ, Bool, is_some, ◌&&◌, List, [], ◌∷◌, ◌++◌, length, reverse, Option, Some, None, slice_get, refl, sym, ap, ◌∙◌, subst, arith, append_assoc}
use Rattle.std.proofs.lemmas.List.{reverse-append}
use Rattle.c_core.specs.Tree.{Exp, Call, Exps, NoExp, MoreExp, Function, Program}
use Rattle.c_core.specs.declared.number.DataModel.{DataModel}
use Rattle.c_core.specs.declared.number.IntType.{IntType}
use Rattle.c_core.specs.declared.number.Property.{Property}
use Rattle.c_core.specs.declared.number.Property.TheVariants.{UnreachCall, NoOverflow}
use Rattle.c_core.specs.declared.number.Spot.{Spot}
use Rattle.c_core.specs.declared.tree.Callee.{Callee}
use Rattle.c_core.specs.declared.tree.Callee.TheVariants.{Defined, Input as InputOf, ReachError, Abort, Exit}
use Rattle.c_meaning.specs.declared.run.DrawKind.TheVariants.{Input as InputDraw}
use Rattle.c_meaning.specs.declared.run.End.{End}
use Rattle.c_meaning.specs.declared.run.Event.{Event}
use Rattle.c_meaning.specs.declared.run.Event.TheVariants.{Enter as Entered, Return as Returned}
use Rattle.c_meaning.specs.Cells.{Cell}
use Rattle.c_meaning.specs.Acts.{Res, Go, Stop, bind}
use Rattle.c_meaning.specs.Meaning.{AStatement, Use, Used, Site, Where}
use Rattle.c_meaning.specs.Objects.{type_of}
use Rattle.c_meaning.specs.Eval.{evals, called, is_used}
use Rattle.c_meaning.specs.Exec.{ticks, run_in, call_of}
use Rattle.c_meaning.specs.Run.{State}
use Rattle.c_meaning.specs.Run as run
use Rattle.c_meaning.specs.Watching.{seen_by}
use Rattle.run_state.specs.Interpreting.{where_of, site_of}
use Rattle.run_state.specs.declared.machine.Around.{Around}
use Rattle.run_state.specs.declared.machine.CallSite.{CallSite}
use Rattle.flow_code.specs.declared.code.Operand.TheVariants.{Top}
use Rattle.flow_code.specs.declared.code.Then.{Then}
use Rattle.flow_code.specs.declared.code.Then.TheVariants.{Push, Drop}
use Rattle.flow_code.specs.declared.code.Action.TheVariants.{Enter, Input, Reach, End as EndHere}
use Rattle.flow_code.specs.declared.code.Code.{Code}
use Rattle.flow_code.specs.Preparing.{op, only, give}
use Rattle.flow_code.specs.Sizes.{size, size_of_all, size_of_callee}
use Rattle.flow_code.specs.Expressions.{code, args_code, argument_to, callee_code, count_of, left_by, site_at, call_of as call_op}
use Rattle.flow_code.proofs.Lengths.{code_size, args_size}
use Rattle.flow_laws.specs.Machines.{Control, Machine}
use Rattle.flow_laws.specs.Acting.{program_in}
use Rattle.flow_laws.specs.Stepping.{Does}
use Rattle.flow_laws.specs.inside.Simulating.{HasCode, control_at, meaning, calls, paying, values_of, CallIsDone}
use Rattle.flow_laws.proofs.Reaching.{does_nothing}
use Rattle.flow_laws.proofs.Operations.{Gives, code_parts, bind_behind, bind_alike, standing, Comes, op_comes, comes_on, comes_then, paying_alike, paying_behind}
use Rattle.flow_laws.proofs.Operands.{Eval, NodeOf, goes_to, Values, value_then}
use Rattle.flow_laws.proofs.Answering.{reached_as}
use Rattle.flow_laws.proofs.Nodes.{Noded}

-- the stack behind arguments whose values went there
abbrev pub stack_behind : Then → List (ℤ × IntType) → List ℤ → List ℤ
stack_behind Push vs st = reverse (values_of vs) ++ st
stack_behind _ vs st = st

-- steps that arguments take in front
abbrev pub paid_by : Exps → ℕ → ℕ
paid_by NoExp k = 0
paid_by (MoreExp e es) k = k

paid_no_step : (es : Exps) → paid_by es 0 ≡ 0
paid_no_step NoExp = refl
paid_no_step (MoreExp e es) = refl

pushed_under : (v : ℤ) (vs st : List ℤ) → reverse vs ++ v ∷ st ≡ reverse (v ∷ vs) ++ st
pushed_under v vs st = sym (ap (λ xs. xs ++ st) (reverse-append (v ∷ []) vs) ∙ append_assoc (reverse vs) (v ∷ []) st)

-- operations behind a call's event
abbrev behind_event : Callee → ℕ
behind_event (Defined f) = 2
behind_event _ = 1

callee_sum : (f : Callee) → size_of_callee f ≡ suc (behind_event f)
callee_sum (Defined f) = refl
callee_sum (InputOf ty) = refl
callee_sum ReachError = refl
callee_sum Abort = refl
callee_sum Exit = refl

gives_then : {E T A B : Type 0} (Q : B → Type 0) (r : Res E T A) (f : A → T → Res E T B) → ((a : A) (t : T) → Gives Q (f a t)) → Gives Q (bind r f)
gives_then Q (Go a t) f h = h a t
gives_then Q (Stop e t) f h = tt

gives_by : {E T A B : Type 0} (P : A → Type 0) (Q : B → Type 0) (r : Res E T A) (g : A → B) → ((a : A) → P a → Q (g a)) → Gives P r → Gives Q (bind r (λ a t. Go (g a) t))
gives_by P Q (Go a t) g h q = h a q
gives_by P Q (Stop e t) g h q = tt

module _ (p : Program) (c : Code) (S : Type 0) (after : Event → List Cell → S → S) (n : ℕ) where
  -- the values of arguments
  abbrev pub ArgsOf : Around → Exps → State S → Res End (State S) (List (ℤ × IntType))
  ArgsOf at es s = evals p (meaning p c S after) (calls p c S after n) (where_of at) es s

  -- what is called, with these values
  abbrev CalleeOf : Around → Site → Callee → List (ℤ × IntType) → State S → Res End (State S) ℤ
  CalleeOf at site f vs s = called p (meaning p c S after) (calls p c S after n) (where_of at) site f vs s

  -- what is known of arguments
  abbrev pub InArgs : Exps → Type 0
  InArgs NoExp = Unit {0}
  InArgs (MoreExp e es) = Values p c S after n e × InArgs es

  pub counted : (at : Around) (es : Exps) (s : State S) → Gives (λ (vs : List (ℤ × IntType)). length vs ≡ count_of es) (ArgsOf at es s)
  counted at NoExp s = refl
  counted at (MoreExp e es) s =
      gives_then (λ (vs : List (ℤ × IntType)). length vs ≡ suc (count_of es)) (Eval p c S after n at Used e s) (λ v t. bind (ArgsOf at es t) (λ vs w. Go ((v, type_of e) ∷ vs) w))
      (λ v t. gives_by (λ (vs : List (ℤ × IntType)). length vs ≡ count_of es) (λ (vs : List (ℤ × IntType)). length vs ≡ suc (count_of es)) (ArgsOf at es t) (λ vs. (v, type_of e) ∷ vs)
      (λ vs h. ap suc h) (counted at es t))

  -- arguments, whose values go on the stack or not
  abbrev pub Listed : Then → Exps → Type 0
  Listed then es = (at : Around) (i k : ℕ) (κ : Control) (s : State S) → HasCode c i (args_code p at i k then es) → s.steps ≤ n
      → Comes p c S after (standing κ i s) (bind (paying p c S after (paid_by es k) (ArgsOf at es) s)
      (λ vs u. Go (control_at (record κ { stack = stack_behind then vs κ.stack }) (i + size_of_all es)) u))

  listed_none : (then : Then) (κ : Control) (i : ℕ) (s : State S) → stack_behind then [] κ.stack ≡ κ.stack
      → Comes p c S after (standing κ i s) (Go (control_at (record κ { stack = stack_behind then [] κ.stack }) (i + 0)) s)
  listed_none then κ i s e =
      let z : i + 0 ≡ i = omega arith in
      subst (Comes p c S after (standing κ i s)) (sym (ap (λ vs. Go (control_at (record κ { stack = vs }) (i + 0)) s) e ∙ ap (λ j. Go (control_at κ j) s) z))
      (does_nothing c S after (standing κ i s) (control_at κ i) (λ k u y. (y.control ≡ k) × (y.run ≡ u)) (refl, refl))

  -- the first argument, and the ones behind it
  listed_more : (then : Then) (e : Exp) (es : Exps) → Values p c S after n e → Listed then es
      → (push : ℤ → List ℤ → List ℤ) → ((κ : Control) (j : ℕ) (v : ℤ) (u : State S) → goes_to p c S after n κ j (only then) v u ≡ Go (control_at (record κ { stack = push v κ.stack }) j) u)
      → ((v : ℤ) (vs : List (ℤ × IntType)) (st : List ℤ) → stack_behind then vs (push v st) ≡ stack_behind then ((v, type_of e) ∷ vs) st)
      → Listed then (MoreExp e es)
  listed_more then e es ih others push goes under at i k κ s h below =
      let J = i + (size e + size_of_all es) in
      let first = code p at i k Used e then in
      let parts = code_parts c i (size e) first (args_code p at (i + length first) 0 then es) (code_size p at i k Used e then) h in
      let rest = subst (λ l. HasCode c (i + size e) (args_code p at (i + l) 0 then es)) (code_size p at i k Used e then) parts.1 in
      let j : i + size e + size_of_all es ≡ J = omega arith in
      let ends : List (ℤ × IntType) → State S → Res End (State S) Control = λ vs u. Go (control_at (record κ { stack = stack_behind then vs κ.stack }) J) u in
      let more = λ (v : ℤ) (t : State S). bind (ArgsOf at es t) (λ vs w. ends ((v, type_of e) ∷ vs) w) in
      subst (Comes p c S after (standing κ i s))
      (paying_alike p c S after k (λ u. bind (Eval p c S after n at Used e u) more) (λ u. bind (ArgsOf at (MoreExp e es) u) ends) s
      (λ u. bind_alike (Eval p c S after n at Used e u) more (λ v t. bind (bind (ArgsOf at es t) (λ vs w. Go ((v, type_of e) ∷ vs) w)) ends)
      (λ v t. sym (bind_behind (ArgsOf at es t) (λ vs w. Go ((v, type_of e) ∷ vs) w) ends))
      ∙ sym (bind_behind (Eval p c S after n at Used e u) (λ v t. bind (ArgsOf at es t) (λ vs w. Go ((v, type_of e) ∷ vs) w)) ends))
      ∙ sym (paying_behind p c S after k (ArgsOf at (MoreExp e es)) ends s))
      (value_then p c S after n e ih at i k Used then κ s parts.0 below (λ v u. control_at (record κ { stack = push v κ.stack }) (i + size e)) (λ v u. u) (λ v u. goes κ (i + size e) v u) more
      (λ v t d. subst (Comes p c S after (standing (record κ { stack = push v κ.stack }) (i + size e) t))
      (ap (λ l. bind (paying p c S after l (ArgsOf at es) t) (λ vs u. Go (control_at (record κ { stack = stack_behind then vs (push v κ.stack) }) (i + size e + size_of_all es)) u)) (paid_no_step es)
      ∙ bind_alike (ArgsOf at es t) (λ vs u. Go (control_at (record κ { stack = stack_behind then vs (push v κ.stack) }) (i + size e + size_of_all es)) u) (λ vs w. ends ((v, type_of e) ∷ vs) w)
      (λ vs u. ap (λ st. Go (control_at (record κ { stack = st }) (i + size e + size_of_all es)) u) (under v vs κ.stack)
      ∙ ap (λ l. Go (control_at (record κ { stack = stack_behind then ((v, type_of e) ∷ vs) κ.stack }) l) u) j))
      (others at (i + size e) 0 (record κ { stack = push v κ.stack }) t rest d)))

  listed_push : (es : Exps) → InArgs es → Listed Push es
  listed_push NoExp q at i k κ s h below = listed_none Push κ i s refl
  listed_push (MoreExp e es) q at i k κ s h below =
      listed_more Push e es q.0 (listed_push es q.1) (λ v st. v ∷ st) (λ κ j v u. refl) (λ v vs st. pushed_under v (values_of vs) st) at i k κ s h below

  pub listed_drop : (es : Exps) → InArgs es → Listed Drop es
  listed_drop NoExp q at i k κ s h below = listed_none Drop κ i s refl
  listed_drop (MoreExp e es) q at i k κ s h below =
      listed_more Drop e es q.0 (listed_drop es q.1) (λ v st. st) (λ κ j v u. refl) (λ v vs st. refl) at i k κ s h below

  listed : (f : Callee) (es : Exps) → InArgs es → Listed (argument_to f) es
  listed (Defined f) es q = listed_push es q
  listed (InputOf ty) es q = listed_drop es q
  listed ReachError es q = listed_push es q
  listed Abort es q = listed_push es q
  listed Exit es q = listed_push es q

  -- the steps in front of arguments, or of the event where there are none
  call_steps : (es : Exps) (at : Around) (k : ℕ) (s : State S) (f : List (ℤ × IntType) → State S → Res End (State S) Control)
      → bind (paying p c S after (paid_by es k) (ArgsOf at es) s) (λ vs u. paying p c S after (left_by es k) (f vs) u) ≡ paying p c S after k (λ u. bind (ArgsOf at es u) f) s
  call_steps NoExp at k s f = refl
  call_steps (MoreExp e es) at k s f = paying_behind p c S after k (ArgsOf at (MoreExp e es)) f s

  draw_as : (m : DataModel) → m ≡ p.model → (spot : Spot) (ty : IntType) (s : State S)
      → run.draw (record (program_in c) { model = m }) S (seen_by after) InputDraw spot ty s ≡ run.draw p S (seen_by after) InputDraw spot ty s
  draw_as m e spot ty s = ap (λ q. run.draw (record (program_in c) { model = q }) S (seen_by after) InputDraw spot ty s) e

  reached_stops : (q : Property) (at : Where) (site : Site) (s : State S) (f g : ℤ → State S → Res End (State S) Control)
      → bind (run.reached p S (seen_by after) q at site s) f ≡ bind (run.reached p S (seen_by after) q at site s) g
  reached_stops UnreachCall at site s f g = refl
  reached_stops NoOverflow at site s f g = refl

  given_comes : (m : Machine S) (r : Res End (State S) ℤ) (h : ℤ → Control) → Does c S after m r (λ v s y. (y.control ≡ h v) × (y.run ≡ s)) → Comes p c S after m (bind r (λ v u. Go (h v) u))
  given_comes m (Go v s) h d = d
  given_comes m (Stop e s) h d = d

  module _ (model : c.model ≡ p.model) (property : c.property ≡ p.property) (done : CallIsDone p c S after n) where
    defined_comes : (g : Option Function) (f count : ℕ) → slice_get p.functions f ≡ g → (site : CallSite) (vs : List (ℤ × IntType)) (then : Then) (κ : Control) (j : ℕ) (s : State S)
        → HasCode c j (call_op f count site g ∷ give 0 Top then ∷ []) → length vs ≡ count → s.steps ≤ n
        → Comes p c S after (standing (record κ { stack = reverse (values_of vs) ++ κ.stack }) j s) (bind (calls p c S after n (site_of site) f vs s) (goes_to p c S after n κ (j + 2) (only then)))
    defined_comes None f count e site vs then κ j s h l below =
        subst (λ o. Comes p c S after (standing (record κ { stack = reverse (values_of vs) ++ κ.stack }) j s)
        (bind (call_of p (meaning p c S after) (run_in p (meaning p c S after) n) (site_of site) o vs s) (goes_to p c S after n κ (j + 2) (only then)))) (sym e)
        (op_comes p c S after j (op 0 EndHere) (record κ { stack = reverse (values_of vs) ++ κ.stack }) s h.0)
    defined_comes (Some g) f count e site vs then κ j s h l below =
        let m : Machine S = standing (record κ { stack = reverse (values_of vs) ++ κ.stack }) j s in
        let here = subst (λ q. slice_get c.ops j ≡ Some (call_op f q site (Some g))) (sym l) h.0 in
        let z : suc (suc j) ≡ j + 2 = omega arith in
        let back : ℤ → Control = λ v. control_at (record κ { stack = v ∷ κ.stack }) (suc j) in
        comes_then p c S after m (calls p c S after n (site_of site) f vs s) (λ v u. back v) (λ v u. u) (goes_to p c S after n κ (j + 2) (only then))
        (given_comes m (calls p c S after n (site_of site) f vs s) back (done f g e site vs κ.stack m here refl refl below))
        (λ v u d. subst (λ q. Comes p c S after (standing (record κ { stack = v ∷ κ.stack }) (suc j) u) (goes_to p c S after n κ q (only then) v u)) z
        (op_comes p c S after (suc j) (give 0 Top then) (record κ { stack = v ∷ κ.stack }) u h.1.0))

    -- what is called, behind the arguments and the event
    callee_comes : (f : Callee) (at : Around) (spot close : Spot) (want : Use) (ty : Option IntType) (count : ℕ) (vs : List (ℤ × IntType)) (then : Then) (κ : Control) (j : ℕ) (s : State S)
        → HasCode c j (callee_code p at (site_at spot close want ty) count then f) → length vs ≡ count → s.steps ≤ n
        → Comes p c S after (standing (record κ { stack = stack_behind (argument_to f) vs κ.stack }) j s)
        (bind (CalleeOf at (record { spot = spot; close = close; needed = is_used want && is_some ty }) f vs s) (goes_to p c S after n κ (j + behind_event f) (only then)))
    callee_comes (Defined f) at spot close want ty count vs then κ j s h l below = defined_comes (slice_get p.functions f) f count refl (site_at spot close want ty) vs then κ j s h l below
    callee_comes (InputOf to) at spot close want ty count vs then κ j s h l below =
        let z : suc j ≡ j + 1 = omega arith in
        let draw = run.draw p S (seen_by after) InputDraw spot to s in
        let told = λ (v : ℤ) (u : State S). record u { seen = after (Returned close (Some v)) u.cells u.seen } in
        subst (Comes p c S after (standing κ j s))
        (ap (λ r. bind (bind r (λ v u. Go v (told v u))) (goes_to p c S after n κ (suc j) (only then))) (draw_as c.model model spot to s)
        ∙ ap (λ q. bind (bind draw (λ v u. Go v (told v u))) (goes_to p c S after n κ q (only then))) z)
        (op_comes p c S after j (op 0 (Input spot close to (only then))) κ s h.0)
    callee_comes ReachError at spot close want ty count vs then κ j s h l below =
        let k = record κ { stack = reverse (values_of vs) ++ κ.stack } in
        let site : Site = record { spot = spot; close = close; needed = is_used want && is_some ty } in
        subst (Comes p c S after (standing k j s))
        (ap (λ r. bind r (λ _ u. Go (control_at k (suc j)) u)) (reached_as p c S after n property (where_of at) (record { spot = spot; close = spot; needed = Bool.false }) site s refl)
        ∙ reached_stops p.property (where_of at) site s (λ _ u. Go (control_at k (suc j)) u) (goes_to p c S after n κ (j + 1) (only then)))
        (op_comes p c S after j (op 0 (Reach at spot)) k s h.0)
    callee_comes Abort at spot close want ty count vs then κ j s h l below = op_comes p c S after j (op 0 EndHere) (record κ { stack = reverse (values_of vs) ++ κ.stack }) s h.0
    callee_comes Exit at spot close want ty count vs then κ j s h l below = op_comes p c S after j (op 0 EndHere) (record κ { stack = reverse (values_of vs) ++ κ.stack }) s h.0

    pub call_goes : (ty : Option IntType) (f : Callee) (es : Exps) (close : Spot) → InArgs es → (then : Then) → Noded p c S after n ty (Call f es close) (only then)
    call_goes ty f es close q then at i k want spot κ s h below =
        let A = size_of_all es in
        let J = i + (size_of_callee f + A) in
        let F = goes_to p c S after n κ J (only then) in
        let site : Site = record { spot = spot; close = close; needed = is_used want && is_some ty } in
        let args = args_code p at i k (argument_to f) es in
        let parts = code_parts c i A args (op (left_by es k) (Enter close) ∷ callee_code p at (site_at spot close want ty) (count_of es) then f) (args_size p at i k (argument_to f) es) h in
        let entered = λ (u : State S). record u { seen = after (Entered close) u.cells u.seen } in
        let rest = λ (vs : List (ℤ × IntType)) (u : State S). bind (CalleeOf at site f vs (entered u)) F in
        let stacked = λ (vs : List (ℤ × IntType)). record κ { stack = stack_behind (argument_to f) vs κ.stack } in
        let j : suc (i + A) + behind_event f ≡ J = omega (arith, callee_sum f) in
        subst (Comes p c S after (standing κ i s))
        (call_steps es at k s rest
        ∙ paying_alike p c S after k (λ u. bind (ArgsOf at es u) rest) (λ u. bind (NodeOf p c S after n at want spot ty (Call f es close) u) F) s
        (λ u. sym (bind_behind (ArgsOf at es u) (λ vs w. CalleeOf at site f vs (entered w)) F)))
        (comes_on p c S after (λ (vs : List (ℤ × IntType)). length vs ≡ count_of es) (standing κ i s) (paying p c S after (paid_by es k) (ArgsOf at es) s)
        (λ vs u. control_at (stacked vs) (i + A)) (λ vs u. u) (λ vs u. paying p c S after (left_by es k) (rest vs) u)
        (gives_then (λ (vs : List (ℤ × IntType)). length vs ≡ count_of es) (ticks p (meaning p c S after) AStatement (paid_by es k) s) (λ _ u. ArgsOf at es u) (λ _ u. counted at es u))
        (listed f es q at i k κ s parts.0 below)
        (λ vs u l d. comes_then p c S after (standing (stacked vs) (i + A) u) (ticks p (meaning p c S after) AStatement (left_by es k) u)
        (λ _ w. control_at (stacked vs) (suc (i + A))) (λ _ w. entered w) (λ _ w. rest vs w)
        (op_comes p c S after (i + A) (op (left_by es k) (Enter close)) (stacked vs) u parts.1.0)
        (λ _ w b. subst (λ z. Comes p c S after (standing (stacked vs) (suc (i + A)) (entered w)) (bind (CalleeOf at site f vs (entered w)) (goes_to p c S after n κ z (only then)))) j
        (callee_comes f at spot close want ty (count_of es) vs then κ (suc (i + A)) (entered w) parts.1.1 l (omega (arith, b, d, below))))))
