-- Statements, part by part.
use Rattle.std.proofs.Common.{◌≡◌, ℕ, suc, ℤ, Bool, true, cond, not, List, [], ◌∷◌, ◌++◌, drop, slice_get, Option, Some, None, Result, Ok, Err, refl, sym, ap, subst, ◌∙◌}
use Rattle.std.specs.declared.boxed.Box.{Box}
use Rattle.std.specs.declared.alloc.Global.{Global}
use Rattle.c_core.specs.Tree as t
use Rattle.c_core.specs.Tree.{Program, Exp}
use Rattle.c_core.specs.View.{expr_view, stmt_view, stmts_view, names_view, init_view, form_view}
use Rattle.c_core.specs.declared.number.IntType.{IntType}
use Rattle.c_core.specs.declared.number.Spot.{Spot}
use Rattle.c_core.specs.declared.tree.Expr.{Expr}
use Rattle.c_core.specs.declared.tree.Declared.{Declared}
use Rattle.c_core.specs.declared.tree.Stmt.{Stmt}
use Rattle.c_core.specs.declared.tree.Form.TheVariants.{If}
use Rattle.c_core.specs.Types.{is_zero}
use Rattle.c_meaning.specs.declared.run.End.{End}
use Rattle.c_meaning.specs.declared.run.Event.{Event}
use Rattle.c_meaning.specs.Cells.{Cell, cells_from}
use Rattle.c_meaning.specs.Meaning.{Used, ACell}
use Rattle.c_meaning.specs.Objects.{size_of_object, type_of_object}
use Rattle.c_meaning.specs.Acts as acts
use Rattle.c_meaning.specs.declared.run.Event.TheVariants.{Branch}
use Rattle.c_meaning.specs.declared.run.Way.TheVariants.{Truth}
use Rattle.c_meaning.specs.Acts.{Res, Go, Stop, bind}
use Rattle.std.proofs.lemmas.List.{append_assoc}
use Rattle.c_meaning.specs.Eval.{store}
use Rattle.c_meaning.specs.Exec.{ticks, run_if}
use Rattle.c_meaning.specs.Run.{State, with_cells}
use Rattle.run_state.specs.Ways as wy
use Rattle.run_state.specs.Ways.{Ran, bound, IsOn}
use Rattle.c_meaning.specs.Watching.{seen_by}
use Rattle.run_state.specs.Interpreting.{Gives, same, flow_of, else_part, watched, ticked, telling, roomed, arrived, branching, fulled, decided, executed, formed, sequenced, armed, otherwised, declaring, introduced, initialised, initialised_one, in_function, in_main, goes_on}
use Rattle.run_state.specs.declared.machine.Halt.{Halt}
use Rattle.run_state.specs.declared.machine.Halt.TheVariants.{Ends, NoMemory}
use Rattle.run_state.specs.declared.machine.Flow.{Flow}
use Rattle.run_state.specs.declared.machine.Flow.TheVariants.{Next, Broken, Again, Gave}
use Rattle.run_state.proofs.Giving.{Behind, halted, passed, went, starts, left_behind, halted_behind, bound_on, bound_alike, is_on_front, is_here}

pub view_of_if : (e : Expr) (a : Box Stmt Global) (b : Option (Box Stmt Global)) → form_view (If e a b) ≡ t.If (expr_view e) (stmt_view a.value) (else_part b)
view_of_if e a None = refl
view_of_if e a (Some b) = refl

abbrev value_of : {E T A : Type 0} → A → Res E T A → A
value_of d (Go a s) = a
value_of d (Stop e s) = d

abbrev state_in : {E T A : Type 0} → T → Res E T A → T
state_in d (Go a s) = s
state_in d (Stop e s) = d

bound_twice : {S A B C D : Type 0} (r : Ran S A) (q : State S → Ran S B) (k : State S → Ran S C) (l : C → State S → Ran S D)
    → bound (bound r (λ _ u. bound (q u) (λ _ v. k v))) l ≡ bound r (λ _ u. bound (q u) (λ _ v. bound (k v) l))
bound_twice r q k l = bound_on r (λ _ u. bound (q u) (λ _ v. k v)) l ∙ bound_alike r _ _ (λ _ u. bound_on (q u) (λ _ v. k v) l)

-- a statement that a jump leaves: what stands after it isn't done
pub left_by : (p : Program) (S : Type 0) (after : Event → List Cell → S → S) (k : State S → Ran S acts.Flow) (f : Flow) (u : State S) → (f ≡ Next → ⊥)
    → (wy.go_on p S (seen_by after) k (flow_of f) u).result ≡ Go (flow_of f) u
left_by p S after k Next u h = absurd (h refl)
left_by p S after k Broken u h = refl
left_by p S after k Again u h = refl
left_by p S after k (Gave v) u h = refl

module _ (p : Program) (S : Type 0) (after : Event → List Cell → S → S) (n : ℕ) where
  -- a statement, after its step and its event
  pub stepped : (w : Option IntType) (spot : Spot) (f : t.Form) (s u v x : State S) (r : Result Flow Halt)
      → Gives same (Ok tt) u (ticked p S after s) → Gives same (Ok tt) v (arrived p S after spot u) → Gives flow_of r x (formed p S after n w spot f v)
      → Gives flow_of r x (executed p S after n w (t.Stmt spot f) s)
  stepped w spot f s u v x r e a g =
      passed same flow_of tt u x (ticked p S after s) (λ _ y. bound (arrived p S after spot y) (λ _. formed p S after n w spot f)) r e
      (passed same flow_of tt v x (arrived p S after spot u) (λ _. formed p S after n w spot f) r a g)

  -- statements in turn
  module _ (w : Option IntType) (body : List Stmt) (i : ℕ) (x : Stmt) (s u : State S) (whole : Ran S acts.Flow) where
    abbrev behind : Type 0
    behind = drop i body ≡ x ∷ drop (suc i) body

    abbrev left_to_do : Type 0
    left_to_do = Behind (sequenced p S after n w (stmts_view (drop i body)) s) whole

    abbrev behind_it : acts.Flow → State S → Ran S acts.Flow
    behind_it = wy.go_on p S (seen_by after) (sequenced p S after n w (stmts_view (drop (suc i) body)))

    next_part : behind → left_to_do → Behind (bound (executed p S after n w (stmt_view x) s) behind_it) whole
    next_part d l = starts _ _ whole (ap (λ b. sequenced p S after n w (stmts_view b) s) (sym d)) l

    pub sequence_halted : (h : Halt) → behind → left_to_do → Gives flow_of (Err h) u (executed p S after n w (stmt_view x) s) → Gives flow_of (Err h) u whole
    sequence_halted h d l g = halted_behind flow_of flow_of h u (executed p S after n w (stmt_view x) s) behind_it whole (next_part d l) g

    pub sequence_on : behind → left_to_do → Gives flow_of (Ok Next) u (executed p S after n w (stmt_view x) s) → Behind (sequenced p S after n w (stmts_view (drop (suc i) body)) u) whole
    sequence_on d l g = left_behind flow_of Next u (executed p S after n w (stmt_view x) s) behind_it whole g (next_part d l)

    pub sequence_left : (f : Flow) → behind → left_to_do → Gives flow_of (Ok f) u (executed p S after n w (stmt_view x) s) → (f ≡ Next → ⊥) → Gives flow_of (Ok f) u whole
    sequence_left f d l g k = sym (left_behind flow_of f u (executed p S after n w (stmt_view x) s) behind_it whole g (next_part d l)).result ∙ left_by p S after (sequenced p S after n w (stmts_view (drop (suc i) body))) f u k

  -- a test, and the statement that it chooses
  outcome : Bool → State S → Res End (State S) Bool
  outcome b u = Go b u

  taken : {A : Type 0} (b c : Bool) (u v : State S) (f : Bool → State S → A) → outcome b u ≡ outcome c v → f b u ≡ f c v
  unfolding outcome
  taken b c u v f e = ap (λ q. f (value_of c q) (state_in v q)) e

  -- what was told, in this state
  abbrev told_in : Spot → ℤ → State S → State S
  told_in spot v s = record s { seen = after (Branch spot (Truth (not (is_zero v)))) s.cells s.seen }

  abbrev chooses : Spot → (State S → Ran S acts.Flow) → (State S → Ran S acts.Flow) → ℤ → State S → Ran S acts.Flow
  chooses spot a b v = wy.branched p S (seen_by after) spot (not (is_zero v)) a b

  goes_by : (spot : Spot) (res : Res End (State S) ℤ) (way : List S) (a b : State S → Ran S acts.Flow) (c : Bool) (u : State S) (q : Result Flow Halt) (v : State S)
      → Gives same (Ok c) u (bound (record { result = res; way = way }) (branching p S after spot)) → Gives flow_of q v (cond c a b u)
      → Gives flow_of q v (bound (record { result = res; way = way }) (chooses spot a b))
  unfolding outcome
  goes_by spot (Go m s) way a b c u q v e g =
      passed same flow_of m s v (record { result = Go m s; way = way }) (chooses spot a b) q refl
      (passed same flow_of tt (told_in spot m s) v (telling p S after (Branch spot (Truth (not (is_zero m)))) s) (λ _. wy.either p S (seen_by after) (not (is_zero m)) a b) q refl
      (subst (Gives flow_of q v) (sym (taken (not (is_zero m)) c (told_in spot m s) u (λ x y. cond x a b y) e)) g))
  goes_by spot (Stop d s) way a b c u q v h g = absurd (cc)

  pub control_goes : (spot : Spot) (r : Ran S ℤ) (a b : State S → Ran S acts.Flow) (c : Bool) (u : State S) (q : Result Flow Halt) (v : State S)
      → Gives same (Ok c) u (bound r (branching p S after spot)) → Gives flow_of q v (cond c a b u) → Gives flow_of q v (bound r (chooses spot a b))
  control_goes spot r a b c u q v e g = goes_by spot r.result r.way a b c u q v e g

  halts_by : (spot : Spot) (res : Res End (State S) ℤ) (way : List S) (a b : State S → Ran S acts.Flow) (h : Halt) (u : State S)
      → Gives same (Err h) u (bound (record { result = res; way = way }) (branching p S after spot)) → Gives flow_of (Err h) u (bound (record { result = res; way = way }) (chooses spot a b))
  halts_by spot (Go m s) way a b NoMemory u g =
      subst (IsOn u.seen) (append_assoc way (s.seen ∷ []) (cond (not (is_zero m)) a b (told_in spot m s)).way) (is_on_front u.seen (way ++ s.seen ∷ []) (cond (not (is_zero m)) a b (told_in spot m s)).way g)
  halts_by spot (Stop d s) way a b NoMemory u g = g
  halts_by spot (Go m s) way a b (Ends e) u g = absurd (cc)
  halts_by spot (Stop d s) way a b (Ends e) u g = ap stopped g
    where
      stopped : Res End (State S) Bool → Res End (State S) acts.Flow
      stopped (Go c v) = Go acts.Next v
      stopped (Stop d v) = Stop d v

  -- where the test halts, the whole halts
  pub control_halts : (spot : Spot) (r : Ran S ℤ) (a b : State S → Ran S acts.Flow) (h : Halt) (u : State S)
      → Gives same (Err h) u (bound r (branching p S after spot)) → Gives flow_of (Err h) u (bound r (chooses spot a b))
  control_halts spot r a b h u g = halts_by spot r.result r.way a b h u g

  -- without a test, as where it holds
  pub untested : (at : Spot) (c : Bool) (s u : State S) (f : Bool → State S → Ran S acts.Flow) → Gives same (Ok c) u (goes_on p S after n at None s) → f true s ≡ f c u
  unfolding outcome
  untested at c s u f e = taken true c s u f e

  pub chosen : (w : Option IntType) (at : Spot) (e : Exp) (a : t.Stm) (b : t.Else) (c : Bool) (s u : State S) (q : Result Flow Halt) (v : State S)
      → Gives same (Ok c) u (decided p S after n at e s) → Gives flow_of q v (cond c (armed p S after n w a) (otherwised p S after n w b) u) → Gives flow_of q v (formed p S after n w at (t.If e a b) s)
  chosen w at e a b c s u q v h g = control_goes at (fulled p S after n at Used e s) (armed p S after n w a) (otherwised p S after n w b) c u q v h g

  pub choice_halts : (w : Option IntType) (at : Spot) (e : Exp) (a : t.Stm) (b : t.Else) (s u : State S) (h : Halt)
      → Gives same (Err h) u (decided p S after n at e s) → Gives flow_of (Err h) u (formed p S after n w at (t.If e a b) s)
  choice_halts w at e a b s u h g = control_halts at (fulled p S after n at Used e s) (armed p S after n w a) (otherwised p S after n w b) h u g

  -- a declared name
  module _ (at spot : Spot) (o : ℕ) (i : t.Init) (k : ℕ) (sized : k ≡ size_of_object p o) (s u : State S) where
    pub introduce_few_steps : (h : Halt) (v : State S) → Gives same (Err h) v (ticks p (watched p S after) ACell k s) → Gives same (Err h) v (introduced p S after n at spot o i s)
    introduce_few_steps h v g = halted same same h v (ticks p (watched p S after) ACell (size_of_object p o) s) _ (subst (λ m. Gives same (Err h) v (ticks p (watched p S after) ACell m s)) sized g)

    pub introduce_no_room : (h : Halt) (v : State S) → Gives same (Ok tt) u (ticks p (watched p S after) ACell k s) → Gives same (Err h) v (roomed p S after k u) → Gives same (Err h) v (introduced p S after n at spot o i s)
    introduce_no_room h v e g =
        passed same same tt u v (ticks p (watched p S after) ACell (size_of_object p o) s) _ (Err h) (subst (λ m. Gives same (Ok tt) u (ticks p (watched p S after) ACell m s)) sized e)
        (halted same same h v (roomed p S after (size_of_object p o) u) _ (subst (λ m. Gives same (Err h) v (roomed p S after m u)) sized g))

    pub introduce_all : (r : Result (Unit {0}) Halt) (v x : State S) → Gives same (Ok tt) u (ticks p (watched p S after) ACell k s) → Gives same (Ok tt) v (roomed p S after k u)
        → Gives same r x (initialised p S after n at spot o i (with_cells (v.cells ++ cells_from o 0 k []) v)) → Gives same r x (introduced p S after n at spot o i s)
    introduce_all r v x e m g =
        passed same same tt u x (ticks p (watched p S after) ACell (size_of_object p o) s) _ r (subst (λ m. Gives same (Ok tt) u (ticks p (watched p S after) ACell m s)) sized e)
        (passed same same tt v x (roomed p S after (size_of_object p o) u) _ r (subst (λ j. Gives same (Ok tt) v (roomed p S after j u)) sized m)
        (passed same same acts.Next (with_cells (v.cells ++ cells_from o 0 (size_of_object p o) []) v) x ((watched p S after).declare o (size_of_object p o) v) (λ _. initialised p S after n at spot o i) r refl
        (subst (λ j. Gives same r x (initialised p S after n at spot o i (with_cells (v.cells ++ cells_from o 0 j []) v))) sized g)))

    -- no memory for its cells
    pub introduce_no_cells : (v x : State S) → Gives same (Ok tt) u (ticks p (watched p S after) ACell k s) → Gives same (Ok tt) v (roomed p S after k u) → x.seen ≡ v.seen
        → Gives same (Err NoMemory) x (introduced p S after n at spot o i s)
    introduce_no_cells v x e m y =
        passed same same tt u x (ticks p (watched p S after) ACell (size_of_object p o) s) _ (Err NoMemory) (subst (λ m. Gives same (Ok tt) u (ticks p (watched p S after) ACell m s)) sized e)
        (passed same same tt v x (roomed p S after (size_of_object p o) u) _ (Err NoMemory) (subst (λ j. Gives same (Ok tt) v (roomed p S after j u)) sized m) (is_here x.seen v.seen _ y))

  pub initial_stored : (at : Spot) (o i : ℕ) (e : Exp) (from ty : IntType) (v w : ℤ) (s u x : State S)
      → Gives same (Ok v) u (fulled p S after n at Used e s) → ty ≡ type_of_object p o
      → Gives same (Ok w) x (store p (watched p S after) (record { object = o; index = i }) from ty v u) → Gives same (Ok tt) x (initialised_one p S after n at o i e s)
  initial_stored at o i e from ty v w s u x f g h =
      went v u (fulled p S after n at Used e s).result _ (Go tt x) f
      (ap (λ q. bind q (λ _ a. Go tt a)) (subst (λ k. (store p (watched p S after) (record { object = o; index = i }) from k v u).result ≡ Go w x) g h))

  -- declared names in turn
  module _ (at : Spot) (names : List Declared) (i : ℕ) (x : Declared) (s u : State S) (whole : Ran S acts.Flow) where
    abbrev names_behind : Type 0
    names_behind = drop i names ≡ x ∷ drop (suc i) names

    abbrev left_to_declare : Type 0
    left_to_declare = Behind (declaring p S after n at (names_view (drop i names)) s) whole

    abbrev other_names : Unit {0} → State S → Ran S acts.Flow
    other_names _ = declaring p S after n at (names_view (drop (suc i) names))

    next_name : names_behind → left_to_declare → Behind (bound (introduced p S after n at x.spot x.object (init_view x.init) s) other_names) whole
    next_name d l =
        starts _ _ whole
        (bound_twice (ticks p (watched p S after) ACell (size_of_object p x.object) s) (roomed p S after (size_of_object p x.object))
        (λ v. bound ((watched p S after).declare x.object (size_of_object p x.object) v) (λ _. initialised p S after n at x.spot x.object (init_view x.init)))
        other_names
        ∙ ap (λ b. declaring p S after n at (names_view b) s) (sym d)) l

    pub declare_halted : (h : Halt) → names_behind → left_to_declare → Gives same (Err h) u (introduced p S after n at x.spot x.object (init_view x.init) s) → Gives flow_of (Err h) u whole
    declare_halted h d l g = halted_behind same flow_of h u (introduced p S after n at x.spot x.object (init_view x.init) s) other_names whole (next_name d l) g

    pub declare_on : names_behind → left_to_declare → Gives same (Ok tt) u (introduced p S after n at x.spot x.object (init_view x.init) s) → Behind (declaring p S after n at (names_view (drop (suc i) names)) u) whole
    declare_on d l g = left_behind same tt u (introduced p S after n at x.spot x.object (init_view x.init) s) other_names whole g (next_name d l)

  -- a function's body, after its step
  pub bodied : (result : Option IntType) (params : List ℕ) (spot : Spot) (f : t.Form) (s u x : State S) (r : Result Flow Halt)
      → Gives same (Ok tt) u (ticked p S after s) → Gives flow_of r x (formed p S after n result spot f u)
      → Gives flow_of r x (in_function p S after (suc n) (record { result = result; params = params; body = t.Stmt spot f }) s)
  bodied result params spot f s u x r e g = passed same flow_of tt u x (ticked p S after s) (λ _. formed p S after n result spot f) r e g

  pub main_is : (f : t.Function) (s : State S) → slice_get p.functions p.main ≡ Some f → in_main p S after n s ≡ in_function p S after n f s
  main_is f s h = ap (λ x. run_if p (watched p S after) n x s) h

  pub no_main : (s : State S) → slice_get p.functions p.main ≡ None → (in_main p S after n s).result ≡ Go acts.Next s
  no_main s h = ap (λ x. (run_if p (watched p S after) n x s).result) h
