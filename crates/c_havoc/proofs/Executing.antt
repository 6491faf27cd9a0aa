-- Statements, part by part.
use Rattle.std.proofs.Common.{◌≡◌, ℕ, suc, ◌+◌, ℤ, Bool, true, cond, not, List, [], ◌∷◌, ◌++◌, drop, Option, Some, None, Err, refl, sym, ap, subst, ◌∙◌}
use Rattle.std.specs.declared.boxed.Box.{Box}
use Rattle.std.specs.declared.alloc.Global.{Global}
use Rattle.c_core.specs.Tree as t
use Rattle.c_core.specs.Tree.{Program, Exp}
use Rattle.c_core.specs.View.{expr_view, exprs_view, rows_view, stmt_view, stmts_view, names_view, init_view, form_view}
use Rattle.c_core.specs.declared.number.IntType.{IntType}
use Rattle.c_core.specs.declared.number.Spot.{Spot}
use Rattle.c_core.specs.declared.tree.Expr.{Expr}
use Rattle.c_core.specs.declared.tree.Declared.{Declared}
use Rattle.c_core.specs.declared.tree.Stmt.{Stmt}
use Rattle.c_core.specs.declared.tree.Row.{Row}
use Rattle.c_core.specs.declared.tree.Form.TheVariants.{If}
use Rattle.c_core.specs.Types.{fit, is_zero}
use Rattle.c_meaning.specs.Cells.{cells_from}
use Rattle.c_meaning.specs.Meaning.{Tick, Used, ACell}
use Rattle.c_meaning.specs.Objects.{size_of_object, columns_of_object, type_of_object}
use Rattle.c_meaning.specs.Acts as acts
use Rattle.c_meaning.specs.Acts.{Res, Go, Stop, bind, go_on}
use Rattle.c_meaning.specs.Duties.{Placed}
use Rattle.c_meaning.specs.Eval.{store}
use Rattle.c_meaning.specs.Exec.{ticks}
use Rattle.c_meaning.specs.Havoc.{Stopped, Left, with_cells_left}
use Rattle.run_state.specs.Interpreting.{same, flow_of, else_part}
use Rattle.run_state.specs.declared.machine.Flow.{Flow}
use Rattle.run_state.specs.declared.machine.Flow.TheVariants.{Next, Broken, Again, Gave}
use Rattle.run_state.proofs.Giving.{bind_on}
use Rattle.havoc_state.specs.Havocking.{Gives, havocked, fulled, decided, executed, formed, sequenced, armed, otherwised, declaring, introduced, initialised, initialised_one, initialised_by, initialised_rows, goes_on}
use Rattle.havoc_state.specs.declared.machine.Halt.{Halt}
use Rattle.havoc_state.specs.declared.machine.Halt.TheVariants.{Ends, NoMemory}
use Rattle.havoc_state.proofs.Declaring.{writing}
use Rattle.havoc_state.proofs.Giving.{halted}

pub view_of_if : (e : Expr) (a : Box Stmt Global) (b : Option (Box Stmt Global)) → form_view (If e a b) ≡ t.If (expr_view e) (stmt_view a.value) (else_part b)
view_of_if e a None = refl
view_of_if e a (Some b) = refl

-- steps don't count
pub free : (p : Program) (I : List Placed) (t : Tick) (n : ℕ) (s : Left) → ticks p (havocked p I) t n s ≡ Go tt s
free p I t ℕ.zero s = refl
free p I t (suc n) s = free p I t n s

abbrev value_of : {E T A : Type 0} → A → Res E T A → A
value_of d (Go a s) = a
value_of d (Stop e s) = d

abbrev state_in : {E T A : Type 0} → T → Res E T A → T
state_in d (Go a s) = s
state_in d (Stop e s) = d

-- a statement that a jump leaves: what stands after it isn't done
pub left_by : (k : Left → Res Stopped Left acts.Flow) (f : Flow) (u : Left) → (f ≡ Next → ⊥) → go_on k (flow_of f) u ≡ Go (flow_of f) u
left_by k Next u h = absurd (h refl)
left_by k Broken u h = refl
left_by k Again u h = refl
left_by k (Gave v) u h = refl

module _ (p : Program) (I : List Placed) (n : ℕ) where
  -- statements in turn
  module _ (w : Option IntType) (body : List Stmt) (i : ℕ) (x : Stmt) (s u : Left) (whole : Res Stopped Left acts.Flow) where
    abbrev behind : Type 0
    behind = drop i body ≡ x ∷ drop (suc i) body

    abbrev left_to_do : Type 0
    left_to_do = sequenced p I n w (stmts_view (drop i body)) s ≡ whole

    next_part : behind → left_to_do → bind (executed p I n w (stmt_view x) s) (go_on (sequenced p I n w (stmts_view (drop (suc i) body)))) ≡ whole
    next_part d l = ap (λ b. sequenced p I n w (stmts_view b) s) (sym d) ∙ l

    pub sequence_halted : (h : Halt) → behind → left_to_do → Gives flow_of (Err h) u (executed p I n w (stmt_view x) s) → Gives flow_of (Err h) u whole
    sequence_halted h d l g =
        subst (Gives flow_of (Err h) u) (next_part d l)
        (halted flow_of flow_of h u (executed p I n w (stmt_view x) s) (go_on (sequenced p I n w (stmts_view (drop (suc i) body)))) g)

    pub sequence_on : behind → left_to_do → executed p I n w (stmt_view x) s ≡ Go acts.Next u → sequenced p I n w (stmts_view (drop (suc i) body)) u ≡ whole
    sequence_on d l g = ap (λ q. bind q (go_on (sequenced p I n w (stmts_view (drop (suc i) body))))) (sym g) ∙ next_part d l

    pub sequence_left : (f : Flow) → behind → left_to_do → executed p I n w (stmt_view x) s ≡ Go (flow_of f) u → (f ≡ Next → ⊥) → whole ≡ Go (flow_of f) u
    sequence_left f d l g k = sym (next_part d l) ∙ ap (λ q. bind q (go_on (sequenced p I n w (stmts_view (drop (suc i) body))))) g ∙ left_by (sequenced p I n w (stmts_view (drop (suc i) body))) f u k

  -- a test, and what it chooses
  outcome : Bool → Left → Res Stopped Left Bool
  outcome b u = Go b u

  taken : (b c : Bool) (u v : Left) (f : Bool → Left → Res Stopped Left acts.Flow) → outcome b u ≡ outcome c v → f b u ≡ f c v
  unfolding outcome
  taken b c u v f e = ap (λ q. f (value_of c q) (state_in v q)) e

  pub control_goes : (r : Res Stopped Left ℤ) (a b : Left → Res Stopped Left acts.Flow) (c : Bool) (u : Left)
      → bind r (λ v x. Go (not (is_zero v)) x) ≡ Go c u → bind r (λ v. cond (not (is_zero v)) a b) ≡ cond c a b u
  unfolding outcome
  control_goes (Go v s) a b c u e = taken (not (is_zero v)) c s u (λ x y. cond x a b y) e
  control_goes (Stop e s) a b c u h = cc

  -- where the test halts, the whole halts
  pub control_halts : (r : Res Stopped Left ℤ) (a b : Left → Res Stopped Left acts.Flow) (h : Halt) (u : Left)
      → Gives same (Err h) u (bind r (λ v x. Go (not (is_zero v)) x)) → Gives flow_of (Err h) u (bind r (λ v. cond (not (is_zero v)) a b))
  control_halts r a b NoMemory u g = tt
  control_halts (Go v s) a b (Ends e) u g = cc
  control_halts (Stop d s) a b (Ends e) u g = ap stopped g
    where
      stopped : Res Stopped Left Bool → Res Stopped Left acts.Flow
      stopped (Go c v) = Go acts.Next v
      stopped (Stop d v) = Stop d v

  -- without a test, as where it holds
  pub untested : (at : Spot) (c : Bool) (s u : Left) (f : Bool → Left → Res Stopped Left acts.Flow) → goes_on p I n at None s ≡ Go c u → f true s ≡ f c u
  unfolding outcome
  untested at c s u f e = taken true c s u f e

  pub chosen : (w : Option IntType) (at : Spot) (e : Exp) (a : t.Stm) (b : t.Else) (c : Bool) (s u : Left)
      → decided p I n at e s ≡ Go c u → formed p I n w at (t.If e a b) s ≡ cond c (armed p I n w a) (otherwised p I n w b) u
  chosen w at e a b c s u h = control_goes (fulled p I n at Used e s) (armed p I n w a) (otherwised p I n w b) c u h

  pub choice_halts : (w : Option IntType) (at : Spot) (e : Exp) (a : t.Stm) (b : t.Else) (s u : Left) (h : Halt)
      → Gives same (Err h) u (decided p I n at e s) → Gives flow_of (Err h) u (formed p I n w at (t.If e a b) s)
  choice_halts w at e a b s u h g = control_halts (fulled p I n at Used e s) (armed p I n w a) (otherwised p I n w b) h u g

  pub initial_stored : (at : Spot) (o i : ℕ) (e : Exp) (from ty : IntType) (v w : ℤ) (s u x : Left)
      → fulled p I n at Used e s ≡ Go v u → ty ≡ type_of_object p o
      → store p (havocked p I) (record { object = o; index = i }) from ty v u ≡ Go w x → initialised_one p I n at o i e s ≡ Go tt x
  initial_stored at o i e from ty v w s u x f g h =
      ap (λ q. bind q (λ y z. bind (store p (havocked p I) (record { object = o; index = i }) from (type_of_object p o) y z) (λ _ a. Go tt a))) f
      ∙ ap (λ q. bind q (λ _ a. Go tt a)) (ap (λ k. store p (havocked p I) (record { object = o; index = i }) from k v u) (sym g) ∙ h)

  -- values of an initializer in turn, from a cell on
  module _ (at : Spot) (o j : ℕ) (es : List Expr) (i : ℕ) (e : Expr) (behind : drop i es ≡ e ∷ drop (suc i) es) (s u : Left) (whole : Res Stopped Left (Unit {0}))
      (rest : initialised_by p I n at o j (exprs_view (drop i es)) s ≡ whole) where
    abbrev values_left : Left → Res Stopped Left (Unit {0})
    values_left = initialised_by p I n at o (suc j) (exprs_view (drop (suc i) es))

    next_value : bind (initialised_one p I n at o j (expr_view e) s) (λ _. values_left) ≡ whole
    next_value =
        bind_on (fulled p I n at Used (expr_view e) s) (λ v x. writing p I o j (fit p.model (type_of_object p o) v) x) (λ _. values_left)
        ∙ ap (λ b. initialised_by p I n at o j (exprs_view b) s) (sym behind) ∙ rest

    pub values_halted : (h : Halt) → Gives same (Err h) u (initialised_one p I n at o j (expr_view e) s) → Gives same (Err h) u whole
    values_halted h g = subst (Gives same (Err h) u) next_value (halted same same h u (initialised_one p I n at o j (expr_view e) s) (λ _. values_left) g)

    pub values_on : initialised_one p I n at o j (expr_view e) s ≡ Go tt u → values_left u ≡ whole
    values_on g = ap (λ q. bind q (λ _. values_left)) (sym g) ∙ next_value

  -- rows of values in turn, from a cell on
  module _ (at : Spot) (o j : ℕ) (rows : List Row) (i : ℕ) (row : Row) (behind : drop i rows ≡ row ∷ drop (suc i) rows) (s u : Left) (whole : Res Stopped Left (Unit {0}))
      (rest : initialised_rows p I n at o j (rows_view (drop i rows)) s ≡ whole) where
    abbrev rows_left : Left → Res Stopped Left (Unit {0})
    rows_left = initialised_rows p I n at o (j + columns_of_object p o) (rows_view (drop (suc i) rows))

    next_row : bind (initialised_by p I n at o j (exprs_view row.values) s) (λ _. rows_left) ≡ whole
    next_row = ap (λ b. initialised_rows p I n at o j (rows_view b) s) (sym behind) ∙ rest

    pub rows_halted : (h : Halt) → Gives same (Err h) u (initialised_by p I n at o j (exprs_view row.values) s) → Gives same (Err h) u whole
    rows_halted h g = subst (Gives same (Err h) u) next_row (halted same same h u (initialised_by p I n at o j (exprs_view row.values) s) (λ _. rows_left) g)

    pub rows_on : initialised_by p I n at o j (exprs_view row.values) s ≡ Go tt u → rows_left u ≡ whole
    rows_on g = ap (λ q. bind q (λ _. rows_left)) (sym g) ∙ next_row

  -- declared names in turn
  module _ (at : Spot) (names : List Declared) (i : ℕ) (x : Declared) (s u : Left) (whole : Res Stopped Left acts.Flow) (behind : drop i names ≡ x ∷ drop (suc i) names)
      (rest : declaring p I n at (names_view (drop i names)) s ≡ whole) where
    abbrev others : Left → Res Stopped Left acts.Flow
    others = declaring p I n at (names_view (drop (suc i) names))

    next_name : bind (introduced p I n at x.spot x.object (init_view x.init) s) (λ _. others) ≡ whole
    next_name =
        sym (ap (λ q. bind q (λ _ v. bind (initialised p I n at x.spot x.object (init_view x.init) (with_cells_left (v.cells ++ cells_from x.object 0 (size_of_object p x.object) []) v)) (λ _. others)))
        (free p I ACell (size_of_object p x.object) s))
        ∙ ap (λ b. declaring p I n at (names_view b) s) (sym behind) ∙ rest

    pub declare_halted : (h : Halt) → Gives same (Err h) u (introduced p I n at x.spot x.object (init_view x.init) s) → Gives flow_of (Err h) u whole
    declare_halted h g = subst (Gives flow_of (Err h) u) next_name (halted same flow_of h u (introduced p I n at x.spot x.object (init_view x.init) s) (λ _. others) g)

    pub declare_on : introduced p I n at x.spot x.object (init_view x.init) s ≡ Go tt u → others u ≡ whole
    declare_on g = ap (λ q. bind q (λ _. others)) (sym g) ∙ next_name
