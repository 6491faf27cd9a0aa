-- Statements by their forms, and the statements of a block.
use Rattle.std.proofs.Common.{◌≡◌, ℕ, ◌+◌, ◌*◌, ◌≤◌, ◌<◌, ◌^◌, Bool, true, ℤ, List, [], length, take, get_or, refl, sym, ◌∙◌, ap, subst, arith, Option, Some, None, IsTrue}
use Rattle.c_core.specs.Tree.{Program, Exp, Names, Stm, Stmt, Form, Empty, Do, Declare, Block, If, Break, Continue, Return, Label, Else, OrElse, NoElse, Stms}
use Rattle.c_core.specs.Parts.{type_of as type_if, every_statement, every_statement_else}
use Rattle.c_core.specs.Types.{fit, width_of}
use Rattle.c_core.specs.Typing.{is_typed, has_value, statement_fits}
use Rattle.c_core.specs.View.{expr_view, form_view, stmt_view, stmts_view}
use Rattle.c_core.specs.declared.number.IntType.{IntType}
use Rattle.c_core.specs.declared.number.Spot.{Spot}
use Rattle.c_core.specs.declared.tree.Expr as rust_e
use Rattle.c_core.specs.declared.tree.Form as tree
use Rattle.c_core.specs.declared.tree.Stmt as rust
use Rattle.std.specs.declared.alloc.Global.{Global}
use Rattle.std.specs.declared.boxed.Box.{Box}
use Rattle.c_meaning.specs.Acts.{bind, go_on}
use Rattle.c_meaning.specs.Exec.{exec, execs}
use Rattle.sym_meaning.specs.Mode.{Mode}
use Rattle.sym_meaning.specs.Judged.{judged}
use Rattle.c_meaning.specs.Meaning.{Used, Unused}
use Rattle.c_meaning.specs.Objects.{type_of}
use Rattle.c_meaning.proofs.TypeFacts.{both, neither, no_type}
use Rattle.circuits.specs.declared.net.Bit.{Bit}
use Rattle.circuits.specs.Net.{IsIn}
use Rattle.circuits.specs.Numbers.{typed, AreTyped}
use Rattle.circuits.specs.Outcome.{conversion_cost}
use Rattle.sym_state.specs.declared.state.Sym.{Sym}
use Rattle.sym_state.specs.Standing.{Stand, IsState, Turned}
use Rattle.sym_state.proofs.Nets.{longer_by, in_added}
use Rattle.sym_values.specs.Valuing.{Reckoned}
use Rattle.sym_flow.specs.Ways.{Became, cut_to, leaving, going_again, going_back, giving}
use Rattle.sym_flow.proofs.Bodies.{scoped_runs, scope_level}
use Rattle.sym_flow.proofs.Branching.{quiet_runs}
use Rattle.sym_flow.proofs.Forms.{statement_runs, do_runs, return_runs}
use Rattle.sym_flow.proofs.Leaves.{leave_runs, again_runs, back_runs, give_runs}
use Rattle.sym_flow.proofs.Statements.{runs_then, runs_as, skip_runs}
use Rattle.sym_exprs.proofs.Costs.{conversion_costs}
use Rattle.sym_exprs.proofs.Typed.{has_one}
use Rattle.sym_weight.specs.Views.{else_of}
use Rattle.sym_scale.specs.Cost.{nodes, bits}
use Rattle.sym_eval.specs.Control.{FullReady, FullGives}
use Rattle.sym_eval.specs.Doing.{calls, weight_of_control, bits_of_control, ControlReady, Decides, NamesReady, NamesDo, weight_of, bits_of, Ready, Does, ScopeDoes, form_glue, weight_of_form, bits_of_form, FormReady, FormDoes, ElseReady, ElseDoes, weight_of_block, bits_of_block, BlockReady, BlockDoes}
use Rattle.sym_walk.specs.Hooks.{Begins}
use Rattle.sym_eval.proofs.Stages.{Stage, stage, stage_follows, stage_runs, stage_turned}
use Rattle.sym_eval.proofs.Fulls.{only_one, form_types, full_in, number_as}
use Rattle.sym_eval.proofs.Sequences.{statements_more, statements_within, statement_typed, execs_more}

pub view_of_if : (e : rust_e.Expr) (a : Box rust.Stmt Global) (b : Option (Box rust.Stmt Global)) → form_view (tree.If e a b) ≡ If (expr_view e) (stmt_view a.value) (else_of b)
view_of_if e a None = refl
view_of_if e a (Some b) = refl

module _ (p : Program) (W : Mode) (n : ℕ) (gives : Option IntType) where
  -- ---- a statement: its location invariants, and its form
  abbrev pub Tests : Spot → Sym → Sym → Type 0
  Tests at s m = Begins p W at s m

  pub test_room : {s : Sym} (at : Spot) (f : Form) → Ready p W n gives s (Stmt at f) → length s.net + W.scale.statement at < 2 ^ 27
  test_room at f r = omega (arith, r.room)

  pub form_ready : {s m : Sym} (at : Spot) (f : Form) → Ready p W n gives s (Stmt at f) → Tests at s m → FormReady p W n gives at m f
  form_ready at f r x = record { fits = x.fits; result = x.result ∙ r.result; types = r.types; room = omega (arith, (longer_by x.added).1, r.room) }

  pub statement_does : {s m t : Sym} (at : Spot) (f : Form) → Tests at s m → FormDoes p W n gives at f m t → Does p W n gives (Stmt at f) s t
  statement_does at f x y = statement_runs p W W.duties gives (calls p W n) true (weight_of p W n gives (Stmt at f)) (bits_of p W n gives (Stmt at f)) at f x y (omega arith) (omega arith)

  -- ---- forms without parts
  pub empty_does : (s : Sym) (at : Spot) → IsState p s → FormDoes p W n gives at Empty s s
  empty_does s at h = runs_as p W.duties gives (skip_runs p W.duties gives s h) (λ v t. refl) (omega arith) (omega arith)

  pub break_does : {s t : Sym} (at : Spot) → Became p 1 s t (λ v. leaving) → FormDoes p W n gives at Break s t
  break_does at x = runs_as p W.duties gives (leave_runs p W.duties gives x) (λ v t. refl) (omega arith) (omega arith)

  pub continue_does : {s t : Sym} (at : Spot) → Became p 1 s t (λ v. going_again) → FormDoes p W n gives at Continue s t
  continue_does at x = runs_as p W.duties gives (again_runs p W.duties gives x) (λ v t. refl) (omega arith) (omega arith)

  pub return_does : {s t : Sym} (at : Spot) → FormReady p W n gives at s (Return None) → Became p 1 s t (λ v. going_back) → FormDoes p W n gives at (Return None) s t
  return_does at r x = runs_as p W.duties gives (back_runs p W.duties gives x (sym (no_type gives (form_types p gives at (Return None) r.types).0))) (λ v t. refl) (omega arith) (omega arith)

  pub form_room : {s : Sym} (at : Spot) (f : Form) → FormReady p W n gives at s f → length s.net < 2 ^ 28
  form_room at f r = omega (arith, r.room)

  -- ---- an expression, declared names, a label
  pub only_ready : {s : Sym} (at : Spot) (e : Exp) → FormReady p W n gives at s (Do e) → FullReady p W n s e
  only_ready at e r = record { fits = r.fits; types = only_one (is_typed p) e (form_types p gives at (Do e) r.types).1; room = omega (arith, r.room) }

  pub only_does : {s t : Sym} {bits : List Bit} (at : Spot) (e : Exp) → FullGives p W n at Unused e s t bits → FormDoes p W n gives at (Do e) s t
  only_does at e x = runs_as p W.duties gives (do_runs p W W.duties gives (calls p W n) true at e x.follows) (λ v t. refl) (omega arith) (omega arith)

  pub names_ready : {s : Sym} (at : Spot) (ns : Names) → FormReady p W n gives at s (Declare ns) → NamesReady p W n s ns
  names_ready at ns r = record { fits = r.fits; types = (both (statement_fits p gives (Stmt at (Declare ns))) true r.types).0; room = omega (arith, r.room) }

  pub names_do : {s t : Sym} (at : Spot) (ns : Names) → NamesDo p W n at ns s t → FormDoes p W n gives at (Declare ns) s t
  names_do at ns x = runs_as p W.duties gives (x gives) (λ v t. refl) (omega arith) (omega arith)

  pub label_ready : {s : Sym} (at : Spot) (b : Stm) → FormReady p W n gives at s (Label b) → Ready p W n gives s b
  label_ready at b r = record { fits = r.fits; result = r.result; types = (form_types p gives at (Label b) r.types).2; room = omega (arith, r.room) }

  pub label_does : {s t : Sym} (at : Spot) (b : Stm) → Does p W n gives b s t → FormDoes p W n gives at (Label b) s t
  label_does at b x = runs_as p W.duties gives x (λ v t. refl) (omega arith) (omega arith)

  -- ---- scopes
  pub scope_does : {s m t : Sym} (x : Stm) (k : ℕ) → Ready p W n gives s x → k ≡ length s.cells.items → Does p W n gives x s m → Became p 0 m t (λ v. cut_to k) → ScopeDoes p W n gives x s t
  scope_does {s} {m} {t} x k r e y z =
      let z' : Became p 0 m t (λ v. cut_to (length s.cells.items)) = subst (λ j. Became p 0 m t (λ v. cut_to j)) e z in
      record { runs = scoped_runs p W.duties gives r.fits y z'; level = scope_level p W.duties gives y z' }

  pub block_ready : {s : Sym} (at : Spot) (b : Stms) → FormReady p W n gives at s (Block b) → BlockReady p W n gives s b
  block_ready at b r = record { fits = r.fits; result = r.result; types = (form_types p gives at (Block b) r.types).2; room = omega (arith, r.room) }

  pub block_does : {s m t : Sym} (at : Spot) (b : Stms) (k : ℕ) → FormReady p W n gives at s (Block b) → k ≡ length s.cells.items → BlockDoes p W n gives b s m → Became p 0 m t (λ v. cut_to k) → FormDoes p W n gives at (Block b) s t
  block_does {s} {m} {t} at b k r e y z =
      let z' : Became p 0 m t (λ v. cut_to (length s.cells.items)) = subst (λ j. Became p 0 m t (λ v. cut_to j)) e z in
      runs_as p W.duties gives (scoped_runs p W.duties gives r.fits y z') (λ v u. refl) (omega arith) (omega arith)

  -- ---- the statements of a block
  pub block_none : (s : Sym) → IsState p s → BlockDoes p W n gives (stmts_view []) s s
  block_none s h = skip_runs p W.duties gives s h

  module _ (xs : List rust.Stmt) (k : ℕ) (x : rust.Stmt) (h : k < length xs) (e : x ≡ get_or xs k x) where
    weight_more : weight_of_block p W n gives (stmts_view (take (k + 1) xs)) ≡ weight_of_block p W n gives (stmts_view (take k xs)) + weight_of p W n gives (stmt_view x)
    weight_more = statements_more p (nodes p W.scale n) gives xs k x h ∙ ap (λ z. weight_of_block p W n gives (stmts_view (take k xs)) + weight_of p W n gives (stmt_view z)) (sym e)

    bits_more : bits_of_block p W n gives (stmts_view (take (k + 1) xs)) ≡ bits_of_block p W n gives (stmts_view (take k xs)) + bits_of p W n gives (stmt_view x)
    bits_more = statements_more p (bits p W.scale n) gives xs k x h ∙ ap (λ z. bits_of_block p W n gives (stmts_view (take k xs)) + bits_of p W n gives (stmt_view z)) (sym e)

    weight_within : weight_of_block p W n gives (stmts_view (take (k + 1) xs)) ≤ weight_of_block p W n gives (stmts_view xs)
    weight_within = statements_within p (nodes p W.scale n) gives xs (k + 1)

    bits_within : bits_of_block p W n gives (stmts_view (take (k + 1) xs)) ≤ bits_of_block p W n gives (stmts_view xs)
    bits_within = statements_within p (bits p W.scale n) gives xs (k + 1)

    -- a statement weighs no more than its block
    pub block_part : weight_of p W n gives (stmt_view x) ≤ weight_of_block p W n gives (stmts_view xs)
    block_part = omega (arith, weight_more, weight_within)

    pub block_next : {s m : Sym} → BlockReady p W n gives s (stmts_view xs) → BlockDoes p W n gives (stmts_view (take k xs)) s m → Ready p W n gives m (stmt_view x)
    block_next {s} {m} r y = record {
      fits = y.fits;
      result = y.result ∙ r.result;
      types = subst (λ z. IsTrue (every_statement (statement_fits p gives) (stmt_view z))) (sym e) (statement_typed (statement_fits p gives) xs k x h r.types);
      room = omega (arith, (longer_by y.added).1, weight_more, bits_more, weight_within, bits_within, r.room);
    }

    pub block_more : {s m t : Sym} → BlockDoes p W n gives (stmts_view (take k xs)) s m → Does p W n gives (stmt_view x) m t → BlockDoes p W n gives (stmts_view (take (k + 1) xs)) s t
    block_more {s} {m} {t} y z =
        runs_as p W.duties gives
        (runs_then p W.duties gives (weight_of_block p W n gives (stmts_view (take (k + 1) xs))) (bits_of_block p W n gives (stmts_view (take (k + 1) xs))) y z (omega (arith, weight_more)) (omega (arith, bits_more)))
        (λ v u.
        ap (λ w. bind (execs p (judged p W) (calls p W n) gives (stmts_view (take k xs)) true u) (go_on (exec p (judged p W) (calls p W n) gives (stmt_view w) true))) e ∙ execs_more p W (calls p W n) gives xs k x h u)
        (omega arith) (omega arith)

  -- ---- `else`
  pub else_ready : {s : Sym} (b : Stm) → ElseReady p W n gives s (OrElse b) → Ready p W n gives s b
  else_ready b r = record { fits = r.fits; result = r.result; types = r.types; room = r.room }

  pub else_does : {s t : Sym} (b : Stm) → ScopeDoes p W n gives b s t → ElseDoes p W n gives (OrElse b) s t
  else_does b x = record { runs = x.runs; level = x.level }

  pub no_else : (s : Sym) → IsState p s → ElseDoes p W n gives NoElse s s
  no_else s h = record { runs = skip_runs p W.duties gives s h; level = refl }

  -- ---- `if`
  module _ {o : Sym} (at : Spot) (test : Exp) (yes : Stm) (no : Else) (r : FormReady p W n gives at o (If test yes no)) where
    if_types : IsTrue (has_value test) × IsTrue (is_typed p test) × IsTrue (every_statement (statement_fits p gives) yes) × IsTrue (every_statement_else (statement_fits p gives) no)
    if_types =
        let t = form_types p gives at (If test yes no) r.types in
        let q = both (every_statement (statement_fits p gives) yes) (every_statement_else (statement_fits p gives) no) t.2 in
        (t.0, only_one (is_typed p) test t.1, q.0, q.1)

    pub choice_ready : ControlReady p W n at o test
    choice_ready = record { fits = r.fits; types = if_types.1; value = if_types.0; room = omega (arith, r.room) }

    module _ {a : Sym} {bit : Bit} (x : Decides p W n at test o a bit) where
      abbrev tested_most : ℕ
      tested_most = length o.net + (weight_of_control p W n at test + bits_of_control p W n at test)

      tested_stage : Stage p gives tested_most a
      tested_stage = stage_follows p gives (stage p gives o r.fits r.result) x.follows

      pub first_room : length a.net < 2 ^ 28
      first_room = omega (arith, tested_stage.few, r.room)

      module _ {b : Sym} {f : (ℕ → Bool) → Stand → Stand} (y : Turned p 1 0 a b f) where
        abbrev yes_most : ℕ
        yes_most = tested_most + (1 + 0)

        yes_stage : Stage p gives yes_most b
        yes_stage = stage_turned p gives tested_stage y

        pub yes_ready : Ready p W n gives b yes
        yes_ready = record { fits = yes_stage.fits; result = yes_stage.result; types = if_types.2; room = omega (arith, yes_stage.few, r.room) }

        module _ {c : Sym} (z : ScopeDoes p W n gives yes b c) where
          abbrev done_most : ℕ
          done_most = yes_most + (weight_of p W n gives yes + bits_of p W n gives yes)

          done_stage : Stage p gives done_most c
          done_stage = stage_runs p gives yes_stage z.runs

          pub second_room : length c.net < 2 ^ 28
          second_room = omega (arith, done_stage.few, r.room)

          -- bits of before are bits behind the first arm
          pub still_in : (k : Bit) → IsIn a.net k → IsIn c.net k
          still_in k q = in_added z.runs.added k (in_added y.added k q)

          module _ {d : Sym} {g : (ℕ → Bool) → Stand → Stand} (w : Turned p 1 0 c d g) where
            no_stage : Stage p gives (done_most + (1 + 0)) d
            no_stage = stage_turned p gives done_stage w

            pub no_ready : ElseReady p W n gives d no
            no_ready = record { fits = no_stage.fits; result = no_stage.result; types = if_types.3; room = omega (arith, no_stage.few, r.room) }

            module _ {e : Sym} (u : ElseDoes p W n gives no d e) where
              pub last_room : length e.net < 2 ^ 28
              last_room = omega (arith, (stage_runs p gives no_stage u.runs).few, r.room)

              pub last_in : (k : Bit) → IsIn c.net k → IsIn e.net k
              last_in k q = in_added u.runs.added k (in_added w.added k q)

-- ---- `return` with a value
pub no_value : (p : Program) (W : Mode) (n : ℕ) (at : Spot) (s : Sym) (e : Exp) → FormReady p W n None at s (Return (Some e)) → ⊥
no_value p W n at s e r = neither (form_types p None at (Return (Some e)) r.types).0

module _ (p : Program) (W : Mode) (n : ℕ) (to : IntType) {o : Sym} (at : Spot) (e : Exp) (r : FormReady p W n (Some to) at o (Return (Some e))) where
  value_type : type_if e ≡ Some (type_of e)
  value_type = has_one e (form_types p (Some to) at (Return (Some e)) r.types).0

  pub value_ready : FullReady p W n o e
  value_ready = record { fits = r.fits; types = only_one (is_typed p) e (form_types p (Some to) at (Return (Some e)) r.types).1; room = omega (arith, r.room) }

  module _ {a : Sym} {xs : List Bit} (x : FullGives p W n at Used e o a xs) (from : IntType) (ef : from ≡ type_of e) where
    pub value_in : AreTyped p.model from a.net xs
    value_in = rw ef (full_in p W n at Used e (type_of e) value_type x)

    pub value_room : length a.net < 2 ^ 28
    value_room = omega (arith, (longer_by x.follows.added).1, r.room)

    module _ {b : Sym} {ys : List Bit} (y : Reckoned p (conversion_cost p.model from to) a b to ys (λ v. fit p.model to (typed p.model from v a.net xs))) where
      own : Reckoned p (conversion_cost p.model (type_of e) to) a b to ys (λ v. fit p.model to (typed p.model (type_of e) v a.net xs))
      own = subst (λ k. Reckoned p (conversion_cost p.model k to) a b to ys (λ v. fit p.model to (typed p.model k v a.net xs))) ef y

      pub give_room : length b.net < 2 ^ 27
      give_room = omega (arith, conversion_costs p.model (type_of e) to, (longer_by x.follows.added).1, (longer_by own.turned.added).1, r.room)

      pub give_type : b.result ≡ to
      give_type = y.turned.result ∙ x.follows.result ∙ r.result

      pub give_does : {c : Sym} → Became p (4 * width_of p.model to + 1) b c (λ v. giving (typed p.model to v b.net ys)) → FormDoes p W n (Some to) at (Return (Some e)) o c
      give_does z =
          let w : (ℕ → Bool) → ℤ = λ v. typed p.model to v b.net ys in
          return_runs p W W.duties (Some to) (calls p W n) true (form_glue + weight_of_form p W n (Some to) at (Return (Some e))) (bits_of_form p W n (Some to) at (Return (Some e))) at e to w refl x.follows
          (λ v z q. ap (fit p.model to) (number_as p W n a xs e (type_of e) value_type v z q) ∙ sym (own.is v))
          (quiet_runs p W.duties (Some to) (conversion_cost p.model (type_of e) to + (4 * width_of p.model to + 1)) own.turned (give_runs p W.duties (Some to) to w refl z) (omega arith))
          (omega (arith, conversion_costs p.model (type_of e) to)) (omega arith)
