-- A loop's body, one turn, and the whole.
use Rattle.std.proofs.Common.{◌≡◌, ℕ, ◌+◌, ◌*◌, ◌≤◌, ◌<◌, ◌^◌, ℤ, Bool, true, false, cond, not, ◌&&◌, List, [], ◌∷◌, ◌++◌, length, refl, sym, ◌∙◌, ap, ap₂, subst, arith, Option, Some, None, is_some, IsTrue}
use Rattle.std.specs.List.{list_all}
use Rattle.std.proofs.lemmas.List.Folds.{list_all-append}
use Rattle.c_core.specs.Tree.{Program, Exp, First, NoFirst, FirstExp, FirstNames, Stm, Stmt, Form, While, DoWhile, For}
use Rattle.c_core.specs.Parts.{every_statement, fulls_of_first, exp_if}
use Rattle.c_core.specs.Types.{is_zero}
use Rattle.c_core.specs.Typing.{is_typed, has_value, first_fits, form_fits, statement_fits}
use Rattle.c_core.specs.declared.number.IntType.{IntType}
use Rattle.c_core.specs.declared.number.Spot.{Spot}
use Rattle.c_calls.specs.Loops.{is_loop, loop_of, changed_if}
use Rattle.c_meaning.specs.declared.run.DutyKind.TheVariants.{Entry, Kept as KeptKind}
use Rattle.c_meaning.specs.Acts.{Res, Go, Flow, Next, Broken, Again, Gave, bind, go_on}
use Rattle.c_meaning.specs.Exec.{full, full_if, control, going, first, declare, exec, turn}
use Rattle.c_meaning.specs.Havoc.{Stopped}
use Rattle.c_meaning.specs.declared.run.Event.TheVariants.{Branch}
use Rattle.c_meaning.specs.declared.run.Way.TheVariants.{Truth}
use Rattle.c_meaning.specs.Duties.{Placed, Duties}
use Rattle.sym_meaning.specs.Mode.{JudgedState, Turn, Mode}
use Rattle.sym_meaning.specs.Judged.{judged, tell, body_of}
use Rattle.sym_meaning.specs.Obliging.{test_from, assume_all, redraw, obliging}
use Rattle.c_meaning.specs.Meaning.{Used, Unused, Loop, WhileLoop, DoLoop, ForLoop}
use Rattle.c_meaning.specs.Objects.{size_of_object}
use Rattle.c_meaning.proofs.TypeFacts.{both, neither}
use Rattle.circuits.specs.declared.net.Bit.{Bit}
use Rattle.circuits.specs.declared.net.NetNode.{NetNode}
use Rattle.circuits.specs.Net.{holds, IsIn}
use Rattle.sym_state.specs.declared.state.Sym.{Sym}
use Rattle.sym_state.specs.Standing.{Stand, stand, Added}
use Rattle.sym_state.specs.Following.{Deed, Follows}
use Rattle.sym_state.proofs.Composed.{follows_as}
use Rattle.sym_state.proofs.Nets.{holds_added, in_added, longer_by}
use Rattle.sym_values.specs.Storing.{Ends, end_of}
use Rattle.sym_flow.specs.Drawing as drawn
use Rattle.sym_flow.specs.Leaving.{Runs}
use Rattle.sym_flow.specs.Ways.{Became, cut_to, fresh_again, fresh_broken, behind_body, behind_loop}
use Rattle.sym_flow.proofs.Bodies.{continued_runs, scoped_runs}
use Rattle.sym_flow.proofs.Draws.{after_both}
use Rattle.sym_flow.proofs.Looping.{loop_runs}
use Rattle.sym_flow.proofs.Statements.{runs_then, runs_as, skip_runs}
use Rattle.sym_weight.specs.Table.{bits_of_objects}
use Rattle.sym_weight.specs.Weight.{placed_weight}
use Rattle.sym_eval.specs.Doing.{calls, weight_of, bits_of, weight_of_first, bits_of_first, weight_of_form, Ready, Does, FirstReady, FirstDoes, FormReady, FormDoes}
use Rattle.sym_eval.specs.Control.{TestReady, TestDoes, is_test, is_typed_if, TestIfReady, TestIfDoes, weight_of_step, bits_of_step, StepReady, StepDoes}
use Rattle.sym_eval.specs.Looping.{turn_glue, loop_glue, turn_fits, changed_bits, HeadDoes, BodyReady, BodyDoes, weight_of_turn, bits_of_turn, TurnReady, TurnDoes, weight_of_loop, bits_of_loop, LoopReady, looped, LoopDoes, ForReady, ForDoes}

-- what a call made of a state, told otherwise
pub became_as : {p : Program} {i : ℕ} {a b : Sym} {f : (ℕ → Bool) → Stand → Stand} (g : (ℕ → Bool) → Stand → Stand) → Became p i a b f → ((v : ℕ → Bool) (s : Stand) → f v s ≡ g v s) → Became p i a b g
became_as {p} {a = a} g x e = record { fits = x.fits; added = x.added; result = x.result; is = λ v. x.is v ∙ e v (stand p v a) }

both_true : (a b : Bool) → IsTrue a → IsTrue b → IsTrue (a && b)
both_true true b h k = k
both_true false b h k = neither h

-- the same bits by two names
bits_same : (p : Program) (os : List ℕ) → drawn.bits_of_objects p os ≡ bits_of_objects p os
bits_same p [] = refl
bits_same p (o ∷ os) = ap (λ k. drawn.bits_of_cells p o (size_of_object p o) + k) (bits_same p os)

-- ---- one part behind another, where the definition has the other in its arms
module _ (p : Program) (W : Mode) (n : ℕ) (at : Spot) where
  tested_then : (t : Bool) (K : JudgedState → Res Stopped JudgedState Flow) (s : JudgedState) → bind ((cond {A = JudgedState → Res Stopped JudgedState Flow} t (λ s. Go Next s) (λ s. Go Broken s)) s) (go_on K) ≡ (cond {A = JudgedState → Res Stopped JudgedState Flow} t K (λ s. Go Broken s)) s
  tested_then true K s = refl
  tested_then false K s = refl

  pub control_then : (may : Bool) (e : Exp) (K : Turn) (s : JudgedState)
      → bind (control p (judged p W) (calls p W n) at e (λ may s. Go Next s) (λ may s. Go Broken s) true s) (go_on (K may)) ≡ control p (judged p W) (calls p W n) at e K (λ may s. Go Broken s) may s
  control_then may e K s =
      let r : Res Stopped JudgedState ℤ = full p (judged p W) (calls p W n) at Used e s in
      sym (after_both p r (λ z s. bind (tell p W (Branch at (Truth (not (is_zero z)))) s) (λ u. cond {A = JudgedState → Res Stopped JudgedState Flow} (not (is_zero z)) (λ s. Go Next s) (λ s. Go Broken s))) (go_on (K may)))
      ∙ (λ i. bind r (λ z s. bind (tell p W (Branch at (Truth (not (is_zero z)))) s) (λ u s. tested_then (not (is_zero z)) (K may) s i)))

  pub going_then : (may : Bool) (o : Option Exp) (K : Turn) (s : JudgedState) → bind (going p (judged p W) (calls p W n) at o (λ may s. Go Next s) true s) (go_on (K may)) ≡ going p (judged p W) (calls p W n) at o K may s
  going_then may None K s = refl
  going_then may (Some e) K s = control_then may e K s

  on_then : (f : Flow) (K : JudgedState → Res Stopped JudgedState Flow) (s : JudgedState) → bind (go_on (λ s. Go Next s) f s) (go_on K) ≡ go_on K f s
  on_then Next K s = refl
  on_then Broken K s = refl
  on_then Again K s = refl
  on_then (Gave v) K s = refl

  first_then : (i : First) (K : Turn) (s : JudgedState) → bind (first p (judged p W) (calls p W n) at i (λ may s. Go Next s) true s) (go_on (K true)) ≡ first p (judged p W) (calls p W n) at i K true s
  first_then NoFirst K s = refl
  first_then (FirstExp e) K s = sym (after_both p (full p (judged p W) (calls p W n) at Unused e s) (λ z s. Go Next s) (go_on (K true)))
  first_then (FirstNames ns) K s =
      let r : Res Stopped JudgedState Flow = declare p (judged p W) (calls p W n) at ns true s in
      sym (after_both p r (go_on (λ s. Go Next s)) (go_on (K true))) ∙ (λ i. bind r (λ f s. on_then f (K true) s i))

module _ (p : Program) (W : Mode) (n : ℕ) (gives : Option IntType) where
  -- a bit that was kept is the net's as it was
  module _ {i j : ℕ} {a b c : Sym} {f : (ℕ → Bool) → Stand → Stand} {m : Deed Flow} (kept bit : Bit) (e : kept ≡ bit) (h : IsIn a.net bit) (x : Became p 0 a b f) (y : Runs W.duties p gives i j b c m) where
    pub stays_in : IsIn c.net kept
    stays_in = subst (IsIn c.net) (sym e) (in_added y.added bit (in_added x.added bit h))

    pub kept_holds : (v : ℕ → Bool) → holds v c.net kept ≡ holds v a.net bit
    kept_holds v = ap (holds v c.net) e ∙ holds_added y.added v bit (in_added x.added bit h) ∙ holds_added x.added v bit h

  -- ---- a loop's body
  pub body_starts : {a b : Sym} {x : Stm} → BodyReady p W n gives a x → Became p 0 a b (λ v. fresh_again) → Ready p W n gives b x
  body_starts h x = record { fits = x.fits; result = x.result ∙ h.result; types = h.types; room = omega (arith, h.room, (longer_by x.added).1) }

  pub body_ends : {a b c : Sym} {x : Stm} → BodyReady p W n gives a x → Became p 0 a b (λ v. fresh_again) → Does p W n gives x b c → length c.net < 2 ^ 27
  body_ends h x y = omega (arith, h.room, (longer_by x.added).1, (longer_by y.added).1)

  pub body_does : {a b c d : Sym} {x : Stm} (kept : Bit) (cells : ℕ) → BodyReady p W n gives a x → kept ≡ a.again → cells ≡ length a.cells.items → Became p 0 a b (λ v. fresh_again) → Does p W n gives x b c
      → Became p 1 c d (λ v. behind_body (holds v c.net kept) cells) → BodyDoes p W n gives x a d
  body_does {a} {b} {c} {d} kept cells h ek en x y z =
      runs_as p W.duties gives
      (continued_runs p W.duties gives x y
      (became_as (λ v. behind_body (stand p v a).again (length a.cells.items)) z (λ v s. ap₂ (λ k n. behind_body k n s) (kept_holds kept a.again ek h.fits.again x y v) en)))
      (λ v s. refl) (omega arith) (omega arith)

  -- ---- one turn
  pub while_tests : {at : Spot} {a : Sym} {e : Exp} {x : Stm} → TurnReady p W n gives at a (Some (WhileLoop e x)) → TestReady p W n at a e
  while_tests {e = e} {x = x} h =
      let t = both (is_test p (Some e)) (every_statement (statement_fits p gives) x) h.types in
      let q = both (has_value e) (is_typed p e) t.0 in
      record { fits = h.fits; types = q.1; value = q.0; room = omega (arith, h.room) }

  pub while_goes_on : {a b : Sym} {e : Exp} {x : Stm} (at : Spot) → TurnReady p W n gives at a (Some (WhileLoop e x)) → TestDoes p W n at e a b → BodyReady p W n gives b x
  while_goes_on {e = e} {x = x} at h y =
      let r = y gives in
      record { fits = r.fits; result = r.result ∙ h.result; types = (both (is_test p (Some e)) (every_statement (statement_fits p gives) x) h.types).1; room = omega (arith, h.room, (longer_by r.added).1) }

  pub while_does : {a b c : Sym} (at : Spot) (e : Exp) (x : Stm) → TestDoes p W n at e a b → BodyDoes p W n gives x b c → TurnDoes p W n gives at (Some (WhileLoop e x)) a c
  while_does at e x y z =
      let l : Option Loop = Some (WhileLoop e x) in
      runs_as p W.duties gives (runs_then p W.duties gives (turn_glue + weight_of_turn p W n gives at l) (bits_of_turn p W n gives at l) (y gives) z (omega arith) (omega arith))
      (λ v s. control_then p W n at true e (λ may. body_of p W may (exec p (judged p W) (calls p W n) gives x)) s) (omega arith) (omega arith)

  pub do_starts : {at : Spot} {a : Sym} {e : Exp} {x : Stm} → TurnReady p W n gives at a (Some (DoLoop x e)) → BodyReady p W n gives a x
  do_starts {e = e} {x = x} h = record { fits = h.fits; result = h.result; types = (both (is_test p (Some e)) (every_statement (statement_fits p gives) x) h.types).1; room = omega (arith, h.room) }

  pub do_tests : {at : Spot} {a b : Sym} {e : Exp} {x : Stm} → TurnReady p W n gives at a (Some (DoLoop x e)) → BodyDoes p W n gives x a b → TestReady p W n at b e
  do_tests {e = e} {x = x} h y =
      let t = both (is_test p (Some e)) (every_statement (statement_fits p gives) x) h.types in
      let q = both (has_value e) (is_typed p e) t.0 in
      record { fits = y.fits; types = q.1; value = q.0; room = omega (arith, h.room, (longer_by y.added).1) }

  pub do_does : {a b c : Sym} (at : Spot) (e : Exp) (x : Stm) → BodyDoes p W n gives x a b → TestDoes p W n at e b c → TurnDoes p W n gives at (Some (DoLoop x e)) a c
  do_does at e x y z =
      let l : Option Loop = Some (DoLoop x e) in
      runs_as p W.duties gives (runs_then p W.duties gives (turn_glue + weight_of_turn p W n gives at l) (bits_of_turn p W n gives at l) y (z gives) (omega arith) (omega arith)) (λ v s. refl) (omega arith) (omega arith)

  pub for_tests : {at : Spot} {a : Sym} {e s : Option Exp} {x : Stm} → TurnReady p W n gives at a (Some (ForLoop e s x)) → TestIfReady p W n at a e
  for_tests {e = e} {s = s} {x = x} h = record { fits = h.fits; types = (both (is_test p e) (is_typed_if p s && every_statement (statement_fits p gives) x) h.types).0; room = omega (arith, h.room) }

  pub for_goes_on : {a b : Sym} {e s : Option Exp} {x : Stm} (at : Spot) → TurnReady p W n gives at a (Some (ForLoop e s x)) → TestIfDoes p W n at e a b → BodyReady p W n gives b x
  for_goes_on {e = e} {s = s} {x = x} at h y =
      let r = y gives in
      let t = both (is_test p e) (is_typed_if p s && every_statement (statement_fits p gives) x) h.types in
      record { fits = r.fits; result = r.result ∙ h.result; types = (both (is_typed_if p s) (every_statement (statement_fits p gives) x) t.1).1; room = omega (arith, h.room, (longer_by r.added).1) }

  pub for_steps : {a b c : Sym} {e s : Option Exp} {x : Stm} (at : Spot) → TurnReady p W n gives at a (Some (ForLoop e s x)) → TestIfDoes p W n at e a b → BodyDoes p W n gives x b c → StepReady p W n c s
  for_steps {e = e} {s = s} {x = x} at h y z =
      let r = y gives in
      let t = both (is_test p e) (is_typed_if p s && every_statement (statement_fits p gives) x) h.types in
      record { fits = z.fits; types = (both (is_typed_if p s) (every_statement (statement_fits p gives) x) t.1).0; room = omega (arith, h.room, (longer_by r.added).1, (longer_by z.added).1) }

  pub for_turn_does : {a b c d : Sym} (at : Spot) (e s : Option Exp) (x : Stm) → TestIfDoes p W n at e a b → BodyDoes p W n gives x b c → StepDoes p W n at s c d → TurnDoes p W n gives at (Some (ForLoop e s x)) a d
  for_turn_does at e s x y z w =
      let l : Option Loop = Some (ForLoop e s x) in
      let body : Turn = λ may. body_of p W may (exec p (judged p W) (calls p W n) gives x) in
      let step : Turn = full_if p (judged p W) (calls p W n) at s (λ may s. Go Next s) in
      let rest = runs_then p W.duties gives (1 + weight_of p W n gives x + weight_of_step p W n s) (bits_of p W n gives x + bits_of_step p W n s) z (w gives) (omega arith) (omega arith) in
      runs_as p W.duties gives (runs_then p W.duties gives (turn_glue + weight_of_turn p W n gives at l) (bits_of_turn p W n gives at l) (y gives) rest (omega arith) (omega arith))
      (λ v t. going_then p W n at true e (λ may t. bind (body may t) (go_on (step may))) t) (omega arith) (omega arith)

  -- where there is no loop
  pub no_turn : {a : Sym} (at : Spot) → TurnReady p W n gives at a None → TurnDoes p W n gives at None a a
  no_turn {a} at h = runs_as p W.duties gives (skip_runs p W.duties gives a h.fits) (λ v s. refl) (omega arith) (omega arith)

  -- ---- a `for`
  pub for_starts : {a : Sym} (at : Spot) (i : First) (l : Option Loop) → ForReady p W n gives at a i l → FirstReady p W n a i
  for_starts at i l h = record { fits = h.fits; types = h.first_types; room = omega (arith, h.room) }

  pub for_arrives : {a b : Sym} (at : Spot) (i : First) (l : Option Loop) → ForReady p W n gives at a i l → FirstDoes p W n at i a b → LoopReady p W n gives at b l
  for_arrives at i l h y = let r = y gives in record { fits = r.fits; result = r.result ∙ h.result; is = h.is; types = h.types; room = omega (arith, h.room, (longer_by r.added).1) }

  pub for_does : {a b c d : Sym} (at : Spot) (i : First) (l : Option Loop) (cells : ℕ) → ForReady p W n gives at a i l → FirstDoes p W n at i a b → LoopDoes p W n gives at l b c → cells ≡ length a.cells.items
      → Became p 0 c d (λ v. cut_to cells) → ForDoes p W n gives at i l a d
  for_does {a = a} at i l cells h y z en w =
      let whole = runs_then p W.duties gives (loop_glue + (weight_of_first p W n i + weight_of_loop p W n gives at l)) (bits_of_first p W n i + bits_of_loop p W n gives at l) (y gives) z (omega arith) (omega arith) in
      scoped_runs p W.duties gives h.fits (runs_as p W.duties gives whole (λ v s. first_then p W n at i (λ may. looped p W n gives at l) s) (omega arith) (omega arith))
      (became_as (λ v. cut_to (length a.cells.items)) w (λ v s. ap (λ k. cut_to k s) en))

  -- ---- what is typed of a statement that is a loop
  one_typed : (e : Exp) → IsTrue (list_all (is_typed p) (e ∷ [])) → IsTrue (is_typed p e)
  one_typed e h = (both (is_typed p e) true h).0

  typed_if : (o : Option Exp) → IsTrue (list_all (is_typed p) (exp_if o)) → IsTrue (is_typed_if p o)
  typed_if None h = refl
  typed_if (Some e) h = one_typed e h

  test_types : (i : First) (o s : Option Exp) (b : Stm) → IsTrue (form_fits p gives (For i o s b)) → IsTrue (is_typed_if p o) → IsTrue (first_fits p i) × IsTrue (is_test p o)
  test_types i None s b h t = (h, refl)
  test_types i (Some e) s b h t = let q = both (first_fits p i) (has_value e) h in (q.0, both_true (has_value e) (is_typed p e) q.1 t)

  for_types : (at : Spot) (i : First) (o s : Option Exp) (b : Stm) → IsTrue (every_statement (statement_fits p gives) (Stmt at (For i o s b)))
      → IsTrue (first_fits p i && list_all (is_typed p) (fulls_of_first i)) × IsTrue (turn_fits p gives (Some (ForLoop o s b)))
  for_types at i o s b h =
      let body = every_statement (statement_fits p gives) b in
      let front = fulls_of_first i ++ exp_if o in
      let w = both (statement_fits p gives (Stmt at (For i o s b))) body h in
      let q = both (form_fits p gives (For i o s b)) (list_all (is_typed p) (front ++ exp_if s)) w.0 in
      let f = both (list_all (is_typed p) front) (list_all (is_typed p) (exp_if s)) (subst IsTrue (list_all-append (is_typed p) front (exp_if s)) q.1) in
      let r = both (list_all (is_typed p) (fulls_of_first i)) (list_all (is_typed p) (exp_if o)) (subst IsTrue (list_all-append (is_typed p) (fulls_of_first i) (exp_if o)) f.0) in
      let t = test_types i o s b q.0 (typed_if o r.1) in (
        both_true (first_fits p i) (list_all (is_typed p) (fulls_of_first i)) t.0 r.0,
        both_true (is_test p o) (is_typed_if p s && body) t.1 (both_true (is_typed_if p s) body (typed_if s f.1) w.1),
      )

  loop_types : (at : Spot) (f : Form) → IsTrue (is_loop f) → IsTrue (every_statement (statement_fits p gives) (Stmt at f)) → IsTrue (turn_fits p gives (loop_of f))
  loop_types at (While e b) h t =
      let body = every_statement (statement_fits p gives) b in
      let w = both (statement_fits p gives (Stmt at (While e b))) body t in
      let q = both (has_value e) (list_all (is_typed p) (e ∷ [])) w.0 in
      both_true (has_value e && is_typed p e) body (both_true (has_value e) (is_typed p e) q.0 (one_typed e q.1)) w.1
  loop_types at (DoWhile b e) h t =
      let body = every_statement (statement_fits p gives) b in
      let w = both (statement_fits p gives (Stmt at (DoWhile b e))) body t in
      let q = both (has_value e) (list_all (is_typed p) (e ∷ [])) w.0 in
      both_true (has_value e && is_typed p e) body (both_true (has_value e) (is_typed p e) q.0 (one_typed e q.1)) w.1
  loop_types at (For i o s b) h t = (for_types at i o s b t).1
  loop_types at f h t = neither h

  -- ---- statements that are loops
  pub for_ready : {a : Sym} (at : Spot) (i : First) (o s : Option Exp) (b : Stm) → FormReady p W n gives at a (For i o s b) → ForReady p W n gives at a i (Some (ForLoop o s b))
  for_ready at i o s b h = let t = for_types at i o s b h.types in record { fits = h.fits; result = h.result; is = refl; first_types = t.0; types = t.1; room = omega (arith, h.room) }

  pub for_form : {a b : Sym} (at : Spot) (i : First) (o s : Option Exp) (x : Stm) → ForDoes p W n gives at i (Some (ForLoop o s x)) a b → FormDoes p W n gives at (For i o s x) a b
  for_form at i o s x y = runs_as p W.duties gives y (λ v s. refl) (omega arith) (omega arith)

  loop_room : {a : Sym} (at : Spot) (f : Form) → IsTrue (is_loop f) → FormReady p W n gives at a f → length a.net + (loop_glue + (weight_of_loop p W n gives at (loop_of f) + bits_of_loop p W n gives at (loop_of f))) < 2 ^ 27
  loop_room at (While e b) h r = omega (arith, r.room)
  loop_room at (DoWhile b e) h r = omega (arith, r.room)
  loop_room at (For i o s b) h r = omega (arith, r.room)
  loop_room at f h r = neither h

  loop_is : (f : Form) → IsTrue (is_loop f) → IsTrue (is_some (loop_of f))
  loop_is (While e b) h = refl
  loop_is (DoWhile b e) h = refl
  loop_is (For i o s b) h = refl
  loop_is f h = neither h

  pub loop_ready : {a : Sym} (at : Spot) (f : Form) → IsTrue (is_loop f) → FormReady p W n gives at a f → LoopReady p W n gives at a (loop_of f)
  loop_ready at f h r = record { fits = r.fits; result = r.result; is = loop_is f h; types = loop_types at f h r.types; room = loop_room at f h r }

  -- a loop weighs no more than its statement
  pub loop_within : (at : Spot) (f : Form) → IsTrue (is_loop f) → weight_of_loop p W n gives at (loop_of f) ≤ weight_of_form p W n gives at f
  loop_within at (While e b) h = omega arith
  loop_within at (DoWhile b e) h = omega arith
  loop_within at (For i o s b) h = omega arith
  loop_within at f h = neither h

  pub for_within : (at : Spot) (i : First) (o s : Option Exp) (b : Stm) (f : Form) → f ≡ For i o s b → weight_of_first p W n i + weight_of_loop p W n gives at (loop_of f) ≤ weight_of_form p W n gives at f
  for_within at i o s b f e = subst (λ f. weight_of_first p W n i + weight_of_loop p W n gives at (loop_of f) ≤ weight_of_form p W n gives at f) (sym e) (omega arith)

  pub while_form : {a b : Sym} (at : Spot) (e : Exp) (x : Stm) → LoopDoes p W n gives at (Some (WhileLoop e x)) a b → FormDoes p W n gives at (While e x) a b
  while_form at e x y = runs_as p W.duties gives y (λ v s. refl) (omega arith) (omega arith)

  pub do_form : {a b : Sym} (at : Spot) (e : Exp) (x : Stm) → LoopDoes p W n gives at (Some (DoLoop x e)) a b → FormDoes p W n gives at (DoWhile x e) a b
  do_form at e x y = runs_as p W.duties gives y (λ v s. refl) (omega arith) (omega arith)

-- ---- the whole, in the mode of obligations
module _ (p : Program) (I : List Placed) (n : ℕ) (gives : Option IntType) where
  abbrev W : Mode
  W = obliging p I

  -- the one turn costs no more than the loop
  pub turn_within : (at : Spot) (l : Option Loop) → weight_of_turn p W n gives at l ≤ weight_of_loop p W n gives at l
  turn_within at l = omega arith

  pub head_room : {a b : Sym} (at : Spot) (l : Option Loop) → LoopReady p W n gives at a l → Became p 0 a b (λ v. fresh_broken) → length b.net + (2 * placed_weight p I true at + 5 * changed_bits p l) < 2 ^ 27
  head_room at l h x = omega (arith, h.room, (longer_by x.added).1)

  -- how long the net is behind the head
  head_longer : {b c : Sym} (at : Spot) (l : Option Loop) → HeadDoes p I at l b c → length c.net ≤ length b.net + (2 * placed_weight p I true at + 5 * changed_bits p l)
  head_longer at l h = omega (arith, (longer_by h.entry.added).1, (longer_by h.draws.added).1, (longer_by h.assumed.added).1)

  pub turn_starts : {a b c : Sym} (at : Spot) (l : Option Loop) → LoopReady p W n gives at a l → Became p 0 a b (λ v. fresh_broken) → HeadDoes p I at l b c → TurnReady p W n gives at c l
  turn_starts at l h x y = record {
    fits = y.assumed.fits;
    result = y.assumed.result ∙ y.draws.result ∙ y.entry.result ∙ x.result ∙ h.result;
    types = h.types;
    room = omega (arith, h.room, (longer_by x.added).1, head_longer at l y);
  }

  -- back at the head
  pub head_room_again : {a b c d : Sym} (at : Spot) (l : Option Loop) → LoopReady p W n gives at a l → Became p 0 a b (λ v. fresh_broken) → HeadDoes p I at l b c → TurnDoes p W n gives at l c d → length d.net + placed_weight p I true at + 2 < 2 ^ 27
  head_room_again at l h x y z = omega (arith, h.room, (longer_by x.added).1, head_longer at l y, (longer_by z.added).1)

  module _ {a b c d e f : Sym} (at : Spot) (l : Option Loop) (h : LoopReady p W n gives at a l) (x : Became p 0 a b (λ v. fresh_broken)) (y : HeadDoes p I at l b c) (z : TurnDoes p W n gives at l c d)
      (t : Follows W.duties p (placed_weight p I true at) 0 d e (λ v u. Unit {0}) (λ v. test_from p I 0 I true at KeptKind)) (u : Ends p W 1 e f (end_of p W)) (kept : Bit) (ek : kept ≡ a.broken) where
    -- the bit of the loop around is the net's as it was
    outer_in : IsIn f.net a.broken
    outer_in = in_added u.added a.broken (in_added t.added a.broken (in_added z.added a.broken (in_added y.assumed.added a.broken (in_added y.draws.added a.broken (in_added y.entry.added a.broken (in_added x.added a.broken h.fits.broken))))))

    pub outer_kept : IsIn f.net kept
    outer_kept = subst (IsIn f.net) (sym ek) outer_in

    outer_holds : (v : ℕ → Bool) → holds v f.net kept ≡ holds v a.net a.broken
    outer_holds v =
        let i1 = in_added x.added a.broken h.fits.broken in
        let i2 = in_added y.entry.added a.broken i1 in
        let i3 = in_added y.draws.added a.broken i2 in
        let i4 = in_added y.assumed.added a.broken i3 in
        let i5 = in_added z.added a.broken i4 in
        let i6 = in_added t.added a.broken i5 in
        ap (holds v f.net) ek ∙ holds_added u.added v a.broken i6 ∙ holds_added t.added v a.broken i5 ∙ holds_added z.added v a.broken i4 ∙ holds_added y.assumed.added v a.broken i3
        ∙ holds_added y.draws.added v a.broken i2 ∙ holds_added y.entry.added v a.broken i1 ∙ holds_added x.added v a.broken h.fits.broken

    -- runs at the head again end, and those that left the loop go on behind it
    pub loop_ends : {g : Sym} (cells : ℕ) → cells ≡ length a.cells.items → Became p 1 f g (λ v. behind_loop (holds v f.net kept) cells) → Became p 1 f g (λ v. behind_loop (stand p v a).broken (length a.cells.items))
    loop_ends cells en w = became_as (λ v. behind_loop (stand p v a).broken (length a.cells.items)) w (λ v s. ap₂ (λ k n. behind_loop k n s) (outer_holds v) en)

  pub loop_does : {a b c d e f g : Sym} (at : Spot) (l : Option Loop) → LoopReady p W n gives at a l → Became p 0 a b (λ v. fresh_broken) → HeadDoes p I at l b c → TurnDoes p W n gives at l c d
      → Follows W.duties p (placed_weight p I true at) 0 d e (λ v u. Unit {0}) (λ v. test_from p I 0 I true at KeptKind) → Ends p W 1 e f (end_of p W)
      → Became p 1 f g (λ v. behind_loop (stand p v a).broken (length a.cells.items)) → LoopDoes p W n gives at l a g
  loop_does at None h x y z t u w = neither h.is
  loop_does at (Some l) h x y z t u w =
      loop_runs p W.duties gives I (loop_glue + weight_of_loop p W n gives at (Some l)) (bits_of_loop p W n gives at (Some l)) at l (turn p (judged p W) (calls p W n) gives at l true) x y.entry y.draws y.assumed z t u w (omega arith) (omega arith)

-- ---- a loop's head
pub head_does : {a b c d : Sym} (p : Program) (I : List Placed) (at : Spot) (l : Option Loop) (os : List ℕ) → os ≡ changed_if p l
    → Follows (Duties p I) p (placed_weight p I true at) 0 a b (λ v u. Unit {0}) (λ v. test_from p I 0 I true at Entry)
    → Follows (Duties p I) p (4 * drawn.bits_of_objects p os) (drawn.bits_of_objects p os) b c (λ v u. Unit {0}) (λ v. redraw p I at os)
    → Follows (Duties p I) p (placed_weight p I true at) 0 c d (λ v u. Unit {0}) (λ v. assume_all p I I at) → HeadDoes p I at l a d
head_does {b = b} {c = c} p I at l os e x y z =
    let y' = subst (λ z. Follows (Duties p I) p (4 * drawn.bits_of_objects p z) (drawn.bits_of_objects p z) b c (λ v u. Unit {0}) (λ v. redraw p I at z)) e y in
    record {
      arrived = b;
      redrawn = c;
      entry = x;
      draws = follows_as p (Duties p I) y' (λ v u t. t) (λ v s. refl) (omega (arith, bits_same p (changed_if p l))) (omega (arith, bits_same p (changed_if p l)));
      assumed = z;
    }

changed_as : (p : Program) (l : Option Loop) (os : List ℕ) → os ≡ changed_if p l → drawn.bits_of_objects p os ≡ changed_bits p l
changed_as p l os e = ap (drawn.bits_of_objects p) e ∙ bits_same p (changed_if p l)

-- there is room for the draws
pub draws_room : (p : Program) (w : ℕ) (l : Option Loop) (os : List ℕ) → os ≡ changed_if p l → (a b : List NetNode) → Added w 0 a b → length a + (2 * w + 5 * changed_bits p l) < 2 ^ 27 → length b + 5 * drawn.bits_of_objects p os < 2 ^ 27
draws_room p w l os e a b x room = omega (arith, changed_as p l os e, (longer_by x).1, room)

-- and behind them for the invariants once more
pub assumed_room : (p : Program) (w : ℕ) (l : Option Loop) (os : List ℕ) → os ≡ changed_if p l → (a b c : List NetNode) → Added w 0 a b → Added (4 * drawn.bits_of_objects p os) (drawn.bits_of_objects p os) b c
    → length a + (2 * w + 5 * changed_bits p l) < 2 ^ 27 → length c + w < 2 ^ 27
assumed_room p w l os e a b c x y room = omega (arith, changed_as p l os e, (longer_by x).1, (longer_by y).1, room)
