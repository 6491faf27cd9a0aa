-- Each form of statement, against the definition: from what its parts do, what it does.
use Rattle.std.proofs.Common.{◌≡◌, ℕ, ◌+◌, ◌≤◌, Bool, ℤ, List, length, refl, sym, ◌∙◌, ap, arith, Option, Some, true}
use Rattle.c_core.specs.Tree.{Program, Exp, FirstExp, FirstNames, Stmt, Form, Empty, Do, Return, NoStm, Function, Names}
use Rattle.c_core.specs.Types.{fit}
use Rattle.c_core.specs.declared.number.IntType.{IntType}
use Rattle.c_core.specs.declared.number.Spot.{Spot}
use Rattle.c_meaning.specs.declared.run.Duty.{Duty}
use Rattle.c_meaning.specs.Acts.{Go, Next, Broken, Gave, bind, scoped, given}
use Rattle.c_meaning.specs.Eval.{convert_to}
use Rattle.c_meaning.specs.Exec.{full, full_if, control, while_turn, first, declare, exec, form, execs, body, with_params, call_of}
use Rattle.c_meaning.specs.Havoc.{Stopped}
use Rattle.sym_meaning.specs.Mode.{Mode, Turn, JudgedState, cells_judged, with_cells_judged}
use Rattle.sym_meaning.specs.Judged.{body_of, judged, returned}
use Rattle.c_meaning.specs.Meaning.{AParameter, Used, Unused, Site, Calls}
use Rattle.c_meaning.specs.Objects.{type_of}
use Rattle.sym_state.specs.declared.state.Sym.{Sym}
use Rattle.sym_state.specs.Standing.{IsState}
use Rattle.sym_state.specs.Following.{Follows}
use Rattle.sym_state.proofs.Composed.{follows_as}
use Rattle.sym_flow.specs.Leaving.{Runs}
use Rattle.sym_flow.proofs.Statements.{follows_runs, runs_then, skip_runs}
use Rattle.sym_flow.proofs.Declares.{no_ticks}

module _ (p : Program) (W : Mode) (ds : List Duty) (result : Option IntType) (call : Calls (judged p W)) (may : Bool) where
  abbrev pub Done : ℕ → ℕ → Sym → Sym → Turn → Type 0
  Done n m a b done = Runs ds p result n m a b (λ v. done may)

  -- a statement: its location invariants, and its form
  pub statement_runs : {i j k l : ℕ} {a b c : Sym} (n m : ℕ) (at : Spot) (f : Form) → Follows ds p i j a b (λ v u. Unit {0}) (λ v. W.here at)
      → Done k l b c (form p (judged p W) call result at f) → i + k ≤ n → j + l ≤ m → Done n m a c (exec p (judged p W) call result (Stmt at f))
  statement_runs n m at f x y h q = follows_runs p ds result n m (λ v u. form p (judged p W) call result at f may) x y (λ v u w s. refl) h q

  -- C11 6.8.3
  pub empty_runs : (a : Sym) (at : Spot) → IsState p a → Done 0 0 a a (form p (judged p W) call result at Empty)
  empty_runs a at h = skip_runs p ds result a h

  -- an expression for its effects
  pub then_runs : {S : (ℕ → Bool) → ℤ → Type 0} {i j k l : ℕ} {a b c : Sym} (n m : ℕ) (at : Spot) (e : Exp) (done : Turn) → Follows ds p i j a b S (λ v. full p (judged p W) call at Unused e) → Done k l b c done
      → i + k ≤ n → j + l ≤ m → Done n m a c (full_if p (judged p W) call at (Some e) done)
  then_runs n m at e done x y h q = follows_runs p ds result n m (λ v u. done may) x y (λ v u w s. refl) h q

  pub do_runs : {S : (ℕ → Bool) → ℤ → Type 0} {i j : ℕ} {a b : Sym} (at : Spot) (e : Exp) → Follows ds p i j a b S (λ v. full p (judged p W) call at Unused e) → Done i j a b (form p (judged p W) call result at (Do e))
  do_runs {i = i} {j = j} {b = b} at e x = then_runs i j at e (λ r s. Go Next s) x (skip_runs p ds result b x.fits) (omega arith) (omega arith)

  -- C11 6.8.2
  pub none_run : (a : Sym) → IsState p a → Done 0 0 a a (execs p (judged p W) call result NoStm)
  none_run a h = skip_runs p ds result a h

  -- C11 6.8.5.1: the body's end is the way back to the head
  pub while_runs : {n m : ℕ} {a b : Sym} (at : Spot) (e : Exp) (done : Turn) → Done n m a b (control p (judged p W) call at e (λ r. body_of p W r done) (λ r s. Go Broken s))
      → Done n m a b (while_turn p (judged p W) call at e done)
  while_runs at e done x = x

  -- before the loop of a `for`
  pub first_expression_runs : {S : (ℕ → Bool) → ℤ → Type 0} {i j k l : ℕ} {a b c : Sym} (n m : ℕ) (at : Spot) (e : Exp) (done : Turn) → Follows ds p i j a b S (λ v. full p (judged p W) call at Unused e)
      → Done k l b c done → i + k ≤ n → j + l ≤ m → Done n m a c (first p (judged p W) call at (FirstExp e) done)
  first_expression_runs n m at e done x y h q = then_runs n m at e done x y h q

  pub first_names_run : {i j k l : ℕ} {a b c : Sym} (n m : ℕ) (at : Spot) (ns : Names) (done : Turn) → Done i j a b (declare p (judged p W) call at ns) → Done k l b c done → i + k ≤ n → j + l ≤ m
      → Done n m a c (first p (judged p W) call at (FirstNames ns) done)
  first_names_run n m at ns done x y h q = runs_then p ds result n m x y h q

  -- C11 6.8.6.4p3: the value, converted to the function's result
  pub return_runs : {S : (ℕ → Bool) → ℤ → Type 0} {i j k l : ℕ} {a b c : Sym} (n m : ℕ) (at : Spot) (e : Exp) (to : IntType) (w : (ℕ → Bool) → ℤ) → result ≡ Some to → Follows ds p i j a b S (λ v. full p (judged p W) call at Used e)
      → ((v : ℕ → Bool) (z : ℤ) → S v z → fit p.model to z ≡ w v) → Runs ds p result k l b c (λ v s. Go (Gave (Some (w v))) s) → i + k ≤ n → j + l ≤ m
      → Done n m a c (form p (judged p W) call result at (Return (Some e)))
  return_runs n m at e to w r x fits y h q =
      follows_runs p ds result n m (λ v z s. bind (convert_to p (judged p W) result (type_of e) z s) (λ x s. Go (Gave (Some x)) s)) x y
      (λ v z t s. ap (λ r. bind (convert_to p (judged p W) r (type_of e) z s) (λ x s. Go (Gave (Some x)) s)) r ∙ ap (λ x. Go (Gave (Some x)) s) (fits v z t)) h q

  -- a function's body is no place of an invariant (C11 6.9.1p12)
  pub body_runs : {n m : ℕ} {a b : Sym} (at : Spot) (f : Form) → Done n m a b (form p (judged p W) call result at f) → Done n m a b (body p (judged p W) call result (Stmt at f))
  body_runs at f x = x

module _ (p : Program) (W : Mode) (ds : List Duty) where
  -- C11 6.5.2.2p4: a call of a function that is there
  pub call_follows : {S : (ℕ → Bool) → ℤ → Type 0} {i j : ℕ} {a d : Sym} (run : Function → Turn) (site : Site) (f : Function) (vs : (ℕ → Bool) → List (ℤ × IntType))
      → Follows ds p i j a d S (λ v s. bind (scoped Stopped JudgedState cells_judged with_cells_judged (with_params p (judged p W) f.params (vs v) (run f) true) s) (λ flow. returned p W site (given flow)))
      → Follows ds p i j a d S (λ v. call_of p (judged p W) run site (Some f) (vs v))
  call_follows run site f vs x =
      follows_as p ds x (λ v z q. q)
      (λ v s. ap (λ r. bind r (λ u s. bind (scoped Stopped JudgedState cells_judged with_cells_judged (with_params p (judged p W) f.params (vs v) (run f) true) s) (λ flow. returned p W site (given flow)))) (sym (no_ticks p W AParameter (length f.params) s)))
      (omega arith) (omega arith)
