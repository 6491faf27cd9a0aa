-- A branch by a controlling expression: its test, and then the one part or the other.
use Rattle.std.proofs.Common.{◌≡◌, ℕ, ◌+◌, ◌≤◌, Bool, true, false, cond, not, ◌&&◌, ◌||◌, ℤ, refl, ap, subst, arith, Option}
use Rattle.c_core.specs.Tree.{Program, Exp, Stm, Else, If}
use Rattle.c_core.specs.Types.{is_zero}
use Rattle.c_core.specs.declared.number.IntType.{IntType}
use Rattle.c_core.specs.declared.number.Spot.{Spot}
use Rattle.c_meaning.specs.Acts.{Res, Go, Stop, Flow, bind, scoped}
use Rattle.c_meaning.specs.Exec.{full, control, exec, otherwise}
use Rattle.c_meaning.specs.Havoc.{Stopped}
use Rattle.c_meaning.specs.declared.run.Event.TheVariants.{Branch}
use Rattle.c_meaning.specs.declared.run.Way.TheVariants.{Truth}
use Rattle.sym_meaning.specs.Mode.{JudgedState, cells_judged, with_cells_judged, Turn, Mode}
use Rattle.sym_meaning.specs.Judged.{judged, tell}
use Rattle.c_meaning.specs.Meaning.{Used}
use Rattle.circuits.specs.declared.net.Bit.{Bit}
use Rattle.circuits.specs.Net.{holds, opposite}
use Rattle.sym_state.specs.declared.state.Sym.{Sym}
use Rattle.sym_state.specs.Standing.{Turned, with_live}
use Rattle.sym_flow.specs.Leaving.{Runs}
use Rattle.sym_flow.proofs.Branching.{arms_run}
use Rattle.sym_flow.proofs.Statements.{follows_runs, runs_as}
use Rattle.sym_eval.specs.Doing.{calls, weight_of_control, bits_of_control, Decides, weight_of, bits_of, ScopeDoes, weight_of_else, bits_of_else, ElseDoes, FormDoes}

-- the test, and what comes by it
at_once : (t : Bool) (A B : JudgedState → Res Stopped JudgedState Flow) (s : JudgedState) → cond t (A s) (B s) ≡ (cond t A B) s
at_once true A B s = refl
at_once false A B s = refl

by_test : (p : Program) (W : Mode) (at : Spot) (r : Res Stopped JudgedState ℤ) (A B : JudgedState → Res Stopped JudgedState Flow)
    → bind (bind r (λ z s. bind (tell p W (Branch at (Truth (not (is_zero z)))) s) (λ u s. Go (not (is_zero z)) s))) (λ t s. cond t (A s) (B s)) ≡ bind r (λ z s. bind (tell p W (Branch at (Truth (not (is_zero z)))) s) (λ u. cond (not (is_zero z)) A B))
by_test p W at (Go z s) A B = at_once (not (is_zero z)) A B _
by_test p W at (Stop e s) A B = refl

module _ (p : Program) (W : Mode) (n : ℕ) (gives : Option IntType) where
  -- C11 6.8.4p2, 6.8.5p4
  pub decides_run : {l x : ℕ} {o a f : Sym} (g m : ℕ) (at : Spot) (e : Exp) (bit : Bit) (A B : Turn) → Decides p W n at e o a bit
      → Runs W.duties p gives l x a f (λ v s. cond (holds v a.net bit) (A true s) (B true s)) → weight_of_control p W n at e + l ≤ g → bits_of_control p W n at e + x ≤ m
      → Runs W.duties p gives g m o f (λ v. control p (judged p W) (calls p W n) at e A B true)
  decides_run g m at e bit A B d r h q =
      runs_as p W.duties gives (follows_runs p W.duties gives g m (λ v t s. cond t (A true s) (B true s)) d.follows r (λ v t e s. ap (λ u. cond u (A true s) (B true s)) e) h q)
      (λ v s. by_test p W at (full p (judged p W) (calls p W n) at Used e s) (A true) (B true)) (omega arith) (omega arith)

  -- C11 6.8.4.1: runs part by the test, do the one arm or the other, and come together again
  pub choose_runs : {o a b c d e f : Sym} (at : Spot) (test : Exp) (arm : Stm) (rest : Else) (bit other : Bit) → Decides p W n at test o a bit → other ≡ opposite bit
      → Turned p 1 0 a b (λ v. with_live (holds v a.net a.live && holds v a.net bit)) → ScopeDoes p W n gives arm b c
      → Turned p 1 0 c d (λ v. with_live (holds v c.net a.live && holds v c.net other)) → ElseDoes p W n gives rest d e
      → Turned p 1 0 e f (λ v. with_live (holds v e.net c.live || holds v e.net e.live)) → FormDoes p W n gives at (If test arm rest) o f
  choose_runs {o} {a} {b} {c} {d} {e} {f} at test arm rest bit other x q n1 one n2 two n3 =
      let n2' : Turned p 1 0 c d (λ v. with_live (holds v c.net a.live && holds v c.net (opposite bit))) = subst (λ z. Turned p 1 0 c d (λ v. with_live (holds v c.net a.live && holds v c.net z))) q n2 in
      decides_run _ _ at test bit (λ may. scoped Stopped JudgedState cells_judged with_cells_judged (exec p (judged p W) (calls p W n) gives arm may)) (otherwise p (judged p W) (calls p W n) gives rest) x
      (arms_run p W.duties gives (3 + (weight_of p W n gives arm + weight_of_else p W n gives rest)) (bits_of p W n gives arm + bits_of_else p W n gives rest) bit x.follows.fits x.bit_in n1 one.runs one.level n2' two.runs two.level n3 (omega arith) (omega arith))
      (omega arith) (omega arith)
