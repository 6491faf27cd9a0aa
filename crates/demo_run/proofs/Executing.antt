-- What the statements of a demo do, by what their expressions evaluate to.
use Rattle.std.proofs.Common.{◌≡◌, ◌+◌, ℕ, suc, ℤ, pos, true, false, cond, not, nat_le, List, [], ◌∷◌, ◌++◌, length, take, Option, refl, ap}
use Rattle.c_core.specs.Types.{fit, is_zero}
use Rattle.c_core.specs.Tree.{Exp, Stm, Stmt, Do, Declare, Block, If, While, NoElse, One, NoName, MoreName, Stms, MoreStm, Program}
use Rattle.c_core.specs.declared.number.DataModel.TheVariants.{Ilp32}
use Rattle.c_core.specs.declared.number.IntType.{IntType}
use Rattle.c_core.specs.declared.number.IntType.TheVariants.{Int}
use Rattle.c_core.specs.declared.number.Spot.{Spot}
use Rattle.c_core.specs.declared.tree.Object.{Object}
use Rattle.c_meaning.specs.declared.run.End.{End}
use Rattle.c_meaning.specs.Acts.{Go, Stop, Flow, Next, Broken}
use Rattle.c_meaning.specs.Acts as acts
use Rattle.c_meaning.specs.Cells.{Cell, put}
use Rattle.c_meaning.specs.Exec.{full, control, exec, execs, while_turn}
use Rattle.c_meaning.specs.Meaning.{Meaning, Used, Unused, Calls, Loop, WhileLoop}
use Rattle.c_meaning.specs.Objects.{type_of_object, size_of_object}
use Rattle.c_meaning.specs.Run.{State, cells_of, with_cells, turns, most_cells}
use Rattle.demo_run.specs.Typed.{main_alone}
use Rattle.demo_run.proofs.LastCell.{key, cell}
use Rattle.demo_run.proofs.States.{Sights, Ran, meaning, state, reached, branched, headed}

module _ (objects : List Object) (body : Stms) where
  abbrev P : Program
  P = main_alone objects body

  abbrev M : Meaning
  M = meaning P

  module _ (call : Calls M) (base : State Sights) (result : Option IntType) where
    -- an expression statement
    pub done : (at : Spot) (e : Exp) (n : ℕ) (v : ℤ) (cs : List Cell) (xs : Sights) (t : State Sights) →
        full P M call at Unused e (state base n cs (reached at cs xs)) ≡ Go v t →
        exec P M call result (Stmt at (Do e)) (state base (suc n) cs xs) ≡ Go Next t
    done at e n v cs xs t h = rw h refl

    -- a block comes to its end
    pub blocked : (at : Spot) (b : Stms) (n : ℕ) (cs : List Cell) (xs : Sights) (t : State Sights) →
        execs P M call result b (state base n cs (reached at cs xs)) ≡ Go Next t →
        exec P M call result (Stmt at (Block b)) (state base (suc n) cs xs) ≡ Go Next (with_cells (take (length cs) t.cells) t)
    blocked at b n cs xs t h = rw h refl

    -- a statement that comes to its end, before others
    pub first_done : (x : Stm) (b : Stms) (s t : State Sights) →
        exec P M call result x s ≡ Go Next t →
        execs P M call result (MoreStm x b) s
        ≡ execs P M call result b t
    first_done x b s t h = rw h refl

    -- a statement in which the run ends
    pub first_stops : (x : Stm) (b : Stms) (s t : State Sights) (e : End) →
        exec P M call result x s ≡ Stop e t →
        execs P M call result (MoreStm x b) s ≡ Stop e t
    first_stops x b s t e h = rw h refl

    -- a test that has this value
    pub decided : (at : Spot) (e : Exp) (a b : State Sights → Ran Flow) (v : ℤ) (s t : State Sights) →
        full P M call at Used e s ≡ Go v t →
        control P M call at e a b s ≡ cond (not (is_zero v)) a b (branched at (not (is_zero v)) t)
    decided at e a b v s t h = rw h refl

    -- an `if` that isn't taken
    pub passed_over : (at : Spot) (e : Exp) (x : Stm) (n : ℕ) (cs : List Cell) (xs : Sights) (t : State Sights) →
        full P M call at Used e (state base n cs (reached at cs xs)) ≡ Go (pos 0) t →
        exec P M call result (Stmt at (If e x NoElse)) (state base (suc n) cs xs) ≡ Go Next (branched at false t)
    passed_over at e x n cs xs t h = rw h refl

    -- an `if` that is taken, and ends the run
    pub taken_stops : (at : Spot) (e : Exp) (x : Stm) (n : ℕ) (cs : List Cell) (xs : Sights) (t u : State Sights) (end : End) →
        full P M call at Used e (state base n cs (reached at cs xs)) ≡ Go (pos 1) t →
        exec P M call result x (branched at true t) ≡ Stop end u →
        exec P M call result (Stmt at (If e x NoElse)) (state base (suc n) cs xs) ≡ Stop end u
    taken_stops at e x n cs xs t u end h k = rw (h, k) refl

    -- a declaration of one initialized object
    pub declared : (at q : Spot) (o : ℕ) (e : Exp) (n : ℕ) (v : ℤ) (cs : List Cell) (xs : Sights) (t : State Sights) →
        size_of_object P o ≡ 1 → type_of_object P o ≡ Int → nat_le (length cs + base.active + 1) most_cells ≡ true →
        full P M call at Used e (state base n (cs ++ cell o (pos 0) ∷ []) (reached at cs xs)) ≡ Go v t →
        exec P M call result (Stmt at (Declare (MoreName q o (One e) NoName))) (state base (suc (suc n)) cs xs)
        ≡ Go Next (with_cells (put (key o) (fit Ilp32 Int v) t.cells) t)
    declared at q o e n v cs xs t one int room h = rw (one, room, h, int) refl

    -- ---- loops

    -- a loop's body comes to its end
    pub continued : (x : Stm) (s t : State Sights) →
        exec P M call result x s ≡ Go Next t →
        acts.continued End (State Sights) cells_of with_cells (exec P M call result x) s
        ≡ Go Next (with_cells (take (length s.cells) t.cells) t)
    continued x s t h = rw h refl

    -- one turn more
    pub turn_goes : (n : ℕ) (at : Spot) (l : Loop) (arrived : List Cell) (turn : State Sights → Ran Flow) (s t : State Sights) → turn (headed at l arrived s) ≡ Go Next t →
        turns P Sights (λ y ys. y ∷ ys) (suc n) at l arrived turn s ≡ turns P Sights (λ y ys. y ∷ ys) n at l arrived turn t
    turn_goes n at l arrived turn s t h = rw h refl

    -- the last turn
    pub turn_leaves : (n : ℕ) (at : Spot) (l : Loop) (arrived : List Cell) (turn : State Sights → Ran Flow) (s t : State Sights) → turn (headed at l arrived s) ≡ Go Broken t →
        turns P Sights (λ y ys. y ∷ ys) (suc n) at l arrived turn s ≡ Go Next t
    turn_leaves n at l arrived turn s t h = rw h refl

    -- a `while` in a scope of its own
    pub looped : (at : Spot) (e : Exp) (x : Stm) (n : ℕ) (cs : List Cell) (xs : Sights) (t : State Sights) →
        turns P Sights (λ y ys. y ∷ ys) (suc n) at (WhileLoop e x) cs
        (while_turn P M call at e (exec P M call result x)) (state base n cs (reached at cs xs))
        ≡ Go Next t →
        exec P M call result (Stmt at (While e x)) (state base (suc n) cs xs) ≡ Go Next (with_cells (take (length cs) t.cells) t)
    looped at e x n cs xs t h = ap (acts.cut End (State Sights) cells_of with_cells (length cs)) h
