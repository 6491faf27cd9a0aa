-- Runs under other bounds on the depth of calls and on the turns of loops.
use Rattle.std.specs.Prelude.{◌≡◌, ◌<◌, ℕ, zero, suc, List, [], ◌∷◌}
use Rattle.c_core.specs.Tree.{Function, Program}
use Rattle.c_core.specs.declared.number.Spot.{Spot}
use Rattle.c_meaning.specs.declared.run.End.{End}
use Rattle.c_meaning.specs.declared.run.Choices.{Choices}
use Rattle.c_meaning.specs.Cells.{Cell}
use Rattle.c_meaning.specs.Meaning.{Loop, Meaning}
use Rattle.c_meaning.specs.Acts.{Res, Flow, bind, turned}
use Rattle.c_meaning.specs.Acts as acts
use Rattle.c_meaning.specs.Run as run
use Rattle.c_meaning.specs.Run.{State, Moment, Head, real, cells_of, with_cells, first_state, Whole}
use Rattle.c_meaning.specs.Exec.{run_in, run_main}

-- what was seen, the last first
abbrev pub Seen : Type 0
Seen = List Moment

abbrev pub keep : Moment → Seen → Seen
keep x xs = x ∷ xs

abbrev pub Act : Type 0 → Type 0
Act A = State Seen → Res End (State Seen) A

-- more turns than steps left, for each number of them, and what is done where a bound on turns or on calls is met
pub record Bounds : Type 0 where
  pub turns : ℕ → ℕ
  pub enough : (steps : ℕ) → steps < turns steps
  pub no_turn_left : Act Flow
  pub no_call_left : Act Flow

module _ (p : Program) where
  -- at most n turns of a loop that was reached with these cells
  abbrev pub turns_to : Act Flow → ℕ → Spot → Loop → List Cell → Act Flow → Act Flow
  turns_to over zero at l arrived turn = over
  turns_to over (suc n) at l arrived turn = λ s. bind (run.note p Seen keep (Head at l arrived s.cells) s) (λ _ t. bind (turn t) (turned (turns_to over n at l arrived turn)))

  -- a run's meaning, but for the bounds
  abbrev pub bounded : Bounds → Meaning
  bounded b = record (real p Seen keep) {
    loop = λ at l turn. acts.scoped End (State Seen) cells_of with_cells (λ s. turns_to b.no_turn_left (b.turns s.steps) at l s.cells turn s);
    deep = b.no_call_left;
  }

  -- a body and a whole run are the same with each bound above the steps left
  pub record AreNeverMet : Type 0 where
    pub body : (b : Bounds) (n k : ℕ) (f : Function) (s : State Seen) → s.steps < n → s.steps < k → run_in p (bounded b) k f s ≡ run_in p (real p Seen keep) n f s
    pub run : (b : Bounds) (k : ℕ) (c : Choices) (N : ℕ) → N < k → run_main p (bounded b) k (first_state p Seen [] c N) ≡ Whole p c N
