-- The run of a program without a step.
use Rattle.std.proofs.Common.{◌≡◌, IsTrue, List, [], ◌∷◌, reverse, Option, Some, None, slice_get, refl}
use Rattle.c_core.specs.Tree.{Stm, Stmt, Function, Program}
use Rattle.c_core.specs.Program.{is_main, IsProgram}
use Rattle.c_core.specs.declared.number.IntType.{IntType}
use Rattle.c_meaning.specs.declared.run.Choices.{Choices}
use Rattle.c_meaning.specs.declared.run.End.TheVariants.{Spent}
use Rattle.c_meaning.specs.declared.run.Run.{Run as GivenRun}
use Rattle.c_meaning.specs.Exec.{body, call_of, run_in, run_if}
use Rattle.c_meaning.specs.Meaning.{Meaning, Calls}
use Rattle.c_meaning.specs.Run.{Moment, Moments, real, state_of, run_of, first_state}
use Rattle.c_meaning.specs.Run as run

module _ (p : Program) (choices : Choices) where
  abbrev kept : Meaning
  kept = real p (List Moment) (λ x xs. x ∷ xs)

  -- no call begins
  abbrev none_deep : Calls kept
  none_deep site g vs = call_of p kept (run_in p kept 0) site (slice_get p.functions g) vs

  -- the run without a step, of which nothing is seen
  abbrev pub at_once : GivenRun
  at_once = record { end = Spent; steps = 0; draws = []; unfixed = 0 }

  body_unseen : (ty : Option IntType) (s : Stm) → reverse (state_of (body p kept none_deep ty s (first_state p (List Moment) [] choices 0))).seen ≡ []
  body_unseen ty (Stmt at x) = refl

  unseen_if : (f : Option Function) → reverse (state_of (run_if p kept 1 f (first_state p (List Moment) [] choices 0))).seen ≡ []
  unseen_if None = refl
  unseen_if (Some f) = body_unseen f.result f.body

  -- without a step nothing is told
  pub nothing_seen : Moments p choices 0 ≡ []
  nothing_seen = unseen_if (slice_get p.functions p.main)

  body_spent : (ty : Option IntType) (s : Stm) → run_of 0 (body p kept none_deep ty s (first_state p (List Moment) [] choices 0)) ≡ at_once
  body_spent ty (Stmt at x) = refl

  spent_if : (f : Option Function) → IsTrue (is_main f) → run_of 0 (run_if p kept 1 f (first_state p (List Moment) [] choices 0)) ≡ at_once
  spent_if None h = absurd (cc)
  spent_if (Some f) h = body_spent f.result f.body

  -- without a step a checked program's run is spent
  pub spent_at_once : IsProgram p → run.Run p choices 0 ≡ at_once
  spent_at_once h = spent_if (slice_get p.functions p.main) h.main
