-- The run that a watcher sees is the run of the program, and what it saw are its moments.
use Rattle.std.proofs.Common.{◌≡◌, ℕ, ◌-◌, List, [], suc, Result, Ok, Err, OnErr, sym, ap, subst, ◌∙◌}
use Rattle.c_core.specs.Tree.{Program}
use Rattle.c_meaning.specs.declared.run.End.{End}
use Rattle.c_meaning.specs.declared.run.Event.{Event}
use Rattle.c_meaning.specs.declared.run.Choices.{Choices}
use Rattle.c_meaning.specs.declared.run.Run.{Run as GivenRun}
use Rattle.c_meaning.specs.Cells.{Cell}
use Rattle.c_meaning.specs.Acts.{Res, Go, Stop, Flow}
use Rattle.c_meaning.specs.Run as run
use Rattle.c_meaning.specs.Run.{State, Moment}
use Rattle.c_meaning.specs.Watching.{seen_by, seen_after}
use Rattle.c_meaning.specs.Exec.{run_main}
use Rattle.run_state.specs.Ways.{Ran, ways}
use Rattle.run_state.specs.Fronts.{SawFront}
use Rattle.run_state.proofs.Fronting.{Alike, paced_main, seen_of, follows, way_fronts}
use Rattle.run_state.specs.Interpreting.{Gives, EndsAs, flow_of, state_of}
use Rattle.run_state.specs.declared.machine.Machine.{Machine}
use Rattle.run_state.specs.declared.machine.Halt.{Halt}
use Rattle.run_state.specs.declared.machine.Halt.TheVariants.{Ends, NoMemory}
use Rattle.run_state.specs.declared.machine.Flow.{Flow as Left}

-- what holds anyhow, holds of an error
pub on_err : {A E P : Type 0} (r : Result A E) → P → OnErr r P
on_err (Ok a) h = tt
on_err (Err e) h = h

module _ (p : Program) (S : Type 0) (after : Event → List Cell → S → S) (x : S) (c : Choices) (n : ℕ) where
  abbrev watched_ran : Ran S Flow
  watched_ran = run_main p (ways p S (seen_by after)) (suc n) (run.first_state p S x c n)

  -- what is seen of moments, the last first
  abbrev all_seen : List Moment → S
  all_seen = seen_of p S after x c n

  -- a run and what a watcher saw of it
  pub record Watched (r : GivenRun) (seen : S) : Type 0 where
    pub ran : r ≡ run.Run p c n
    pub saw : seen ≡ seen_after after x (run.Moments p c n)

  abbrev equal : Flow → Flow → Type 0
  equal f g = f ≡ g

  matched : (w : Res End (State (List Moment)) Flow) (r : Res End (State S) Flow) → Alike p S (seen_by after) all_seen (follows p S after x c n) equal w r
      → (run.run_of n r ≡ run.run_of n w) × ((run.state_of r).seen ≡ all_seen (run.state_of w).seen)
  matched (Go f s) (Go g t) h = (ap (λ u. run.run_of n (Go g u)) (sym h.1), ap (λ u. u.seen) (sym h.1))
  matched (Go f s) (Stop e t) h = absurd h
  matched (Stop e s) (Go g t) h = absurd h
  matched (Stop e s) (Stop d t) h = (ap (λ u. run.run_of n (Stop d u)) (sym h.1) ∙ ap (λ e. run.run_of n (Stop e s)) (sym h.0), ap (λ u. u.seen) (sym h.1))

  pub is_run : (run.run_of n watched_ran.result ≡ run.Run p c n) × ((run.state_of watched_ran.result).seen ≡ seen_after after x (run.Moments p c n))
  is_run = matched (run.Whole p c n) watched_ran.result (paced_main p S (seen_by after) all_seen (follows p S after x c n) (suc n) (run.first_state p (List Moment) [] c n)).alike

  ends : (o : Result Left Halt) (e : End) (s : State S) → EndsAs o e → Gives flow_of o s watched_ran → (run.run_of n watched_ran.result ≡ record { end = e; steps = n - s.steps; draws = s.draws; unfixed = s.unfixed }) × ((run.state_of watched_ran.result).seen ≡ s.seen)
  ends (Ok f) e s h g = (ap (run.run_of n) g ∙ ap (λ d. record { end = d; steps = n - s.steps; draws = s.draws; unfixed = s.unfixed }) (sym h), ap (λ (r : Res End (State S) Flow). (run.state_of r).seen) g)
  ends (Err (Ends d)) e s h g = (ap (run.run_of n) g ∙ ap (λ d. record { end = d; steps = n - s.steps; draws = s.draws; unfixed = s.unfixed }) (sym h), ap (λ (r : Res End (State S) Flow). (run.state_of r).seen) g)
  ends (Err NoMemory) e s h g = absurd h

  pub watched_outcome : (o : Result Left Halt) (e : End) (s : State S) → EndsAs o e → Gives flow_of o s watched_ran
      → Watched (record { end = e; steps = n - s.steps; draws = s.draws; unfixed = s.unfixed }) s.seen
  watched_outcome o e s h g =
      let d = ends o e s h g in
      record { ran = sym d.0 ∙ is_run.0; saw = sym d.1 ∙ is_run.1 }

  -- where memory was wanting, it saw a front of the run
  pub watched_front : (o : Result Left Halt) (s : State S) → o ≡ Err NoMemory → Gives flow_of o s watched_ran → SawFront after (run.Moments p c n) x s.seen
  watched_front o s e g = way_fronts p S after x c n s.seen (subst (λ r. Gives flow_of r s watched_ran) e g)

  -- whoever watches, the state is the same
  pub watched_from : (m : Machine) → state_of m tt ≡ run.first_state p (Unit {0}) tt c n → state_of m x ≡ run.first_state p S x c n
  watched_from m h = ap (λ (s : State (Unit {0})). record { steps = s.steps; cells = s.cells; active = s.active; choices = s.choices; draws = s.draws; unfixed = s.unfixed; seen = x }) h
