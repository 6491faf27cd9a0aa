-- Operations, one more at a time.
use Rattle.std.proofs.Common.{◌≡◌, inl, inr, ℕ, ◌+◌, List, Ok, Err, refl, ap, ◌∙◌}
use Rattle.c_meaning.specs.declared.run.Event.{Event}
use Rattle.c_meaning.specs.Cells.{Cell}
use Rattle.run_state.specs.declared.machine.Halt.{Halt}
use Rattle.run_state.specs.declared.machine.Halt.TheVariants.{Ends, NoMemory}
use Rattle.flow_code.specs.declared.code.Code.{Code}
use Rattle.flow_laws.specs.Machines.{Machine}
use Rattle.flow_laws.specs.Stepping.{Turn, On, Short, Over, onward, step, steps}
use Rattle.flow_laws.proofs.Reaching.{steps_on}
use Rattle.flow_machine.specs.Runs.{Halts}
use Rattle.flow_machine.specs.Views.{Steps}

module _ (c : Code) (S : Type 0) (after : Event → List Cell → S → S) where
  and_none : (t : Turn S) → onward t (steps c S after 0) ≡ t
  and_none (On m) = refl
  and_none (Short m) = refl
  and_none (Over e s) = refl

  -- one operation more
  pub one_more : (n : ℕ) (m x : Machine S) (t : Turn S) → steps c S after n m ≡ On x → step c S after x ≡ t → steps c S after (n + 1) m ≡ t
  one_more n m x t e h =
      steps_on c S after n 1 m ∙ ap (λ u. onward u (steps c S after 1)) e ∙ ap (λ u. onward u (steps c S after 0)) h ∙ and_none t

  -- an operation that leads on
  pub leads_on : (n : ℕ) (m x y : Machine S) (u : Unit {0}) → steps c S after n m ≡ On x → Steps (Ok u) y (step c S after x) → steps c S after (n + 1) m ≡ On y
  leads_on n m x y u e h = one_more n m x (On y) e h

  -- one that doesn't
  pub leaves_off : (halt : Halt) (n : ℕ) (m x y : Machine S) → steps c S after n m ≡ On x → Steps (Err halt) y (step c S after x) → Halts halt y (λ n. steps c S after n m)
  leaves_off (Ends e) n m x y h (inl g) = (n + 1, inl (one_more n m x (Short y) h g.0, g.1))
  leaves_off (Ends e) n m x y h (inr g) = (n + 1, inr (one_more n m x (Over e y.run) h g))
  leaves_off NoMemory n m x y h g = tt
