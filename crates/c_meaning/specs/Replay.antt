-- The draws of a run, taken in turn.
use Rattle.std.specs.Prelude.{◌≡◌, ℕ, ℤ, List, map}
use Rattle.c_core.specs.Tree.{Program}
use Rattle.c_meaning.specs.declared.run.Draw.{Draw}
use Rattle.c_meaning.specs.declared.run.Choices.{Choices}
use Rattle.c_meaning.specs.declared.run.Choices.TheVariants.{InTurn}
use Rattle.c_meaning.specs.Run.{Run, Moments}

-- the values of draws, in their order
abbrev pub values_of : List Draw → List ℤ
values_of ds = map (λ d. d.value) ds

-- the choices that give the values of a run's draws, one after the other
abbrev pub drawn_by : Program → Choices → ℕ → Choices
drawn_by p c N = InTurn (values_of (Run p c N).draws)

-- they give the same run, step by step and event by event, and each draw takes a value of them
pub record IsReplayed (p : Program) (c : Choices) (N : ℕ) : Type 0 where
  pub run : Run p (drawn_by p c N) N ≡ record (Run p c N) { unfixed = 0 }
  pub moments : Moments p (drawn_by p c N) N ≡ Moments p c N
