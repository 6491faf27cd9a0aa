-- What a run's budget of steps changes, and how many events its steps give.
use Rattle.std.specs.Prelude.{◌≡◌, ℕ, ◌+◌, ◌*◌, ◌≤◌, List, ◌++◌, length}
use Rattle.c_core.specs.Tree.{Program}
use Rattle.c_meaning.specs.declared.run.Choices.{Choices}
use Rattle.c_meaning.specs.Run.{Run, Moments, Events}

-- the second list begins with the first
abbrev pub Begins : {A : Type 0} → List A → List A → Type 0
Begins {A = A} xs ys = (more : List A) × (ys ≡ xs ++ more)

-- the run with m steps goes on from where the run with n came to its end
pub record Continues (p : Program) (c : Choices) (n m : ℕ) : Type 0 where
  pub moments : Begins (Moments p c n) (Moments p c m)
  pub events : Begins (Events p c n) (Events p c m)
  pub draws : Begins (Run p c n).draws (Run p c m).draws

-- the run with m steps is the run with n, moment by moment
pub record Stays (p : Program) (c : Choices) (n m : ℕ) : Type 0 where
  pub run : Run p c m ≡ Run p c n
  pub moments : Moments p c m ≡ Moments p c n

-- at most three for each step, and Fail
abbrev pub HasFewEvents : Program → Choices → ℕ → Type 0
HasFewEvents p c N = length (Events p c N) ≤ 3 * (Run p c N).steps + 1
