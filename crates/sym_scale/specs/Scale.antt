-- What a mode of judged runs adds to the weights of a program's parts, in and-nodes.
use Rattle.std.specs.Prelude.{ℕ, List}
use Rattle.c_core.specs.declared.number.Spot.{Spot}

pub record Scale : Type 0 where
  -- besides its weight, of a statement at a place; of a controlling expression, or the test of `?:`
  pub statement : Spot → ℕ
  pub test : Spot → ℕ
  -- of a call that begins, by its closing parenthesis, and of one that comes back
  pub enters : Spot → ℕ
  pub returns : Spot → ℕ
  -- of a function's body; of an operator that can overflow
  pub body : ℕ
  pub risk : ℕ
  -- of the head of a loop that changes these objects, and how many bits it draws
  pub head : Spot → List ℕ → ℕ
  pub drawn : List ℕ → ℕ
  -- of a turn of a loop besides its parts; of all turns, by what a test costs and what else a turn costs
  pub turn : ℕ
  pub turns : ℕ → ℕ → ℕ
  -- of the parameters of a call that is one too deep, by what they weigh
  pub deep : ℕ → ℕ
