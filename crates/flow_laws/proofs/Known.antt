-- What the simulation of statements takes from that of expressions.
use Rattle.std.proofs.Common.{◌≡◌, ℕ, List}
use Rattle.c_core.specs.Tree.{Program}
use Rattle.c_meaning.specs.declared.run.Event.{Event}
use Rattle.c_meaning.specs.Cells.{Cell}
use Rattle.flow_code.specs.declared.code.Code.{Code}
use Rattle.flow_laws.specs.inside.Simulating.{Evaluated, StoredAs}

-- what is known of expressions: their code does what they mean, where calls are at most n deep and at most n steps are left
pub record Known (p : Program) (c : Code) (S : Type 0) (after : Event → List Cell → S → S) (n : ℕ) : Type 0 where
  pub model : c.model ≡ p.model
  pub evaluated : Evaluated p c S after n
  pub stored : StoredAs p c S after n
