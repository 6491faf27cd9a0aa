-- What calls make ready.
use Rattle.std.specs.Prelude.{◌≡◌, List, ◌++◌}
use Rattle.flow_code.specs.declared.code.Op.{Op}
use Rattle.flow_code.specs.declared.operands.Prepared.{Prepared}
use Rattle.flow_code.specs.declared.operands.Pair.{Pair}
use Rattle.flow_code.specs.Preparing.{Ready, ReadyPair}

-- what a call made ready: its operations behind older ones
pub record IsReady (q : Prepared) (old new : List Op) (r : Ready) : Type 0 where
  pub ops : new ≡ old ++ r.ops
  pub operand : q.operand ≡ r.operand
  pub steps : q.steps ≡ r.steps

-- the same for two operands
pub record AreReady (q : Pair) (old new : List Op) (r : ReadyPair) : Type 0 where
  pub ops : new ≡ old ++ r.ops
  pub left : q.left ≡ r.left
  pub right : q.right ≡ r.right
  pub steps : q.steps ≡ r.steps
