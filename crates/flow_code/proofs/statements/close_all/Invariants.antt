use Rattle.std.proofs.Common.{◌≡◌, ◌++◌}
use Rattle.flow_code.specs.Preparing.{all_closed}
use Rattle.flow_code.proofs.statements.close_all.Given as goal

-- so many have ended
abbrev pub invariant-loop-index : goal.invariant-loop-index
invariant-loop-index l = l.ops ≡ l.initial.ops ++ all_closed l.index
