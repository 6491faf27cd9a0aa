use Rattle.std.proofs.Common.{◌≡◌, ◌+◌}
use Rattle.flow_tests.proofs.runs.advance_by.Given as goal

-- what the machine was handed, and what is left of the budget
abbrev pub invariant-loop-part : goal.invariant-loop-part
invariant-loop-part l = l.machine.sum + l.left ≡ l.budget
