use Rattle.std.proofs.Common.{◌≡◌, ◌++◌, drop}
use Rattle.run_state.specs.Interpreting.{givens_left}
use Rattle.run_state.proofs.choices.left_of_givens.Given as goal

-- what is turned round, and what is left
abbrev pub invariant-loop-given : goal.invariant-loop-given
invariant-loop-given l = givens_left l.left.items ++ drop l.given-index l.givens ≡ l.givens
