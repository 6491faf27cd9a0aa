use Rattle.c_core.specs.Typing.{is_default}
use Rattle.run_state.proofs.Choosing.{NoneBefore}
use Rattle.run_state.proofs.arms.default_arm.Given as goal

-- none of the arms so far
abbrev pub invariant-loop-number : goal.invariant-loop-number
invariant-loop-number l = NoneBefore is_default l.arms l.number
