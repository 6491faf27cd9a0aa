use Rattle.c_meaning.specs.Run.{is_case}
use Rattle.run_state.proofs.Choosing.{NoneBefore}
use Rattle.run_state.proofs.arms.case_arm.Given as goal

-- none of the arms so far
abbrev pub invariant-loop-number : goal.invariant-loop-number
invariant-loop-number l = NoneBefore (is_case l.value) l.arms l.number
