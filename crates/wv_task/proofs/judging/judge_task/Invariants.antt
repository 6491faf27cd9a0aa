use Rattle.std.proofs.Common.{◌≡◌, drop}
use Rattle.wv_task.specs.Task.{entries_met}
use Rattle.wv_task.proofs.judging.judge_task.Given as goal

-- what is left is judged as the whole is
abbrev pub invariant-loop-entry : goal.invariant-loop-entry
invariant-loop-entry l =
    entries_met l.digest l.property l.first_model (drop l.entry-index l.entries) ≡ entries_met l.digest l.property l.first_model l.entries
