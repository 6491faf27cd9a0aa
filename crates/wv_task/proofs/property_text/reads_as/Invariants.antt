use Rattle.std.proofs.Common.{◌≡◌, length}
use Rattle.wv_task.specs.Tokens as spec
use Rattle.wv_task.proofs.property_text.reads_as.Given as goal

-- what is left reads alike exactly where the whole texts do
abbrev pub invariant-loop-token : goal.invariant-loop-token
invariant-loop-token l = spec.reads_as l.rest l.wanted ≡ spec.reads_as l.fn.text l.fn.formula

abbrev pub decreases-loop-token : goal.decreases-loop-token
decreases-loop-token l = length l.wanted
