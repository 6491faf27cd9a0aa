use Rattle.std.proofs.Common.{◌≡◌, [], take, slice_index_or, false}
use Rattle.circuits.specs.Net.{values_from}
use Rattle.circuits.proofs.net.Net.values.Given as goal

abbrev pub invariant-loop-i : goal.invariant-loop-i
invariant-loop-i l = l.values.items ≡ values_from (λ k. slice_index_or l.inputs k false) [] (take l.i l.self)
