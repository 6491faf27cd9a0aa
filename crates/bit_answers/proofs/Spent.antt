-- Where a budget was spent, the net draws.
use Rattle.std.proofs.Common.{ℕ, zero, suc, ◌+◌, ◌-◌, ◌^◌, ◌<◌, ◌≤◌, List, arith}
use Rattle.bit_answers.specs.Deciding.{IsSpentOn}
use Rattle.circuits.specs.declared.net.Bit.{Bit}
use Rattle.circuits.specs.declared.net.NetNode.{NetNode}
use Rattle.circuits.specs.Net.{count_inputs}
use Rattle.clauses.specs.declared.log.SpentAt.{SpentAt}

inputs_real : (N k : ℕ) → 1 ≤ N → N ≤ 2 ^ (k + 1) - 2 → 0 < k
inputs_real N zero some bounded = absurd (omega (arith, some, bounded))
inputs_real N (suc k) some bounded = omega arith

pub spent_draws : (N : ℕ) (net : List NetNode) (b : Bit) (s : SpentAt) → 1 ≤ N → IsSpentOn N net b s → 0 < count_inputs net
spent_draws N net b s some on = inputs_real N (count_inputs net) some on.bounded
