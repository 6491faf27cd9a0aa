use Rattle.std.proofs.Common.{◌+◌, ◌*◌, ◌<◌, ◌≤◌, length}
use Rattle.obligations_tests.proofs.conjunction.equal_arguments_have_one_node.Given as goal

abbrev pub invariant-loop-i : goal.invariant-loop-i
invariant-loop-i g l = record {
  a_in : l.a.node < length l.net;
  b_in : l.b.node < length l.net;
  room : length l.net ≤ 4 + 2 * l.i;
}
