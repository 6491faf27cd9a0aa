use Rattle.std.proofs.Common.{◌≡◌, ◌+◌, ◌*◌, length}
use Rattle.yaml_lines.specs.Chunks.{collected}
use Rattle.wv_yaml.specs.Flow.{flow, flow_pair, entries_of}
use Rattle.yaml_scalars.proofs.TokenSteps.{together}
use Rattle.wv_yaml.proofs.flow.+flow.Given as goal

abbrev pub decreases-flow_of : goal.decreases-flow_of
decreases-flow_of l = 4 * l.depth

abbrev pub decreases-flow_list : goal.decreases-flow_list
decreases-flow_list l = 4 * l.depth + 2

abbrev pub decreases-flow_map : goal.decreases-flow_map
decreases-flow_map l = 4 * l.depth + 2

abbrev pub decreases-flow_pair_of : goal.decreases-flow_pair_of
decreases-flow_pair_of l = 4 * l.depth + 1

abbrev pub invariant-flow_list-loop-left : goal.invariant-flow_list-loop-left
invariant-flow_list-loop-left l = together l.items (collected (flow l.depth) (entries_of l.left)) ≡ collected (flow l.depth) (entries_of l.inner)

abbrev pub decreases-flow_list-loop-left : goal.decreases-flow_list-loop-left
decreases-flow_list-loop-left l = length l.left

abbrev pub invariant-flow_map-loop-left : goal.invariant-flow_map-loop-left
invariant-flow_map-loop-left l = together l.pairs (collected (flow_pair (flow l.depth)) (entries_of l.left)) ≡ collected (flow_pair (flow l.depth)) (entries_of l.inner)

abbrev pub decreases-flow_map-loop-left : goal.decreases-flow_map-loop-left
decreases-flow_map-loop-left l = length l.left
