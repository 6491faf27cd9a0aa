use Rattle.std.proofs.Common.{◌≡◌, drop}
use Rattle.yaml_lines.proofs.scan.from_place.Given as goal

abbrev pub invariant-loop-more : goal.invariant-loop-more
invariant-loop-more l = drop l.more l.left ≡ drop l.at l.text

abbrev pub decreases-loop-more : goal.decreases-loop-more
decreases-loop-more l = l.more
