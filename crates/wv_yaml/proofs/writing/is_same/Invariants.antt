use Rattle.std.proofs.Common.{length, ◌≡◌}
use Rattle.wv_yaml.specs.Canon.{bytes_are}
use Rattle.wv_yaml.proofs.writing.is_same.Given as goal

abbrev pub invariant-loop-left : goal.invariant-loop-left
invariant-loop-left l = bytes_are l.left l.right ≡ bytes_are l.fn.left l.fn.right

abbrev pub decreases-loop-left : goal.decreases-loop-left
decreases-loop-left l = length l.left
