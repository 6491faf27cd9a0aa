use Rattle.std.proofs.Common.{◌≡◌, ℕ, length}
use Rattle.check_sequencing.specs.Effects.{AreSound, unmarked, wanted}
use Rattle.check_sequencing.proofs.marks.mark_all.Given as goal

abbrev pub invariant-loop-marks : goal.invariant-loop-marks
invariant-loop-marks l = record {
  length : length l.marks ≡ length l.bodies;
  sound : AreSound l.bodies (wanted l.only_changes l.object) l.marks;
}

abbrev pub decreases-loop-marks : goal.decreases-loop-marks
decreases-loop-marks l = unmarked l.marks
