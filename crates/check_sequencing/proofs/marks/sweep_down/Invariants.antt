use Rattle.std.proofs.Common.{◌≡◌, ◌≤◌, length}
use Rattle.check_sequencing.specs.Effects.{AreSound, unmarked, wanted}
use Rattle.check_sequencing.proofs.marks.sweep_down.Given as goal

abbrev pub invariant-loop-function : goal.invariant-loop-function
invariant-loop-function l = record {
  length : length l.marks ≡ length l.initial.marks;
  sound : AreSound l.bodies (wanted l.only_changes l.object) l.initial.marks → AreSound l.bodies (wanted l.only_changes l.object) l.marks;
  no_more : unmarked l.marks ≤ unmarked l.initial.marks;
}
