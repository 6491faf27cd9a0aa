use Rattle.std.proofs.Common.{◌≡◌, ◌≤◌, ◌<◌, ℕ, Bool, true, false, length}
use Rattle.check_sequencing.specs.Effects.{AreSound, IsClosedAt, unmarked, wanted}
use Rattle.check_sequencing.proofs.marks.sweep_up.Given as goal

-- while nothing was added, each function visited is closed under the marks
abbrev pub invariant-loop-function : goal.invariant-loop-function
invariant-loop-function l = record {
  length : length l.marks ≡ length l.initial.marks;
  sound : AreSound l.bodies (wanted l.only_changes l.object) l.initial.marks → AreSound l.bodies (wanted l.only_changes l.object) l.marks;
  same : l.is_more ≡ false → l.marks ≡ l.initial.marks;
  closed : l.is_more ≡ false → (k : ℕ) → k < l.function → IsClosedAt l.bodies (wanted l.only_changes l.object) l.initial.marks k;
  no_more : unmarked l.marks ≤ unmarked l.initial.marks;
  fewer : l.is_more ≡ true → unmarked l.marks < unmarked l.initial.marks;
}
