use Rattle.std.proofs.Common.{refl}
use Rattle.check_sequencing.specs.Effects.{AreMarks, wanted}
use Rattle.check_sequencing.proofs.MarkLaws.{complete}
use Rattle.check_sequencing.proofs.marks.mark_all.Goals as goal

pub returns-clause-marks : goal.returns-clause-marks
returns-clause-marks c = record {
  sound = c.loop-marks-test.ensures.sound c.loop-marks.invariant.sound;
  complete = complete c.args.bodies.now (wanted c.args.only_changes c.args.object) c.sweep_up.new.marks (c.loop-marks-test.ensures.closed refl);
}
