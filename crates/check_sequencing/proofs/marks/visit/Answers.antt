use Rattle.std.proofs.Common.{rules, ◌≡◌, ◌≤◌, ◌<◌, ℕ, Bool, true, false, List, length, slice_set, refl, sym, ap, ◌∙◌, arith}
use Rattle.std.proofs.lemmas.Option.{slice_get_read}
use Rattle.check_sequencing.specs.Effects.{AreSound, IsBody, does_by, unmarked, wanted}
use Rattle.check_sequencing.proofs.MarkLaws.{sound_set, unmarked_set}
use Rattle.check_sequencing.proofs.marks.visit.Goals as goal

its_body : (c : goal.Else-not-does_by) → IsBody c.args.bodies.now c.args.function c.index-bodies-function.result
its_body c = slice_get_read c.args.bodies.now (length c.args.bodies.now) c.args.function c.index-bodies-function.result refl c.requires.function c.index-bodies-function.is

one_less : (c : goal.Else-not-does_by) → unmarked (slice_set c.args.marks.now c.args.function true) < unmarked c.args.marks.now
one_less c = omega (arith, unmarked_set c.args.marks.now c.args.function (omega (arith, c.requires.function, c.requires.length)) c.if-marks-function.false)

pub returns-clause-sound : goal.returns-clause-sound
returns-clause-sound c =
    sound_set c.args.bodies.now (wanted c.args.only_changes c.args.object) c.args.marks.now c.args.function c.index-bodies-function.result (its_body c)
    (ap (does_by c.args.marks.now (wanted c.args.only_changes c.args.object)) (sym c.as_slice.ensures) ∙ sym c.if-not-does_by.ensures)

pub returns-clause-fewer : goal.returns-clause-fewer
returns-clause-fewer c = omega (arith, one_less c)

pub returns-clause-fewer_yet : goal.returns-clause-fewer_yet
returns-clause-fewer_yet c _ = one_less c
