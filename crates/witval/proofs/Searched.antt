-- The output where values are sought is the output that the files call for.
use Rattle.std.proofs.Common.{ℕ, List, Result, Ok, Err, IfOk, sym, subst}
use Rattle.c_core.specs.Tree as t
use Rattle.c_core.specs.View.{program_view}
use Rattle.seek_answer.specs.declared.answering.Sought.{Sought}
use Rattle.seek_answer.specs.declared.answering.Sought.TheVariants as sought
use Rattle.way_match.specs.Points.{BoundSegment}
use Rattle.way_match.specs.View.{segments_view}
use Rattle.wv_arguments.specs.Words.{Command}
use Rattle.wv_base.specs.Shelf.{ShelfState}
use Rattle.witval.specs.Inputs.{AreInputs, AreWithin, Told}
use Rattle.witval.specs.Purposes.{RightOnInputs, Seeking}
use Rattle.witval.specs.Refusals.{IsBindRefusal, IsSearchRefusal}
use Rattle.witval.specs.Replies.{RightSeek}
use Rattle.witval.specs.Running.{HasIntegers}
use Rattle.witval.specs.Searching.{SeeksOnSegments, TellsSought}
use Rattle.witval.specs.Stages.{itself}
use Rattle.witval.specs.declared.input.Inputs.{Inputs}
use Rattle.witval.specs.declared.output.Output.{Output}
use Rattle.witval.specs.declared.output.Output.TheVariants.{Report, Canonical, Summary, Demo as Demonstrated, Certificate, Rechecked, Unviolated, Searched}
use Rattle.witval.proofs.Judged.{OfRefusals, OfWork, known_kept, on_inputs, replied, reported}
use Rattle.witval.proofs.OfBytes.{of_read}
use Rattle.witval.proofs.Refusing.{NotOfLength, bind_refusals, not_of_length, search_refusals}

-- a report that isn't about a file's length, or what a search came to
IsSeekLike : Output → Type 0
IsSeekLike (Report reply) = NotOfLength reply
IsSeekLike (Canonical text) = ⊥
IsSeekLike (Summary text) = ⊥
IsSeekLike (Demonstrated demo) = ⊥
IsSeekLike (Certificate text) = ⊥
IsSeekLike (Rechecked answer) = ⊥
IsSeekLike (Unviolated why) = ⊥
IsSeekLike (Searched found) = Unit {0}

refused : OfRefusals IsSeekLike
unfolding IsSeekLike
refused reply refuses = not_of_length reply refuses

told : (turns conflicts : ℕ) (found : Sought) (output : Output) → TellsSought turns conflicts found output → IsSeekLike output
unfolding IsSeekLike
told turns conflicts (sought.Found draws positions) output e = subst IsSeekLike (sym e) tt
told turns conflicts sought.Nothing output e = subst IsSeekLike (sym e) tt
told turns conflicts (sought.Spent at) output e = subst IsSeekLike (sym e) tt

on_segments : (turns conflicts : ℕ) (p : t.Program) (ss : List BoundSegment) (output : Output) → SeeksOnSegments turns conflicts p ss output → IsSeekLike output
on_segments turns conflicts p ss output right =
    known_kept IsSeekLike refused itself IsSearchRefusal right.0 (TellsSought turns conflicts) search_refusals (told turns conflicts) output right.2

on_work : (turns conflicts : ℕ) → OfWork (Seeking turns conflicts) IsSeekLike
on_work turns conflicts witness p output right =
    known_kept IsSeekLike refused segments_view IsBindRefusal right.0 (SeeksOnSegments turns conflicts (program_view p)) bind_refusals
    (on_segments turns conflicts (program_view p)) output right.2

seeking : (turns conflicts : ℕ) (program property witness : List ℕ) (output : Output) → RightOnInputs (Seeking turns conflicts) program property witness output → IsSeekLike output
seeking turns conflicts program property witness output right =
    on_inputs IsSeekLike refused (Seeking turns conflicts) program property witness (on_work turns conflicts) output right

seek_on : (command : Command) (turns conflicts : ℕ) (old new : ShelfState) (inputs : Inputs) (output : Output) → AreWithin inputs → Told command old (AreInputs inputs)
    → RightOnInputs (Seeking turns conflicts) inputs.program.items inputs.property.items inputs.witness.items output → IsSeekLike output
    → RightSeek command turns conflicts old new output × HasIntegers output
unfolding IsSeekLike
seek_on command turns conflicts old new inputs (Report reply) short a right other = (replied command (Seeking turns conflicts) old new inputs reply short a right other, reported reply other)
seek_on command turns conflicts old new inputs (Searched found) short a right other = (of_read command (Seeking turns conflicts) old inputs (Searched found) short a right, tt)
seek_on command turns conflicts old new inputs (Canonical text) short a right other = absurd other
seek_on command turns conflicts old new inputs (Summary text) short a right other = absurd other
seek_on command turns conflicts old new inputs (Demonstrated demo) short a right other = absurd other
seek_on command turns conflicts old new inputs (Certificate text) short a right other = absurd other
seek_on command turns conflicts old new inputs (Rechecked answer) short a right other = absurd other
seek_on command turns conflicts old new inputs (Unviolated why) short a right other = absurd other

pub seek_if : {E : Type 0} (command : Command) (turns conflicts : ℕ) (old new : ShelfState) (inputs : Inputs) (result : Result Output E) → AreWithin inputs → Told command old (AreInputs inputs)
    → IfOk result (RightOnInputs (Seeking turns conflicts) inputs.program.items inputs.property.items inputs.witness.items)
    → IfOk result (RightSeek command turns conflicts old new) × IfOk result HasIntegers
seek_if command turns conflicts old new inputs (Ok output) short a right =
    seek_on command turns conflicts old new inputs output short a right (seeking turns conflicts inputs.program.items inputs.property.items inputs.witness.items output right)
seek_if command turns conflicts old new inputs (Err e) short a right = (tt, tt)
