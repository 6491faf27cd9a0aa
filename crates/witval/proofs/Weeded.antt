-- The output where invariants are weeded is the output that the files call for.
use Rattle.std.proofs.Common.{ℕ, List, Result, Ok, Err, IfOk, sym, subst}
use Rattle.std.proofs.lemmas.List.Elements.{All-nil}
use Rattle.c_core.specs.declared.program.Program.{Program}
use Rattle.c_meaning.specs.Duties.{Placed}
use Rattle.c_meaning.specs.Placing.{placed_view}
use Rattle.wv_arguments.specs.Words.{Command}
use Rattle.wv_base.specs.Shelf.{ShelfState}
use Rattle.wv_report.specs.Json.{IsJsonInteger}
use Rattle.wv_schema.specs.declared.witness.Witness.{Witness}
use Rattle.wv_weed.specs.declared.weeding.Weeded.{Weeded}
use Rattle.wv_weed.specs.declared.weeding.Weeded.TheVariants.{Kept, Spent}
use Rattle.witval.specs.Inputs.{AreInputs, AreWithin, Told}
use Rattle.witval.specs.Purposes.{RightOnInputs, Weeding}
use Rattle.witval.specs.Refusals.{IsBindRefusal, IsObligationRefusal}
use Rattle.witval.specs.Replies.{RightWeed}
use Rattle.witval.specs.Running.{HasIntegers}
use Rattle.witval.specs.Stages.{itself}
use Rattle.witval.specs.Weeding.{TellsWeeded, WeedsPlaced, kept_in}
use Rattle.witval.specs.declared.input.Inputs.{Inputs}
use Rattle.witval.specs.declared.output.Output.{Output}
use Rattle.witval.specs.declared.output.Output.TheVariants.{Report, Canonical, Summary, Demo as Demonstrated, Certificate, Rechecked, Unviolated, Searched}
use Rattle.witval.proofs.Judged.{OfRefusals, OfWork, known_kept, on_inputs, replied, reported}
use Rattle.witval.proofs.OfBytes.{of_read}
use Rattle.witval.proofs.Refusing.{NotOfLength, bind_refusals, not_of_length, obligation_refusals}
use Rattle.witval.proofs.WrittenOutputs.{written_kept}

-- a report that isn't about a file's length, or a witness
IsWeedLike : Output → Type 0
IsWeedLike (Report reply) = NotOfLength reply
IsWeedLike (Canonical text) = Unit {0}
IsWeedLike (Summary text) = ⊥
IsWeedLike (Demonstrated demo) = ⊥
IsWeedLike (Certificate text) = ⊥
IsWeedLike (Rechecked answer) = ⊥
IsWeedLike (Unviolated why) = ⊥
IsWeedLike (Searched found) = ⊥

refused : OfRefusals IsWeedLike
unfolding IsWeedLike
refused reply refuses = not_of_length reply refuses

any_text : (text : List ℕ) → IsWeedLike (Canonical text)
unfolding IsWeedLike
any_text text = tt

told : (conflicts : ℕ) (witness : Witness) (weeded : Weeded) (output : Output) → TellsWeeded conflicts witness weeded output → IsWeedLike output
unfolding IsWeedLike NotOfLength
told conflicts witness (Kept ns) output e = written_kept IsWeedLike refused any_text (kept_in ns witness) output e
told conflicts witness (Spent left number at) output e = subst IsWeedLike (sym e) (All-nil (λ draw. IsJsonInteger draw.value))

on_placed : (conflicts : ℕ) (witness : Witness) (p : Program) (I : List Placed) (output : Output) → WeedsPlaced conflicts witness p I output → IsWeedLike output
on_placed conflicts witness p I output right =
    known_kept IsWeedLike refused itself IsObligationRefusal right.0 (TellsWeeded conflicts witness) obligation_refusals (told conflicts witness) output right.2

on_work : (conflicts : ℕ) → OfWork (Weeding conflicts) IsWeedLike
on_work conflicts witness p output right =
    known_kept IsWeedLike refused placed_view IsBindRefusal right.0 (WeedsPlaced conflicts witness p) bind_refusals (on_placed conflicts witness p) output right.2

weeding : (conflicts : ℕ) (program property witness : List ℕ) (output : Output) → RightOnInputs (Weeding conflicts) program property witness output → IsWeedLike output
weeding conflicts program property witness output right =
    on_inputs IsWeedLike refused (Weeding conflicts) program property witness (on_work conflicts) output right

weed_on : (command : Command) (conflicts : ℕ) (old new : ShelfState) (inputs : Inputs) (output : Output) → AreWithin inputs → Told command old (AreInputs inputs)
    → RightOnInputs (Weeding conflicts) inputs.program.items inputs.property.items inputs.witness.items output → IsWeedLike output
    → RightWeed command conflicts old new output × HasIntegers output
unfolding IsWeedLike
weed_on command conflicts old new inputs (Report reply) short a right other = (replied command (Weeding conflicts) old new inputs reply short a right other, reported reply other)
weed_on command conflicts old new inputs (Canonical text) short a right other = (of_read command (Weeding conflicts) old inputs (Canonical text) short a right, tt)
weed_on command conflicts old new inputs (Summary text) short a right other = absurd other
weed_on command conflicts old new inputs (Demonstrated demo) short a right other = absurd other
weed_on command conflicts old new inputs (Certificate text) short a right other = absurd other
weed_on command conflicts old new inputs (Rechecked answer) short a right other = absurd other
weed_on command conflicts old new inputs (Unviolated why) short a right other = absurd other
weed_on command conflicts old new inputs (Searched found) short a right other = absurd other

pub weed_if : {E : Type 0} (command : Command) (conflicts : ℕ) (old new : ShelfState) (inputs : Inputs) (result : Result Output E) → AreWithin inputs → Told command old (AreInputs inputs)
    → IfOk result (RightOnInputs (Weeding conflicts) inputs.program.items inputs.property.items inputs.witness.items)
    → IfOk result (RightWeed command conflicts old new) × IfOk result HasIntegers
weed_if command conflicts old new inputs (Ok output) short a right =
    weed_on command conflicts old new inputs output short a right (weeding conflicts inputs.program.items inputs.property.items inputs.witness.items output right)
weed_if command conflicts old new inputs (Err e) short a right = (tt, tt)
