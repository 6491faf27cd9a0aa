-- The output where a violation witness is made is the output that the files call for.
use Rattle.std.proofs.Common.{◌≡◌, ◌∙◌, ℕ, ℤ, List, Some, Result, Ok, Err, IfOk, codes, inl, inr, refl, sym, subst, ap}
use Rattle.std.proofs.lemmas.List.Elements.{All-nil}
use Rattle.c_core.specs.declared.number.DataModel.{DataModel}
use Rattle.c_core.specs.declared.number.Property.{Property}
use Rattle.c_core.specs.declared.program.Program.{Program}
use Rattle.c_meaning.specs.declared.run.End.{End}
use Rattle.c_meaning.specs.declared.run.End.TheVariants as end
use Rattle.c_parser.specs.Parsing.{source_view}
use Rattle.c_parser.specs.Tree.{Item}
use Rattle.c_tokens.specs.declared.token.Token.{Token}
use Rattle.wv_arguments.specs.Words.{Label, Sources}
use Rattle.wv_author.specs.declared.authoring.AuthorFault.{AuthorFault}
use Rattle.wv_author.specs.declared.authoring.AuthorFault.TheVariants.{NotViolated, CellValue, OutOfMemory}
use Rattle.wv_author.specs.declared.values.ValuesFault.{ValuesFault}
use Rattle.wv_author.specs.declared.values.ValuesFault.TheVariants as values
use Rattle.wv_author.specs.Written.{authored}
use Rattle.wv_base.specs.Shelf.{ShelfState}
use Rattle.wv_report.specs.Json.{HasJsonIntegers, IsJsonInteger}
use Rattle.wv_report.specs.declared.reply.Reply.{Reply}
use Rattle.wv_report.specs.declared.reply.Reply.TheVariants.{Verdict as Judged, Refused, ReadFault}
use Rattle.wv_schema.specs.declared.witness.Segment.{Segment}
use Rattle.wv_task.specs.PropertyText.{property_of}
use Rattle.wv_task.specs.Readings.{identifier_of}
use Rattle.wv_task.specs.Task.{model_of}
use Rattle.witval.specs.Authoring.{AuthorsOnInputs, IsUnauthored, IsValuesRefusal, TellsEnd, stated_file}
use Rattle.witval.specs.Inputs.{AreInputs, AreWithin, RightStop, Told, first_too_long, in_order, source_word}
use Rattle.witval.specs.Refusals.{IsCheckRefusal, IsSyntaxRefusal, IsTokenRefusal, plain}
use Rattle.witval.specs.Replies.{AuthorsOn, AuthorsOnBytes, IsStoppedAtSource, RightAuthor, too_long}
use Rattle.witval.specs.Running.{HasIntegers}
use Rattle.witval.specs.Stages.{given, known, itself}
use Rattle.witval.specs.declared.input.File.{File}
use Rattle.witval.specs.declared.input.Inputs.{Inputs}
use Rattle.witval.specs.declared.input.Stop.{Stop}
use Rattle.witval.specs.declared.input.Stop.TheVariants as stop
use Rattle.witval.specs.declared.output.Output.{Output}
use Rattle.witval.specs.declared.output.Output.TheVariants.{Report, Canonical, Summary, Demo as Demonstrated, Certificate, Rechecked, Unviolated, Searched}
use Rattle.witval.specs.inside.AuthoringRests.{AuthorsOnFile, AuthorsOnModel, AuthorsOnProgram, AuthorsOnSegments, AuthorsOnSource, AuthorsOnText, AuthorsOnTokens, AuthorsOnValues, AuthorsUnder}
use Rattle.witval.proofs.Judged.{OfRefusals, given_kept, known_kept, reported}
use Rattle.witval.proofs.OfBytes.{short_files, some_too_long, spread, theirs}
use Rattle.witval.proofs.Refusing.{NotOfLength, Refuses, check_refusals, not_of_length, syntax_refusals, token_refusals}
use Rattle.witval.proofs.WrittenOutputs.{written_kept}

-- a report that isn't about a file's length, a witness, or why there is none
IsAuthorLike : Output → Type 0
IsAuthorLike (Report reply) = NotOfLength reply
IsAuthorLike (Canonical text) = Unit {0}
IsAuthorLike (Unviolated why) = Unit {0}
IsAuthorLike (Searched found) = ⊥
IsAuthorLike (Summary text) = ⊥
IsAuthorLike (Demonstrated demo) = ⊥
IsAuthorLike (Certificate text) = ⊥
IsAuthorLike (Rechecked answer) = ⊥

refused : OfRefusals IsAuthorLike
unfolding IsAuthorLike
refused reply refuses = not_of_length reply refuses

any_text : (text : List ℕ) → IsAuthorLike (Canonical text)
unfolding IsAuthorLike
any_text text = tt

values_refusals : (fault : ValuesFault) (reply : Reply) → IsValuesRefusal fault reply → Refuses reply
unfolding Refuses
values_refusals values.Form reply e = subst Refuses (sym e) refl
values_refusals values.OutOfMemory reply e = absurd e

at_end : (steps : ℕ) (e : End) (output : Output) → TellsEnd steps e output → IsAuthorLike output
unfolding IsAuthorLike NotOfLength
at_end steps end.Ended output is = subst IsAuthorLike (sym is) tt
at_end steps (end.Undefined spot) output is = subst IsAuthorLike (sym is) tt
at_end steps end.Spent output is = subst IsAuthorLike (sym is) (All-nil (λ draw. IsJsonInteger draw.value))
at_end steps end.Deep output is = subst IsAuthorLike (sym is) (All-nil (λ draw. IsJsonInteger draw.value))
at_end steps (end.Violated spot) output is = absurd is

on_fault : (steps : ℕ) (fault : AuthorFault) (output : Output) → IsUnauthored steps fault output → IsAuthorLike output
unfolding IsAuthorLike NotOfLength
on_fault steps (NotViolated e) output is = at_end steps e output is
on_fault steps (CellValue spot) output is = subst IsAuthorLike (sym is) refl
on_fault steps OutOfMemory output is = absurd is

on_segments : (label : Label) (file text : List ℕ) (property : Property) (model : DataModel) (segments : List Segment) (output : Output)
    → AuthorsOnSegments label file text property model segments output → IsAuthorLike output
on_segments label file text property model segments output right =
    written_kept IsAuthorLike refused any_text (authored text file segments property model label.uuid label.time) output right

on_answer : (label : Label) (steps : ℕ) (file text : List ℕ) (property : Property) (model : DataModel) (answer : Result (List Segment) AuthorFault) (output : Output)
    → known itself (IsUnauthored steps) answer (AuthorsOnSegments label file text property model) output → IsAuthorLike output
on_answer label steps file text property model (Ok segments) output right = on_segments label file text property model segments output right
on_answer label steps file text property model (Err fault) output right = on_fault steps fault output right

on_program : (label : Label) (steps : ℕ) (file text : List ℕ) (property : Property) (model : DataModel) (vs : List ℤ) (p : Program) (output : Output)
    → AuthorsOnProgram label steps file text property model vs p output → IsAuthorLike output
on_program label steps file text property model vs p output right = on_answer label steps file text property model right.0 output right.2

on_source : (label : Label) (steps : ℕ) (file text : List ℕ) (property : Property) (model : DataModel) (vs : List ℤ) (items : List Item) (output : Output)
    → AuthorsOnSource label steps file text property model vs items output → IsAuthorLike output
on_source label steps file text property model vs items output right =
    known_kept IsAuthorLike refused itself IsCheckRefusal right.0 (AuthorsOnProgram label steps file text property model vs) check_refusals
    (on_program label steps file text property model vs) output right.2

on_tokens : (label : Label) (steps : ℕ) (file text : List ℕ) (property : Property) (model : DataModel) (vs : List ℤ) (ts : List Token) (output : Output)
    → AuthorsOnTokens label steps file text property model vs ts output → IsAuthorLike output
on_tokens label steps file text property model vs ts output right =
    known_kept IsAuthorLike refused source_view IsSyntaxRefusal right.0 (AuthorsOnSource label steps file text property model vs) syntax_refusals
    (on_source label steps file text property model vs) output right.2

on_text : (label : Label) (steps : ℕ) (file text : List ℕ) (property : Property) (model : DataModel) (vs : List ℤ) (output : Output)
    → AuthorsOnText label steps file text property model vs output → IsAuthorLike output
on_text label steps file text property model vs output right =
    known_kept IsAuthorLike refused itself IsTokenRefusal right.0 (AuthorsOnTokens label steps file text property model vs) token_refusals
    (on_tokens label steps file text property model vs) output right.2

plainly : (code : List ℕ) → Refuses (plain code) → IsAuthorLike (Report (plain code))
plainly code refuses = refused (plain code) refuses

on_model : (label : Label) (steps : ℕ) (file text : List ℕ) (property : Property) (vs : List ℤ) (model : DataModel) (output : Output)
    → AuthorsOnModel label steps file text property model vs output → IsAuthorLike output
unfolding Refuses
on_model label steps file text property vs model output right =
    given_kept IsAuthorLike (Report (plain (codes "uuid"))) (identifier_of label.uuid) (λ identifier. AuthorsOnText label steps file text property model vs) (plainly (codes "uuid") refl)
    (λ identifier. on_text label steps file text property model vs) output right

on_file : (label : Label) (steps : ℕ) (text : List ℕ) (property : Property) (vs : List ℤ) (file : List ℕ) (output : Output)
    → AuthorsOnFile label steps file text property vs output → IsAuthorLike output
unfolding Refuses
on_file label steps text property vs file output right =
    given_kept IsAuthorLike (Report (plain (codes "model"))) (model_of label.model) (λ model. AuthorsOnModel label steps file text property model vs) (plainly (codes "model") refl)
    (on_model label steps file text property vs) output right

on_values : (label : Label) (steps : ℕ) (name text : List ℕ) (property : Property) (vs : List ℤ) (output : Output)
    → AuthorsOnValues label steps name text property vs output → IsAuthorLike output
unfolding Refuses
on_values label steps name text property vs output right =
    given_kept IsAuthorLike (Report (plain (codes "files"))) (stated_file name) (λ file. AuthorsOnFile label steps file text property vs) (plainly (codes "files") refl)
    (on_file label steps text property vs) output right

under : (label : Label) (steps : ℕ) (name text listed : List ℕ) (property : Property) (output : Output)
    → AuthorsUnder label steps name text listed property output → IsAuthorLike output
under label steps name text listed property output right =
    known_kept IsAuthorLike refused itself IsValuesRefusal right.0 (AuthorsOnValues label steps name text property) values_refusals
    (on_values label steps name text property) output right.2

authoring : (label : Label) (steps : ℕ) (name program property listed : List ℕ) (output : Output)
    → AuthorsOnInputs label steps name program property listed output → IsAuthorLike output
unfolding Refuses
authoring label steps name program property listed output right =
    given_kept IsAuthorLike (Report (plain (codes "property"))) (property_of property) (AuthorsUnder label steps name program listed) (plainly (codes "property") refl)
    (under label steps name program listed) output right

-- with the property that was read
pub after_property : {E : Type 0} (label : Label) (steps : ℕ) (name program p asked a listed v : List ℕ) (property : Property) (result : Result Output E) → p ≡ program → a ≡ asked → v ≡ listed
    → Some property ≡ property_of a → IfOk result (AuthorsUnder label steps name p v property) → IfOk result (AuthorsOnInputs label steps name program asked listed)
after_property label steps name program p asked a listed v property result same_program same_property same_values e right =
    let here : IfOk result (AuthorsUnder label steps name program v property) = subst (λ x. IfOk result (AuthorsUnder label steps name x v property)) same_program right in
    let there : IfOk result (AuthorsUnder label steps name program listed property) = subst (λ x. IfOk result (AuthorsUnder label steps name program x property)) same_values here in
    subst (λ o. IfOk result (given (Report (plain (codes "property"))) o (AuthorsUnder label steps name program listed))) (e ∙ ap property_of same_property) there

-- ---- the files that were read

of_sources : (sources : Sources) (label : Label) (steps : ℕ) (shelf : ShelfState) (inputs : Inputs) (output : Output) → AreWithin inputs → Told (in_order sources) shelf (AreInputs inputs)
    → AuthorsOnInputs label steps sources.program inputs.program.items inputs.property.items inputs.witness.items output → AuthorsOn sources label steps shelf output
of_sources sources label steps shelf inputs output short a right =
    (inputs.program.items, inputs.property.items, inputs.witness.items, rw (short_files inputs short) right, theirs (in_order sources) shelf.files inputs a)

author_on : (sources : Sources) (label : Label) (steps : ℕ) (old new : ShelfState) (inputs : Inputs) (output : Output) → AreWithin inputs → Told (in_order sources) old (AreInputs inputs)
    → AuthorsOnInputs label steps sources.program inputs.program.items inputs.property.items inputs.witness.items output → IsAuthorLike output
    → RightAuthor sources label steps old new output × HasIntegers output
unfolding IsAuthorLike NotOfLength
author_on sources label steps old new inputs (Report (Refused code detail)) short a right other =
    ((of_sources sources label steps old inputs (Report (Refused code detail)) short a right, inl other), reported (Refused code detail) other)
author_on sources label steps old new inputs (Report (Judged verdict)) short a right other =
    (of_sources sources label steps old inputs (Report (Judged verdict)) short a right, reported (Judged verdict) other)
author_on sources label steps old new inputs (Report (ReadFault text)) short a right other = absurd other
author_on sources label steps old new inputs (Canonical text) short a right other = (of_sources sources label steps old inputs (Canonical text) short a right, tt)
author_on sources label steps old new inputs (Unviolated why) short a right other = (of_sources sources label steps old inputs (Unviolated why) short a right, tt)
author_on sources label steps old new inputs (Searched found) short a right other = absurd other
author_on sources label steps old new inputs (Summary text) short a right other = absurd other
author_on sources label steps old new inputs (Demonstrated demo) short a right other = absurd other
author_on sources label steps old new inputs (Certificate text) short a right other = absurd other
author_on sources label steps old new inputs (Rechecked answer) short a right other = absurd other

pub author_if : {E : Type 0} (sources : Sources) (label : Label) (steps : ℕ) (old new : ShelfState) (inputs : Inputs) (result : Result Output E) → AreWithin inputs
    → Told (in_order sources) old (AreInputs inputs)
    → IfOk result (AuthorsOnInputs label steps sources.program inputs.program.items inputs.property.items inputs.witness.items)
    → IfOk result (RightAuthor sources label steps old new) × IfOk result HasIntegers
author_if sources label steps old new inputs (Ok output) short a right =
    author_on sources label steps old new inputs output short a right
    (authoring label steps sources.program inputs.program.items inputs.property.items inputs.witness.items output right)
author_if sources label steps old new inputs (Err e) short a right = (tt, tt)

-- ---- what reading stops at

refused_source : (label : Label) (steps : ℕ) (name : List ℕ) (file : File) (program property listed : List ℕ) → first_too_long program property listed ≡ Some file
    → AuthorsOnBytes label steps name (Report (Refused too_long (source_word file))) program property listed
refused_source label steps name file program property listed e = rw e refl

long_source : (sources : Sources) (label : Label) (steps : ℕ) (old new : ShelfState) (file : File) → RightStop (in_order sources) old new (stop.TooLong file)
    → RightAuthor sources label steps old new (Report (Refused too_long (source_word file)))
long_source sources label steps old new file halted = (
  spread (in_order sources) old.files (λ program property listed. first_too_long program property listed ≡ Some file)
      (AuthorsOnBytes label steps sources.program (Report (Refused too_long (source_word file)))) (refused_source label steps sources.program file) (some_too_long file) halted.1,
  inr (file, refl, halted.0),
)

halted_at : (sources : Sources) (label : Label) (steps : ℕ) (old new : ShelfState) (why : Stop) (reply : Reply) → IsStoppedAtSource why reply → RightStop (in_order sources) old new why
    → RightAuthor sources label steps old new (Report reply)
halted_at sources label steps old new (stop.Fault file) reply e right =
    subst (λ r. RightAuthor sources label steps old new (Report r)) (sym e) (file, refl, right)
halted_at sources label steps old new (stop.TooLong file) reply e right =
    subst (λ r. RightAuthor sources label steps old new (Report r)) (sym e) (long_source sources label steps old new file right)
halted_at sources label steps old new stop.OutOfMemory reply e right = absurd e

-- it shows no number
shows_none : (why : Stop) (reply : Reply) → IsStoppedAtSource why reply → HasJsonIntegers reply
shows_none (stop.Fault file) reply e = subst HasJsonIntegers (sym e) (All-nil (λ draw. IsJsonInteger draw.value))
shows_none (stop.TooLong file) reply e = subst HasJsonIntegers (sym e) (All-nil (λ draw. IsJsonInteger draw.value))
shows_none stop.OutOfMemory reply e = absurd e

pub stopped_at_source : (sources : Sources) (label : Label) (steps : ℕ) (old new : ShelfState) (why : Stop) (reply : Reply) → IsStoppedAtSource why reply
    → RightStop (in_order sources) old new why → RightAuthor sources label steps old new (Report reply) × HasJsonIntegers reply
stopped_at_source sources label steps old new why reply e right = (halted_at sources label steps old new why reply e right, shows_none why reply e)
