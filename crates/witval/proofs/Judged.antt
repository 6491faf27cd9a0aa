-- The output for the bytes read is the output that the files call for.
use Rattle.std.proofs.Common.{◌≡◌, ◌≤◌, length, Result, Ok, Err, IfOk, ℕ, List, Bool, true, false, Option, Some, None, codes, refl, sym, subst, inl}
use Rattle.std.proofs.lemmas.List.Elements.{All-nil}
use Rattle.c_core.specs.declared.number.DataModel.{DataModel}
use Rattle.c_core.specs.declared.number.Property.{Property}
use Rattle.c_core.specs.declared.number.Property.TheVariants.{UnreachCall}
use Rattle.c_core.specs.Tree as t
use Rattle.c_core.specs.View.{program_view}
use Rattle.c_core.specs.declared.program.Program.{Program}
use Rattle.c_meaning.specs.Placing.{placed_view}
use Rattle.c_meaning.specs.Duties.{Placed}
use Rattle.c_meaning.specs.declared.verdict.Verdict.{Verdict}
use Rattle.c_parser.specs.Parsing.{source_view}
use Rattle.c_parser.specs.Tree.{Item}
use Rattle.c_tokens.specs.declared.token.Token.{Token}
use Rattle.sha2.specs.Sha256.{sha256}
use Rattle.sym_duties.specs.declared.fault.SymFault.{SymFault}
use Rattle.way_match.specs.Points.{BoundSegment}
use Rattle.way_match.specs.View.{segments_view}
use Rattle.wv_base.specs.Shelf.{ShelfState}
use Rattle.wv_report.specs.Json.{HasJsonIntegers, IsJsonInteger}
use Rattle.wv_report.specs.declared.reply.Reply.{Reply}
use Rattle.wv_report.specs.declared.reply.Reply.TheVariants.{Verdict as Judged, Refused, ReadFault}
use Rattle.wv_schema.specs.Schema.{witness_of}
use Rattle.wv_schema.specs.declared.fault.SchemaFault.{SchemaFault}
use Rattle.wv_schema.specs.declared.witness.Witness.{Witness}
use Rattle.wv_task.specs.PropertyText.{property_of}
use Rattle.wv_task.specs.Task.{judged as task_judged}
use Rattle.wv_arguments.specs.Words.{Budgets, Command}
use Rattle.wv_yaml.specs.declared.tree.Tree.{Tree}
use Rattle.yaml_scalars.specs.declared.fault.YamlFault.{YamlFault}
use Rattle.witval.specs.Inputs.{AreInputs, AreWithin, Told, ToldOne, certificate_limit, limit_of}
use Rattle.witval.specs.Refusals.{IsBindRefusal, IsCertificateRefusal, IsCheckRefusal, IsObligationRefusal, IsRefusal, IsSchemaRefusal, IsSyntaxRefusal, IsTaskRefusal, IsTokenRefusal, plain}
use Rattle.witval.specs.Stages.{given, known, choosing, itself, Reports, refusing}
use Rattle.witval.specs.Tasks.{JudgesSets, RightOnPlaced, RightOnProgram, RightOnSegments, RightOnSequence, RightOnSets, Tells, holds_sets}
use Rattle.witval.specs.inside.Rests.{RightOnLogs, RightOnModel, RightOnSource, RightOnText, RightOnTokens, RightOnTree, RightOnWitness, RightUnder}
use Rattle.witval.specs.Replies.{CanonicalIn, NoReply, NoTreeReply, NoWitnessReply, SummaryIn, RightAlone, RightCertificate, RightFor, RightRecheck, RightVerdict}
use Rattle.witval.specs.declared.input.File.TheVariants.{Witness as WitnessFile}
use Rattle.witval.specs.declared.input.Inputs.{Inputs}
use Rattle.witval.specs.declared.output.Output.{Output}
use Rattle.witval.specs.declared.output.Output.TheVariants.{Report, Canonical, Summary, Demo as Demonstrated, Certificate, Rechecked, Unviolated, Searched}
use Rattle.witval.proofs.OfBytes.{of_four, of_one, of_read}
use Rattle.witval.proofs.ShownValues.{sets_show_integers, shows_integers}
use Rattle.clauses.specs.declared.log.Refutation.{Refutation}
use Rattle.sym_duties.specs.declared.obligations.Obligations.{Obligations}
use Rattle.witval.specs.Certificates.{Certifies, CertifiesPlaced, Rechecks, RechecksPlaced}
use Rattle.witval.specs.Purposes.{IsKind, Purpose, Judging, Certifying, Rechecking, Weeding, Seeking, RightOnInputs, RightOnWork, ToCertify, ToJudge, ToRecheck, ToWeed, ToSeek, Work}
use Rattle.witval.specs.inside.Reports.{IsReport}
use Rattle.witval.specs.Running.{HasIntegers}
use Rattle.witval.specs.declared.input.FourInputs.{FourInputs}
use Rattle.witval.proofs.Refusing.{NotOfLength, Refuses, not_of_length, refusals, schema_refusals, task_refusals, certificate_refusals, token_refusals, syntax_refusals, check_refusals, bind_refusals, obligation_refusals}

on_segments : (steps : ℕ) (p : t.Program) (ss : List BoundSegment) (reply : Reply) → RightOnSegments steps p ss reply → NotOfLength reply
unfolding NotOfLength
on_segments steps p ss (Judged verdict) e = shows_integers p ss steps verdict e.right
on_segments steps p ss (Refused code detail) e = absurd e
on_segments steps p ss (ReadFault file) e = absurd e

-- a stage of a reply is kept where what is right with what it finds is kept
reply_kept : {A B F : Type 0} (view : A → B) (IsRefused : F → Reply → Type 0) (answer : Result A F) (within : B → Reply → Type 0)
    → ((fault : F) (reply : Reply) → IsRefused fault reply → Refuses reply) → ((b : B) (reply : Reply) → within b reply → NotOfLength reply)
    → (reply : Reply) → known view IsRefused answer within reply → NotOfLength reply
reply_kept view IsRefused (Ok a) within refused kept reply right = kept (view a) reply right
reply_kept view IsRefused (Err fault) within refused kept reply right = not_of_length reply (refused fault reply right)

program_kept : (holds : Bool) (there elsewhere : Reply → Type 0) → ((reply : Reply) → there reply → NotOfLength reply) → ((reply : Reply) → elsewhere reply → NotOfLength reply)
    → (reply : Reply) → choosing holds there elsewhere reply → NotOfLength reply
program_kept true there elsewhere kept other reply right = kept reply right
program_kept false there elsewhere kept other reply right = other reply right

on_sequence : (steps : ℕ) (witness : Witness) (p : Program) (reply : Reply) → RightOnSequence steps witness p reply → NotOfLength reply
on_sequence steps witness p reply right =
    reply_kept segments_view IsBindRefusal right.0 (RightOnSegments steps (program_view p)) bind_refusals (on_segments steps (program_view p)) reply right.2

on_verdict : (verdict : Verdict) (reply : Reply) → HasJsonIntegers (Judged verdict) → Tells verdict reply → NotOfLength reply
unfolding NotOfLength
on_verdict verdict reply shown e = subst NotOfLength (sym e) shown

on_judged : (conflicts : ℕ) (p : Program) (I : List Placed) (answer : Result Verdict SymFault) (reply : Reply) → JudgesSets conflicts p I answer
    → known itself IsObligationRefusal answer Tells reply → NotOfLength reply
on_judged conflicts p I (Ok verdict) reply judges right = on_verdict verdict reply (sets_show_integers conflicts (program_view p) I verdict judges.right) right
on_judged conflicts p I (Err fault) reply judges right = not_of_length reply (obligation_refusals fault reply right)

on_placed : (conflicts : ℕ) (p : Program) (I : List Placed) (reply : Reply) → RightOnPlaced conflicts p I reply → NotOfLength reply
on_placed conflicts p I reply right = on_judged conflicts p I right.0 reply right.1 right.2

on_sets : (conflicts : ℕ) (witness : Witness) (p : Program) (reply : Reply) → RightOnSets conflicts witness p reply → NotOfLength reply
on_sets conflicts witness p reply right = reply_kept placed_view IsBindRefusal right.0 (RightOnPlaced conflicts p) bind_refusals (on_placed conflicts p) reply right.2

pub on_program : (budgets : Budgets) (witness : Witness) (p : Program) (reply : Reply) → RightOnProgram budgets witness p reply → NotOfLength reply
on_program budgets witness p reply right =
    program_kept (holds_sets witness) (RightOnSets budgets.conflicts witness p) (RightOnSequence budgets.steps witness p) (on_sets budgets.conflicts witness p)
    (on_sequence budgets.steps witness p) reply right

-- ---- outputs

-- what holds of each refusal
abbrev pub OfRefusals : (Output → Type 0) → Type 0
OfRefusals P = (reply : Reply) → Refuses reply → P (Report reply)

-- what holds of each output for what a purpose asks to be done
abbrev pub OfWork : Purpose → (Output → Type 0) → Type 0
OfWork (Judging budgets) P = (witness : Witness) (p : Program) (output : Output) → RightOnWork (ToJudge budgets) witness p output → P output
OfWork (Certifying conflicts) P = (witness : Witness) (p : Program) (output : Output) → RightOnWork (ToCertify conflicts) witness p output → P output
OfWork (Rechecking bytes) P = (logs : List Refutation) (witness : Witness) (p : Program) (output : Output) → RightOnWork (ToRecheck logs) witness p output → P output
OfWork (Weeding conflicts) P = (witness : Witness) (p : Program) (output : Output) → RightOnWork (ToWeed conflicts) witness p output → P output
OfWork (Seeking turns conflicts) P = (witness : Witness) (p : Program) (output : Output) → RightOnWork (ToSeek turns conflicts) witness p output → P output

report_kept : (P : Output → Type 0) (Q : Reply → Type 0) → ((reply : Reply) → Q reply → P (Report reply)) → (output : Output) → Reports Q output → P output
report_kept P Q kept (Report reply) right = kept reply right
report_kept P Q kept (Canonical text) right = absurd right
report_kept P Q kept (Summary text) right = absurd right
report_kept P Q kept (Demonstrated demo) right = absurd right
report_kept P Q kept (Certificate text) right = absurd right
report_kept P Q kept (Rechecked answer) right = absurd right
report_kept P Q kept (Unviolated why) right = absurd right
report_kept P Q kept (Searched found) right = absurd right

-- a stage is kept where what is right with what it finds is kept
pub given_kept : {A : Type 0} (P : Output → Type 0) (refusal : Output) (o : Option A) (within : A → Output → Type 0) → P refusal
    → ((a : A) (output : Output) → within a output → P output) → (output : Output) → given refusal o within output → P output
given_kept P refusal (Some a) within refused kept output right = kept a output right
given_kept P refusal None within refused kept output right = subst P (sym right) refused

pub known_kept : {A B F : Type 0} (P : Output → Type 0) → OfRefusals P → (view : A → B) (IsRefused : F → Reply → Type 0) (answer : Result A F) (within : B → Output → Type 0)
    → ((fault : F) (reply : Reply) → IsRefused fault reply → Refuses reply) → ((b : B) (output : Output) → within b output → P output)
    → (output : Output) → known view (refusing IsRefused) answer within output → P output
known_kept P h view IsRefused (Ok a) within refused kept output right = kept (view a) output right
known_kept P h view IsRefused (Err fault) within refused kept output right =
    report_kept P (IsRefused fault) (λ reply r. h reply (refused fault reply r)) output right

choosing_kept : (P : Output → Type 0) (holds : Bool) (there elsewhere : Output → Type 0) → ((output : Output) → there output → P output)
    → ((output : Output) → elsewhere output → P output) → (output : Output) → choosing holds there elsewhere output → P output
choosing_kept P true there elsewhere kept other output right = kept output right
choosing_kept P false there elsewhere kept other output right = other output right

on_source : (P : Output → Type 0) → OfRefusals P → (work : Work) (property : Property) (witness : Witness) (model : DataModel) (items : List Item)
    → ((p : Program) (output : Output) → RightOnWork work witness p output → P output) → (output : Output) → RightOnSource work property witness model items output → P output
on_source P h work property witness model items kept output right =
    known_kept P h itself IsCheckRefusal right.0 (RightOnWork work witness) check_refusals kept output right.2

on_tokens : (P : Output → Type 0) → OfRefusals P → (work : Work) (property : Property) (witness : Witness) (model : DataModel) (ts : List Token)
    → ((p : Program) (output : Output) → RightOnWork work witness p output → P output) → (output : Output) → RightOnTokens work property witness model ts output → P output
on_tokens P h work property witness model ts kept output right =
    known_kept P h source_view IsSyntaxRefusal right.0 (RightOnSource work property witness model) syntax_refusals
    (λ items. on_source P h work property witness model items kept) output right.2

on_text : (P : Output → Type 0) → OfRefusals P → (work : Work) (property : Property) (text : List ℕ) (witness : Witness) (model : DataModel)
    → ((p : Program) (output : Output) → RightOnWork work witness p output → P output) → (output : Output) → RightOnText work property text witness model output → P output
on_text P h work property text witness model kept output right =
    known_kept P h itself IsTokenRefusal right.0 (RightOnTokens work property witness model) token_refusals
    (λ ts. on_tokens P h work property witness model ts kept) output right.2

on_kind : (P : Output → Type 0) → OfRefusals P → (output : Output) → IsKind output → P output
unfolding Refuses
on_kind P h output e = subst P (sym e) (h (plain (codes "kind")) refl)

on_logs : (P : Output → Type 0) → OfRefusals P → (bytes : List ℕ) (property : Property) (text : List ℕ) (witness : Witness) (model : DataModel) → OfWork (Rechecking bytes) P
    → (output : Output) → RightOnLogs bytes property text witness model output → P output
on_logs P h bytes property text witness model kept output right =
    known_kept P h itself IsCertificateRefusal right.0 (λ logs. RightOnText (ToRecheck logs) property text witness model) certificate_refusals
    (λ logs. on_text P h (ToRecheck logs) property text witness model (kept logs witness)) output right.2

on_model : (P : Output → Type 0) → OfRefusals P → (purpose : Purpose) (property : Property) (text : List ℕ) (witness : Witness) (model : DataModel) → OfWork purpose P
    → (output : Output) → RightOnModel purpose property text witness model output → P output
on_model P h (Judging budgets) property text witness model kept output right = on_text P h (ToJudge budgets) property text witness model (kept witness) output right
on_model P h (Certifying conflicts) property text witness model kept output right =
    choosing_kept P (holds_sets witness) (RightOnText (ToCertify conflicts) property text witness model) IsKind
    (on_text P h (ToCertify conflicts) property text witness model (kept witness)) (on_kind P h) output right
on_model P h (Rechecking bytes) property text witness model kept output right =
    choosing_kept P (holds_sets witness) (RightOnLogs bytes property text witness model) IsKind (on_logs P h bytes property text witness model kept) (on_kind P h) output right
on_model P h (Weeding conflicts) property text witness model kept output right =
    choosing_kept P (holds_sets witness) (RightOnText (ToWeed conflicts) property text witness model) IsKind
    (on_text P h (ToWeed conflicts) property text witness model (kept witness)) (on_kind P h) output right
on_model P h (Seeking turns conflicts) property text witness model kept output right =
    choosing_kept P (holds_sets witness) IsKind (RightOnText (ToSeek turns conflicts) property text witness model) (on_kind P h)
    (on_text P h (ToSeek turns conflicts) property text witness model (kept witness)) output right

on_witness : (P : Output → Type 0) → OfRefusals P → (purpose : Purpose) (property : Property) (text : List ℕ) (witness : Witness) → OfWork purpose P
    → (output : Output) → RightOnWitness purpose property text witness output → P output
on_witness P h purpose property text witness kept output right =
    known_kept P h itself IsTaskRefusal (task_judged (sha256 text) property witness.entries) (RightOnModel purpose property text witness) task_refusals
    (λ model. on_model P h purpose property text witness model kept) output right

on_tree : (P : Output → Type 0) → OfRefusals P → (purpose : Purpose) (property : Property) (text : List ℕ) (tree : Tree) → OfWork purpose P
    → (output : Output) → RightOnTree purpose property text tree output → P output
on_tree P h purpose property text tree kept output right =
    known_kept P h itself IsSchemaRefusal (witness_of tree) (RightOnWitness purpose property text) schema_refusals
    (λ witness. on_witness P h purpose property text witness kept) output right

under : (P : Output → Type 0) → OfRefusals P → (purpose : Purpose) (text witness : List ℕ) (property : Property) → OfWork purpose P
    → (output : Output) → RightUnder purpose text witness property output → P output
under P h purpose text witness property kept output right =
    known_kept P h itself IsRefusal right.0 (RightOnTree purpose property text) refusals (λ tree. on_tree P h purpose property text tree kept) output right.2

pub on_inputs : (P : Output → Type 0) → OfRefusals P → (purpose : Purpose) (program property witness : List ℕ) → OfWork purpose P
    → (output : Output) → RightOnInputs purpose program property witness output → P output
unfolding Refuses
on_inputs P h purpose program property witness kept output right =
    given_kept P (Report (plain (codes "property"))) (property_of property) (RightUnder purpose program witness) (h (plain (codes "property")) refl)
    (λ asked. under P h purpose program witness asked kept) output right

-- ---- what each purpose comes to

-- a report that isn't about a file's length
IsVerdictLike : Output → Type 0
IsVerdictLike output = Reports NotOfLength output

verdict_refusals : OfRefusals IsVerdictLike
unfolding IsVerdictLike
verdict_refusals reply refused = not_of_length reply refused

verdict_work : (budgets : Budgets) → OfWork (Judging budgets) IsVerdictLike
unfolding IsVerdictLike
verdict_work budgets witness p output right = report_kept IsVerdictLike (RightOnProgram budgets witness p) (λ reply r. on_program budgets witness p reply r) output right

pub judging : (budgets : Budgets) (program property witness : List ℕ) (output : Output) → RightOnInputs (Judging budgets) program property witness output → Reports NotOfLength output
unfolding IsVerdictLike
judging budgets program property witness output right =
    on_inputs IsVerdictLike verdict_refusals (Judging budgets) program property witness (verdict_work budgets) output right

any_report : (output : Output) → Reports NotOfLength output → IsReport output
any_report (Report reply) right = tt
any_report (Canonical text) right = absurd right
any_report (Summary text) right = absurd right
any_report (Demonstrated demo) right = absurd right
any_report (Certificate text) right = absurd right
any_report (Rechecked answer) right = absurd right
any_report (Unviolated why) right = absurd right
any_report (Searched found) right = absurd right

-- where a verdict is asked for, only reports are right
pub only_reports : (budgets : Budgets) (program witness : List ℕ) (output : Output) → RightUnder (Judging budgets) program witness UnreachCall output → IsReport output
unfolding IsVerdictLike
only_reports budgets program witness output right =
    any_report output (under IsVerdictLike verdict_refusals (Judging budgets) program witness UnreachCall (verdict_work budgets) output right)

-- the same, or a certificate
IsCertificateLike : Output → Type 0
IsCertificateLike (Report reply) = NotOfLength reply
IsCertificateLike (Certificate text) = Unit {0}
IsCertificateLike (Canonical text) = ⊥
IsCertificateLike (Summary text) = ⊥
IsCertificateLike (Demonstrated demo) = ⊥
IsCertificateLike (Rechecked answer) = ⊥
IsCertificateLike (Unviolated why) = ⊥
IsCertificateLike (Searched found) = ⊥

certificate_of_refusals : OfRefusals IsCertificateLike
unfolding IsCertificateLike
certificate_of_refusals reply refused = not_of_length reply refused

certified : (conflicts : ℕ) (p : t.Program) (I : List Placed) (o : Obligations) (output : Output) → Certifies conflicts p I o output → IsCertificateLike output
unfolding IsCertificateLike NotOfLength
certified conflicts p I o (Report (Judged verdict)) right = sets_show_integers conflicts p I verdict right.right.right
certified conflicts p I o (Report (Refused code detail)) right = absurd right
certified conflicts p I o (Report (ReadFault file)) right = absurd right
certified conflicts p I o (Certificate text) right = tt
certified conflicts p I o (Canonical text) right = absurd right
certified conflicts p I o (Summary text) right = absurd right
certified conflicts p I o (Demonstrated demo) right = absurd right
certified conflicts p I o (Rechecked answer) right = absurd right
certified conflicts p I o (Unviolated why) right = absurd right
certified conflicts p I o (Searched found) right = absurd right

certificate_placed : (conflicts : ℕ) (p : Program) (I : List Placed) (output : Output) → CertifiesPlaced conflicts p I output → IsCertificateLike output
certificate_placed conflicts p I output right =
    known_kept IsCertificateLike certificate_of_refusals itself IsObligationRefusal right.0 (Certifies conflicts (program_view p) I) obligation_refusals
    (certified conflicts (program_view p) I) output right.2

certificate_work : (conflicts : ℕ) → OfWork (Certifying conflicts) IsCertificateLike
certificate_work conflicts witness p output right =
    known_kept IsCertificateLike certificate_of_refusals placed_view IsBindRefusal right.0 (CertifiesPlaced conflicts p) bind_refusals (certificate_placed conflicts p) output right.2

certifying : (conflicts : ℕ) (program property witness : List ℕ) (output : Output) → RightOnInputs (Certifying conflicts) program property witness output → IsCertificateLike output
certifying conflicts program property witness output right =
    on_inputs IsCertificateLike certificate_of_refusals (Certifying conflicts) program property witness (certificate_work conflicts) output right

-- a refusal, or what checking a certificate again came to
IsRecheckLike : Output → Type 0
IsRecheckLike (Report reply) = Refuses reply
IsRecheckLike (Rechecked answer) = Unit {0}
IsRecheckLike (Certificate text) = ⊥
IsRecheckLike (Unviolated why) = ⊥
IsRecheckLike (Searched found) = ⊥
IsRecheckLike (Canonical text) = ⊥
IsRecheckLike (Summary text) = ⊥
IsRecheckLike (Demonstrated demo) = ⊥

recheck_refusals : OfRefusals IsRecheckLike
unfolding IsRecheckLike
recheck_refusals reply refused = refused

rechecked : (p : t.Program) (I : List Placed) (logs : List Refutation) (o : Obligations) (output : Output) → Rechecks p I logs o output → IsRecheckLike output
unfolding IsRecheckLike
rechecked p I logs o (Rechecked answer) right = tt
rechecked p I logs o (Report reply) right = absurd right
rechecked p I logs o (Certificate text) right = absurd right
rechecked p I logs o (Unviolated why) right = absurd right
rechecked p I logs o (Searched found) right = absurd right
rechecked p I logs o (Canonical text) right = absurd right
rechecked p I logs o (Summary text) right = absurd right
rechecked p I logs o (Demonstrated demo) right = absurd right

recheck_placed : (logs : List Refutation) (p : Program) (I : List Placed) (output : Output) → RechecksPlaced logs p I output → IsRecheckLike output
recheck_placed logs p I output right =
    known_kept IsRecheckLike recheck_refusals itself IsObligationRefusal right.0 (Rechecks (program_view p) I logs) obligation_refusals
    (rechecked (program_view p) I logs) output right.2

recheck_work : (bytes : List ℕ) → OfWork (Rechecking bytes) IsRecheckLike
recheck_work bytes logs witness p output right =
    known_kept IsRecheckLike recheck_refusals placed_view IsBindRefusal right.0 (RechecksPlaced logs p) bind_refusals (recheck_placed logs p) output right.2

rechecking : (bytes program property witness : List ℕ) (output : Output) → RightOnInputs (Rechecking bytes) program property witness output → IsRecheckLike output
rechecking bytes program property witness output right =
    on_inputs IsRecheckLike recheck_refusals (Rechecking bytes) program property witness (recheck_work bytes) output right

-- ---- the outputs for the files that were read

-- a report shows no number beyond 64 bits
pub reported : (reply : Reply) → NotOfLength reply → HasJsonIntegers reply
unfolding NotOfLength
reported (Refused code detail) other = All-nil (λ draw. IsJsonInteger draw.value)
reported (Judged verdict) other = other
reported (ReadFault file) other = absurd other

pub replied : (command : Command) (purpose : Purpose) (old new : ShelfState) (inputs : Inputs) (reply : Reply) → AreWithin inputs → Told command old (AreInputs inputs)
    → RightOnInputs purpose inputs.program.items inputs.property.items inputs.witness.items (Report reply) → NotOfLength reply → RightFor command purpose old new reply
unfolding NotOfLength
replied command purpose old new inputs (Refused code detail) short a right other = (of_read command purpose old inputs (Report (Refused code detail)) short a right, inl other)
replied command purpose old new inputs (Judged verdict) short a right other = of_read command purpose old inputs (Report (Judged verdict)) short a right
replied command purpose old new inputs (ReadFault file) short a right other = absurd other

-- a verdict
abbrev VerdictOn : Command → Budgets → ShelfState → ShelfState → Output → Type 0
VerdictOn command budgets old new output = RightVerdict command budgets old new output × HasIntegers output

verdict_on : (command : Command) (budgets : Budgets) (old new : ShelfState) (inputs : Inputs) (output : Output) → AreWithin inputs → Told command old (AreInputs inputs)
    → RightOnInputs (Judging budgets) inputs.program.items inputs.property.items inputs.witness.items output → Reports NotOfLength output → VerdictOn command budgets old new output
verdict_on command budgets old new inputs (Report reply) short a right other = (replied command (Judging budgets) old new inputs reply short a right other, reported reply other)
verdict_on command budgets old new inputs (Canonical text) short a right other = absurd other
verdict_on command budgets old new inputs (Summary text) short a right other = absurd other
verdict_on command budgets old new inputs (Demonstrated demo) short a right other = absurd other
verdict_on command budgets old new inputs (Certificate text) short a right other = absurd other
verdict_on command budgets old new inputs (Rechecked answer) short a right other = absurd other
verdict_on command budgets old new inputs (Unviolated why) short a right other = absurd other
verdict_on command budgets old new inputs (Searched found) short a right other = absurd other

pub verdict_if : {E : Type 0} (command : Command) (budgets : Budgets) (old new : ShelfState) (inputs : Inputs) (result : Result Output E) → AreWithin inputs → Told command old (AreInputs inputs)
    → IfOk result (RightOnInputs (Judging budgets) inputs.program.items inputs.property.items inputs.witness.items) → IfOk result (RightVerdict command budgets old new) × IfOk result HasIntegers
verdict_if command budgets old new inputs (Ok output) short a right =
    verdict_on command budgets old new inputs output short a right (judging budgets inputs.program.items inputs.property.items inputs.witness.items output right)
verdict_if command budgets old new inputs (Err e) short a right = (tt, tt)

-- a certificate
certificate_on : (command : Command) (conflicts : ℕ) (old new : ShelfState) (inputs : Inputs) (output : Output) → AreWithin inputs → Told command old (AreInputs inputs)
    → RightOnInputs (Certifying conflicts) inputs.program.items inputs.property.items inputs.witness.items output → IsCertificateLike output
    → RightCertificate command conflicts old new output × HasIntegers output
unfolding IsCertificateLike
certificate_on command conflicts old new inputs (Report reply) short a right other = (replied command (Certifying conflicts) old new inputs reply short a right other, reported reply other)
certificate_on command conflicts old new inputs (Certificate text) short a right other = (of_read command (Certifying conflicts) old inputs (Certificate text) short a right, tt)
certificate_on command conflicts old new inputs (Canonical text) short a right other = absurd other
certificate_on command conflicts old new inputs (Summary text) short a right other = absurd other
certificate_on command conflicts old new inputs (Demonstrated demo) short a right other = absurd other
certificate_on command conflicts old new inputs (Rechecked answer) short a right other = absurd other
certificate_on command conflicts old new inputs (Unviolated why) short a right other = absurd other
certificate_on command conflicts old new inputs (Searched found) short a right other = absurd other

pub certificate_if : {E : Type 0} (command : Command) (conflicts : ℕ) (old new : ShelfState) (inputs : Inputs) (result : Result Output E) → AreWithin inputs → Told command old (AreInputs inputs)
    → IfOk result (RightOnInputs (Certifying conflicts) inputs.program.items inputs.property.items inputs.witness.items)
    → IfOk result (RightCertificate command conflicts old new) × IfOk result HasIntegers
certificate_if command conflicts old new inputs (Ok output) short a right =
    certificate_on command conflicts old new inputs output short a right (certifying conflicts inputs.program.items inputs.property.items inputs.witness.items output right)
certificate_if command conflicts old new inputs (Err e) short a right = (tt, tt)

-- a certificate checked again
recheck_on : (command : Command) (name : List ℕ) (old new : ShelfState) (four : FourInputs) (output : Output) → AreWithin four.inputs → Told command old (AreInputs four.inputs)
    → length four.certificate.items ≤ certificate_limit → ToldOne name old (λ told. four.certificate.items ≡ told)
    → RightOnInputs (Rechecking four.certificate.items) four.inputs.program.items four.inputs.property.items four.inputs.witness.items output → IsRecheckLike output
    → RightRecheck command name old new output × HasIntegers output
unfolding IsRecheckLike Refuses
recheck_on command name old new four (Report (Refused code detail)) short a within b right other =
    ((of_four command name old four (Report (Refused code detail)) short a within b right, inl (inl other)), All-nil (λ draw. IsJsonInteger draw.value))
recheck_on command name old new four (Report (Judged verdict)) short a within b right other = absurd other
recheck_on command name old new four (Report (ReadFault file)) short a within b right other = absurd other
recheck_on command name old new four (Rechecked answer) short a within b right other = (of_four command name old four (Rechecked answer) short a within b right, tt)
recheck_on command name old new four (Certificate text) short a within b right other = absurd other
recheck_on command name old new four (Unviolated why) short a within b right other = absurd other
recheck_on command name old new four (Searched found) short a within b right other = absurd other
recheck_on command name old new four (Canonical text) short a within b right other = absurd other
recheck_on command name old new four (Summary text) short a within b right other = absurd other
recheck_on command name old new four (Demonstrated demo) short a within b right other = absurd other

pub recheck_if : {E : Type 0} (command : Command) (name : List ℕ) (old new : ShelfState) (four : FourInputs) (result : Result Output E) → AreWithin four.inputs → Told command old (AreInputs four.inputs)
    → length four.certificate.items ≤ certificate_limit → ToldOne name old (λ told. four.certificate.items ≡ told)
    → IfOk result (RightOnInputs (Rechecking four.certificate.items) four.inputs.program.items four.inputs.property.items four.inputs.witness.items)
    → IfOk result (RightRecheck command name old new) × IfOk result HasIntegers
recheck_if command name old new four (Ok output) short a within b right =
    recheck_on command name old new four output short a within b right
    (rechecking four.certificate.items four.inputs.program.items four.inputs.property.items four.inputs.witness.items output right)
recheck_if command name old new four (Err e) short a within b right = (tt, tt)

-- ---- a witness alone

no_tree : (answer : Result Tree YamlFault) (reply : Reply) → known itself IsRefusal answer NoReply reply → Refuses reply
no_tree (Ok tree) reply right = absurd right
no_tree (Err fault) reply right = refusals fault reply right

no_witness : (answer : Result Witness SchemaFault) (reply : Reply) → known itself IsSchemaRefusal answer NoWitnessReply reply → Refuses reply
no_witness (Ok witness) reply right = absurd right
no_witness (Err fault) reply right = schema_refusals fault reply right

no_summary : (answer : Result Tree YamlFault) (reply : Reply) → known itself IsRefusal answer NoTreeReply reply → Refuses reply
no_summary (Ok tree) reply right = no_witness (witness_of tree) reply right
no_summary (Err fault) reply right = refusals fault reply right

-- what each reply among the outputs is
abbrev RefusesOnly : (Output → List ℕ → Type 0) → List ℕ → Type 0
RefusesOnly Within bytes = (reply : Reply) → Within (Report reply) bytes → Refuses reply

-- each output is a report, or one of the two texts
abbrev IsOfWitness : Output → Type 0
IsOfWitness (Report reply) = Unit {0}
IsOfWitness (Canonical text) = Unit {0}
IsOfWitness (Summary text) = Unit {0}
IsOfWitness (Demonstrated demo) = ⊥
IsOfWitness (Certificate text) = ⊥
IsOfWitness (Rechecked answer) = ⊥
IsOfWitness (Unviolated why) = ⊥
IsOfWitness (Searched found) = ⊥

abbrev OfWitness : (Output → List ℕ → Type 0) → List ℕ → Type 0
OfWitness Within bytes = (output : Output) → Within output bytes → IsOfWitness output

alone : (Within : Output → List ℕ → Type 0) (name : List ℕ) (old new : ShelfState) (bytes : List ℕ) (output : Output) → RefusesOnly Within bytes → OfWitness Within bytes
    → length bytes ≤ limit_of WitnessFile → ToldOne name old (λ told. bytes ≡ told) → Within output bytes → RightAlone Within name old new output
unfolding Refuses
alone Within name old new bytes (Report (Refused code detail)) only none short a right = (of_one Within name old bytes _ short a right, inl (only _ right))
alone Within name old new bytes (Report (ReadFault file)) only none short a right = absurd (only _ right)
alone Within name old new bytes (Report (Judged verdict)) only none short a right = absurd (only _ right)
alone Within name old new bytes (Canonical text) only none short a right = of_one Within name old bytes _ short a right
alone Within name old new bytes (Summary text) only none short a right = of_one Within name old bytes _ short a right
alone Within name old new bytes (Demonstrated demo) only none short a right = absurd (none (Demonstrated demo) right)
alone Within name old new bytes (Certificate text) only none short a right = absurd (none (Certificate text) right)
alone Within name old new bytes (Rechecked answer) only none short a right = absurd (none (Rechecked answer) right)
alone Within name old new bytes (Unviolated why) only none short a right = absurd (none (Unviolated why) right)
alone Within name old new bytes (Searched found) only none short a right = absurd (none (Searched found) right)

canonical_only : (bytes : List ℕ) → OfWitness CanonicalIn bytes
canonical_only bytes (Report reply) right = tt
canonical_only bytes (Canonical text) right = tt
canonical_only bytes (Summary text) right = tt
canonical_only bytes (Demonstrated demo) right = absurd right
canonical_only bytes (Certificate text) right = absurd right
canonical_only bytes (Rechecked answer) right = absurd right
canonical_only bytes (Unviolated why) right = absurd right
canonical_only bytes (Searched found) right = absurd right

summary_only : (bytes : List ℕ) → OfWitness SummaryIn bytes
summary_only bytes (Report reply) right = tt
summary_only bytes (Canonical text) right = tt
summary_only bytes (Summary text) right = tt
summary_only bytes (Demonstrated demo) right = absurd right
summary_only bytes (Certificate text) right = absurd right
summary_only bytes (Rechecked answer) right = absurd right
summary_only bytes (Unviolated why) right = absurd right
summary_only bytes (Searched found) right = absurd right

pub canonical_if : {E : Type 0} (name : List ℕ) (old new : ShelfState) (bytes : List ℕ) (result : Result Output E) → length bytes ≤ limit_of WitnessFile
    → ToldOne name old (λ told. bytes ≡ told) → IfOk result (λ output. CanonicalIn output bytes) → IfOk result (RightAlone CanonicalIn name old new)
canonical_if name old new bytes (Ok output) short a right = alone CanonicalIn name old new bytes output (λ reply r. no_tree r.0 reply r.2) (canonical_only bytes) short a right
canonical_if name old new bytes (Err e) short a right = tt

pub shown_if : {E : Type 0} (name : List ℕ) (old new : ShelfState) (bytes : List ℕ) (result : Result Output E) → length bytes ≤ limit_of WitnessFile
    → ToldOne name old (λ told. bytes ≡ told) → IfOk result (λ output. SummaryIn output bytes) → IfOk result (RightAlone SummaryIn name old new)
shown_if name old new bytes (Ok output) short a right = alone SummaryIn name old new bytes output (λ reply r. no_summary r.0 reply r.2) (summary_only bytes) short a right
shown_if name old new bytes (Err e) short a right = tt
