-- What the readers answer decides the reply, step by step.
use Rattle.std.proofs.Common.{◌≡◌, ◌∙◌, ℕ, List, Some, Result, Ok, Err, IfOk, codes, refl, sym, subst, ap, ap₂}
use Rattle.sha2.specs.Sha256.{sha256}
use Rattle.c_core.specs.declared.number.DataModel.{DataModel}
use Rattle.c_core.specs.declared.number.Property.{Property}
use Rattle.wv_report.specs.declared.reply.Reply.{Reply}
use Rattle.wv_schema.specs.Schema.{IsAnswer, judged as schema_judged, schema_fault, witness_of}
use Rattle.wv_schema.specs.declared.fault.SchemaFault.{SchemaFault}
use Rattle.wv_schema.specs.declared.fault.SchemaFault.TheVariants as schema
use Rattle.wv_schema.specs.declared.witness.Witness.{Witness}
use Rattle.wv_task.specs.PropertyText.{property_of}
use Rattle.wv_task.specs.Task.{Gives, judged as task_judged}
use Rattle.wv_task.specs.declared.fault.TaskFault.{TaskFault}
use Rattle.wv_task.specs.declared.fault.TaskFault.TheVariants as task
use Rattle.wv_yaml.specs.declared.tree.Tree.{Tree}
use Rattle.witval.specs.Refusals.{IsSchemaRefusal, IsTaskRefusal, plain}
use Rattle.witval.specs.Purposes.{Purpose, RightOnInputs}
use Rattle.witval.specs.Stages.{given, known, itself, refusing}
use Rattle.witval.specs.inside.Rests.{RightOnModel, RightOnTree, RightOnWitness, RightUnder}
use Rattle.wv_show.specs.Show.{summary_of}
use Rattle.witval.specs.Replies.{NoWitnessReply, SummaryOf}
use Rattle.witval.specs.declared.output.Output.{Output}
use Rattle.witval.specs.declared.output.Output.TheVariants.{Report, Summary}

-- the answer of the schema's reader is the one by the definition
schema_answer : (t : Tree) (fault : SchemaFault) → schema_fault t ≡ Some fault → witness_of t ≡ Err fault
unfolding witness_of
schema_answer t fault e = rw e refl

witness_answer : (t : Tree) (w : Witness) → IsAnswer t (Ok w) → witness_of t ≡ Ok w
unfolding witness_of
witness_answer t w answer = ap₂ schema_judged answer.0 (sym answer.1)

pub after_witness : {E : Type 0} (purpose : Purpose) (property : Property) (program : List ℕ) (t : Tree) (w : Witness) (result : Result Output E) → IsAnswer t (Ok w)
    → IfOk result (RightOnWitness purpose property program w) → IfOk result (RightOnTree purpose property program t)
after_witness purpose property program t w result answer right =
    subst (λ a. IfOk result (known itself (refusing IsSchemaRefusal) a (RightOnWitness purpose property program))) (sym (witness_answer t w answer)) right

refused_by_schema : (purpose : Purpose) (property : Property) (program : List ℕ) (t : Tree) (fault : SchemaFault) (reply : Reply) → schema_fault t ≡ Some fault
    → IsSchemaRefusal fault reply → RightOnTree purpose property program t (Report reply)
refused_by_schema purpose property program t fault reply e right =
    subst (λ a. known itself (refusing IsSchemaRefusal) a (RightOnWitness purpose property program) (Report reply)) (sym (schema_answer t fault e)) right

pub after_fault : (purpose : Purpose) (property : Property) (program : List ℕ) (t : Tree) (fault : SchemaFault) (reply : Reply) → IsAnswer t (Err fault)
    → IsSchemaRefusal fault reply → RightOnTree purpose property program t (Report reply)
after_fault purpose property program t (schema.Missing path) reply e right = refused_by_schema purpose property program t _ reply e right
after_fault purpose property program t (schema.WrongKind path) reply e right = refused_by_schema purpose property program t _ reply e right
after_fault purpose property program t (schema.BadValue path) reply e right = refused_by_schema purpose property program t _ reply e right
after_fault purpose property program t schema.Version reply e right = refused_by_schema purpose property program t _ reply e right
after_fault purpose property program t (schema.Shape segment) reply e right = refused_by_schema purpose property program t _ reply e right
after_fault purpose property program t schema.Entries reply e right = refused_by_schema purpose property program t _ reply e right
after_fault purpose property program t schema.OutOfMemory reply e right = absurd right

-- the same with the rules of the task
pub after_model : {E : Type 0} (purpose : Purpose) (property : Property) (program : List ℕ) (w : Witness) (model : DataModel) (result : Result Output E)
    → Gives (task_judged (sha256 program) property w.entries) (Ok model) → IfOk result (RightOnModel purpose property program w model)
    → IfOk result (RightOnWitness purpose property program w)
after_model purpose property program w model result answer right =
    subst (λ a. IfOk result (known itself (refusing IsTaskRefusal) a (RightOnModel purpose property program w))) (sym answer) right

refused_by_task : (purpose : Purpose) (property : Property) (program : List ℕ) (w : Witness) (fault : TaskFault) (reply : Reply)
    → task_judged (sha256 program) property w.entries ≡ Err fault → IsTaskRefusal fault reply → RightOnWitness purpose property program w (Report reply)
refused_by_task purpose property program w fault reply e right =
    subst (λ a. known itself (refusing IsTaskRefusal) a (RightOnModel purpose property program w) (Report reply)) (sym e) right

pub after_task_fault : (purpose : Purpose) (property : Property) (program : List ℕ) (w : Witness) (fault : TaskFault) (reply : Reply)
    → Gives (task_judged (sha256 program) property w.entries) (Err fault) → IsTaskRefusal fault reply → RightOnWitness purpose property program w (Report reply)
after_task_fault purpose property program w task.Files reply e right = refused_by_task purpose property program w _ reply e right
after_task_fault purpose property program w (task.Hash stated found) reply e right = refused_by_task purpose property program w _ reply e right
after_task_fault purpose property program w task.Specification reply e right = refused_by_task purpose property program w _ reply e right
after_task_fault purpose property program w task.Language reply e right = refused_by_task purpose property program w _ reply e right
after_task_fault purpose property program w task.Model reply e right = refused_by_task purpose property program w _ reply e right
after_task_fault purpose property program w task.Uuid reply e right = refused_by_task purpose property program w _ reply e right
after_task_fault purpose property program w task.OutOfMemory reply e right = absurd right

-- the same where a summary is asked for
pub shown_by : (t : Tree) (w : Witness) (text : List ℕ) → IsAnswer t (Ok w) → text ≡ summary_of w → SummaryOf (Summary text) t
shown_by t w text answer is = (w, witness_answer t w answer, is)

not_shown_by : (t : Tree) (fault : SchemaFault) (reply : Reply) → schema_fault t ≡ Some fault → IsSchemaRefusal fault reply → SummaryOf (Report reply) t
not_shown_by t fault reply e right = subst (λ a. known itself IsSchemaRefusal a NoWitnessReply reply) (sym (schema_answer t fault e)) right

pub not_shown : (t : Tree) (fault : SchemaFault) (reply : Reply) → IsAnswer t (Err fault) → IsSchemaRefusal fault reply → SummaryOf (Report reply) t
not_shown t (schema.Missing path) reply e right = not_shown_by t _ reply e right
not_shown t (schema.WrongKind path) reply e right = not_shown_by t _ reply e right
not_shown t (schema.BadValue path) reply e right = not_shown_by t _ reply e right
not_shown t schema.Version reply e right = not_shown_by t _ reply e right
not_shown t (schema.Shape segment) reply e right = not_shown_by t _ reply e right
not_shown t schema.Entries reply e right = not_shown_by t _ reply e right
not_shown t schema.OutOfMemory reply e right = absurd right

-- the same with the property
pub after_property : {E : Type 0} (purpose : Purpose) (program p asked a witness w : List ℕ) (property : Property) (result : Result Output E) → p ≡ program → a ≡ asked → w ≡ witness
    → Some property ≡ property_of a → IfOk result (RightUnder purpose p w property) → IfOk result (RightOnInputs purpose program asked witness)
after_property purpose program p asked a witness w property result same_program same_property same_witness e right =
    let here : IfOk result (RightUnder purpose program w property) = subst (λ x. IfOk result (RightUnder purpose x w property)) same_program right in
    let there : IfOk result (RightUnder purpose program witness property) = subst (λ x. IfOk result (RightUnder purpose program x property)) same_witness here in
    subst (λ o. IfOk result (given (Report (plain (codes "property"))) o (RightUnder purpose program witness))) (e ∙ ap property_of same_property) there
