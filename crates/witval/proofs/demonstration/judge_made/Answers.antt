use Rattle.std.proofs.Common.{◌∙◌, ap, subst}
use Rattle.wv_arguments.specs.Requests.{limits}
use Rattle.wv_schema.specs.Canonical.{tree_of}
use Rattle.wv_yaml.specs.Canon.{canon}
use Rattle.wv_yaml.specs.Document.{Spelled}
use Rattle.witval.proofs.Judged.{only_reports}
use Rattle.witval.proofs.MadeWitness.{as_files_if, read_if}
use Rattle.witval.proofs.demonstration.judge_made.Goals as goal

pub reply_of-requires : goal.reply_of-requires
reply_of-requires c = only_reports (limits c.args.budgets) c.as_bytes.result.now c.deref.result.now c.in_ok-output.output c.in_ok-output.ensures.right

pub returns-clause-as_files : goal.returns-clause-as_files
returns-clause-as_files c =
    as_files_if (limits c.args.budgets) c.args.program.now c.as_bytes.result.now c.in_ok-bytes.bytes.items c.deref.result.now c.args.witness.now c.in_ok-output.output _
    (c.as_bytes.ensures.value ∙ c.as_str.ensures) c.deref.ensures.value (c.in_ok-bytes.ensures.text ∙ ap canon c.in_ok-tree.ensures) c.reply_of.ensures c.in_ok-output.ensures.right

pub returns-clause-past_task : goal.returns-clause-past_task
returns-clause-past_task c =
    let spelled : Spelled (tree_of c.args.witness.now) c.in_ok-bytes.bytes.items = subst (λ t. Spelled t c.in_ok-bytes.bytes.items) c.in_ok-tree.ensures c.in_ok-bytes.ensures.spelled in
    read_if (limits c.args.budgets) c.args.program.now c.as_bytes.result.now c.in_ok-bytes.bytes.items c.deref.result.now c.args.witness.now c.in_ok-output.output _
    (c.as_bytes.ensures.value ∙ c.as_str.ensures) c.deref.ensures.value c.requires.written spelled c.requires.task c.reply_of.ensures c.in_ok-output.ensures.right
