use Rattle.wv_arguments.specs.Requests.{labelled}
use Rattle.witval.proofs.Sources.{after_property}
use Rattle.witval.proofs.authoring.author_inputs.Goals as goal

pub returns-in-Ok : goal.returns-in-Ok
returns-in-Ok c =
    let inputs = c.args.inputs.now in
    let draft = c.args.draft.now in
    after_property (labelled draft.label) draft.steps draft.file.now inputs.program.items _ inputs.property.items _ inputs.witness.items _ c.in-Ok.property _
    c.deref-in-Ok.ensures.value c.deref.ensures.value c.deref-in-Ok-2.ensures.value c.in-Ok.ensures c.author_bytes.ensures
