use Rattle.wv_arguments.specs.Requests.{given, labelled}
use Rattle.witval.proofs.Sources.{author_if, stopped_at_source}
use Rattle.witval.proofs.answer.author.Goals as goal

pub returns-in-Ok-clause-right : goal.returns-in-Ok-clause-right
returns-in-Ok-clause-right g c =
    (author_if (given c.args.sources.now) (labelled c.args.label.now) c.args.steps _ _ c.in-Ok.inputs _ c.in-Ok.ensures.within c.in-Ok.ensures.inputs c.author_inputs.ensures).0

pub returns-in-Ok-clause-integers : goal.returns-in-Ok-clause-integers
returns-in-Ok-clause-integers g c =
    let shelf = g.S.Shelf.state c.args.shelf.now in
    (author_if (given c.args.sources.now) (labelled c.args.label.now) c.args.steps shelf shelf c.in-Ok.inputs _ c.in-Ok.ensures.within c.in-Ok.ensures.inputs c.author_inputs.ensures).1

pub returns-in_ok-stopped_at_source-in-Err-clause-right : goal.returns-in_ok-stopped_at_source-in-Err-clause-right
returns-in_ok-stopped_at_source-in-Err-clause-right g c =
    (stopped_at_source (given c.args.sources.now) (labelled c.args.label.now) c.args.steps _ _ c.in-Err.stop _ c.in_ok-stopped_at_source-in-Err.ensures c.in-Err.ensures.stop).0

pub returns-in_ok-stopped_at_source-in-Err-clause-integers : goal.returns-in_ok-stopped_at_source-in-Err-clause-integers
returns-in_ok-stopped_at_source-in-Err-clause-integers g c =
    (stopped_at_source (given c.args.sources.now) (labelled c.args.label.now) c.args.steps _ _ c.in-Err.stop _ c.in_ok-stopped_at_source-in-Err.ensures c.in-Err.ensures.stop).1
