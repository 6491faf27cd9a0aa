use Rattle.wv_arguments.specs.Requests.{named}
use Rattle.witval.proofs.Judged.{recheck_if}
use Rattle.witval.proofs.OfBytes.{stopped_four}
use Rattle.witval.proofs.answer.recheck.Goals as goal

pub returns-in-Ok-clause-right : goal.returns-in-Ok-clause-right
returns-in-Ok-clause-right g c =
    let e = c.in-Ok.ensures in
    (recheck_if (named c.args.names.now) c.args.certificate.now _ _ c.in-Ok.four _ e.within e.inputs e.within_limit e.certificate c.recheck_four.ensures).0

pub returns-in-Ok-clause-integers : goal.returns-in-Ok-clause-integers
returns-in-Ok-clause-integers g c =
    let e = c.in-Ok.ensures in
    let shelf = g.S.Shelf.state c.args.shelf.now in
    (recheck_if (named c.args.names.now) c.args.certificate.now shelf shelf c.in-Ok.four _ e.within e.inputs e.within_limit e.certificate c.recheck_four.ensures).1

pub returns-in_ok-stopped_of_four-in-Err-clause-right : goal.returns-in_ok-stopped_of_four-in-Err-clause-right
returns-in_ok-stopped_of_four-in-Err-clause-right g c =
    (stopped_four (named c.args.names.now) c.args.certificate.now _ _ c.in-Err.stop _ c.in_ok-stopped_of_four-in-Err.ensures c.in-Err.ensures.stop).0

pub returns-in_ok-stopped_of_four-in-Err-clause-integers : goal.returns-in_ok-stopped_of_four-in-Err-clause-integers
returns-in_ok-stopped_of_four-in-Err-clause-integers g c =
    (stopped_four (named c.args.names.now) c.args.certificate.now _ _ c.in-Err.stop _ c.in_ok-stopped_of_four-in-Err.ensures c.in-Err.ensures.stop).1
