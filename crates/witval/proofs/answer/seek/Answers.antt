use Rattle.std.proofs.Common.{IfOk, subst}
use Rattle.wv_arguments.specs.Requests.{named}
use Rattle.witval.specs.Purposes.{RightOnInputs, Seeking}
use Rattle.witval.proofs.KeptLaws.{of_file}
use Rattle.witval.proofs.OfBytes.{stopped}
use Rattle.witval.proofs.Searched.{seek_if}
use Rattle.witval.proofs.answer.seek.Goals as goal

pub returns-in-Ok-clause-right : goal.returns-in-Ok-clause-right
returns-in-Ok-clause-right g c =
    let inputs = c.in-Ok.inputs in
    let right =
    subst (λ n. IfOk c.judge.result (RightOnInputs (Seeking n c.args.conflicts) inputs.program.items inputs.property.items inputs.witness.items))
    c.turns_of-turns.ensures c.judge.ensures.right in
    (seek_if (named c.args.names.now) c.args.turns c.args.conflicts _ _ inputs _ c.in-Ok.ensures.within c.in-Ok.ensures.inputs right).0

pub returns-in-Ok-clause-integers : goal.returns-in-Ok-clause-integers
returns-in-Ok-clause-integers g c =
    let inputs = c.in-Ok.inputs in
    let right =
    subst (λ n. IfOk c.judge.result (RightOnInputs (Seeking n c.args.conflicts) inputs.program.items inputs.property.items inputs.witness.items))
    c.turns_of-turns.ensures c.judge.ensures.right in
    let state = g.S.Shelf.state c.args.shelf.now in
    (seek_if (named c.args.names.now) c.args.turns c.args.conflicts state state inputs _ c.in-Ok.ensures.within c.in-Ok.ensures.inputs right).1

pub returns-in_ok-stopped-in-Err-clause-right : goal.returns-in_ok-stopped-in-Err-clause-right
returns-in_ok-stopped-in-Err-clause-right g c = (stopped (named c.args.names.now) (Seeking c.args.turns c.args.conflicts) _ _ c.in-Err.stop _ c.in_ok-stopped-in-Err.ensures c.in-Err.ensures.stop).0

pub returns-in_ok-stopped-in-Err-clause-integers : goal.returns-in_ok-stopped-in-Err-clause-integers
returns-in_ok-stopped-in-Err-clause-integers g c = (stopped (named c.args.names.now) (Seeking c.args.turns c.args.conflicts) _ _ c.in-Err.stop _ c.in_ok-stopped-in-Err.ensures c.in-Err.ensures.stop).1

pub returns-in-Ok-clause-kept : goal.returns-in-Ok-clause-kept
returns-in-Ok-clause-kept g c = of_file (named c.args.names.now) (g.S.Shelf.state c.args.shelf.now) c.in-Ok.inputs _ c.in-Ok.ensures.inputs c.judge.ensures.kept
