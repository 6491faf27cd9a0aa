use Rattle.std.proofs.Common.{rules, ◌≡◌, Err, length, ◌∙◌, ap}
use Rattle.std.specs.Vec.{vec_len}
use Rattle.flow_laws.specs.Acting.{with_parameters}
use Rattle.flow_laws.specs.Machines.{Control}
use Rattle.flow_machine.specs.Views.{control_of}
use Rattle.flow_machine.proofs.Passed.{kept_below, taken_above}
use Rattle.flow_machine.proofs.calling.take_arguments.Goals as goal

pub returns-clause-control : goal.returns-clause-control
returns-clause-control c =
    let n : vec_len c.args.control.now.stack ≡ length c.args.control.now.stack.items = search rules in
    let k : Control = control_of c.args.control.now in
    ap (λ vs. record k { stack = vs })
    (kept_below c.args.count c.saturating_sub-below.result c.len.result c.args.control.now.stack.items c.truncate.new.self.items c.truncate.ensures.items c.saturating_sub-below.ensures (c.len.ensures ∙ n))

pub returns-clause-cells : goal.returns-clause-cells
returns-clause-cells c =
    let n : vec_len c.args.control.now.stack ≡ length c.args.control.now.stack.items = search rules in
    c.in_ok-set_parameters.ensures.cells
    ∙ ap (λ vs. with_parameters c.args.parameters.now vs c.args.memory.now.cells)
    (taken_above c.args.count c.saturating_sub-below.result c.len.result c.args.control.now.stack.items c.as_slice.result.now c.as_slice.ensures.value c.saturating_sub-below.ensures (c.len.ensures ∙ n))

pub returns-in_err-set_parameters-clause-lasting : goal.returns-in_err-set_parameters-clause-lasting
returns-in_err-set_parameters-clause-lasting c = λ h.
    let e : c.from_residual.result ≡ Err c.in_err-set_parameters.field-0.0 = search rules in
    rw e (c.in_err-set_parameters.ensures.lasting h)
