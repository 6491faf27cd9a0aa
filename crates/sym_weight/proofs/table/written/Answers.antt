use Rattle.std.proofs.Common.{ap, sym, ◌∙◌}
use Rattle.c_core.specs.View.{exprs_view, node_view, program_view}
use Rattle.c_core.proofs.View.{view_of_index}
use Rattle.sym_weight.specs.Table.{element, written_node}
use Rattle.sym_weight.proofs.table.written.Goals as goal

pub returns-in-Index-clause-value : goal.returns-in-Index-clause-value
returns-in-Index-clause-value c =
    let p = program_view c.args.program.now in
    c.element.ensures.value ∙ ap (λ es. element p c.in-Index.object (exprs_view es)) c.as_slice.ensures ∙ sym (ap (written_node p) (ap node_view c.in-Index.is ∙ view_of_index c.in-Index.object c.in-Index.at))
