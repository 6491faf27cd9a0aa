use Rattle.std.proofs.Common.{◌++◌, length, false, ap, ◌∙◌}
use Rattle.c_core.specs.View.{program_view, expr_view}
use Rattle.run_state.specs.declared.machine.Around.{Around}
use Rattle.flow_code.specs.declared.code.Place.TheVariants.{Fixed}
use Rattle.flow_code.specs.declared.code.Then.TheVariants.{Drop}
use Rattle.flow_code.specs.Expressions.{stored_code}
use Rattle.flow_code.specs.Preparing.{stored_in}
use Rattle.flow_code.specs.Words.{native}
use Rattle.flow_code.proofs.declarations.initial.Goals as goal

pub returns : goal.returns
returns c =
    let p = program_view c.args.program.now in
    let ty = c.native-ty.ensures ∙ ap (native p.model) c.type_of_object-object_type.ensures in
    let around : Around = record { statement = c.args.at; full = c.args.e.now.spot } in
    c.in_ok-stored.ensures
    ∙ ap (λ t. c.args.ops.now ++ stored_code p around (length c.args.ops.now) 0 (expr_view c.args.e.now) (stored_in (Fixed c.args.object c.args.index) t false Drop)) ty
