use Rattle.std.proofs.Common.{ap, ◌∙◌}
use Rattle.c_core.specs.View.{expr_view, program_view}
use Rattle.c_core.specs.declared.program.Program.{Program}
use Rattle.way_places.specs.Inputs.{call_view}
use Rattle.way_match.specs.Given.{given_by_constant}
use Rattle.way_match.proofs.given_values.given_in.Goals as goal

pub returns : goal.returns
returns c =
    c.given_by_constant.ensures
    ∙ ap (λ (p : Program). given_by_constant (program_view p) (call_view c.args.call) (expr_view c.args.constant.now)) c.program.ensures
