use Rattle.std.proofs.Common.{ap, ◌∙◌}
use Rattle.c_core.specs.View.{program_view}
use Rattle.c_core.specs.declared.program.Program.{Program}
use Rattle.way_match.specs.Given.{given_by}
use Rattle.way_match.specs.View.{segments_view}
use Rattle.way_match.proofs.given_values.given.Goals as goal

pub returns : goal.returns
returns c =
    c.in_ok-choices.ensures ∙ ap (λ (p : Program). given_by (program_view p) (segments_view c.args.bound.now)) c.in_ok-index.ensures
