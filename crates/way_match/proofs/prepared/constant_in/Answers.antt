use Rattle.std.proofs.Common.{ap, ◌∙◌}
use Rattle.c_core.specs.View.{expr_view, program_view}
use Rattle.c_core.specs.declared.program.Program.{Program}
use Rattle.way_match.specs.Passing.{constant_of}
use Rattle.way_match.proofs.prepared.constant_in.Goals as goal

pub returns : goal.returns
returns c = c.constant.ensures ∙ ap (λ (p : Program). constant_of (program_view p) (expr_view c.args.e.now)) c.program.ensures
