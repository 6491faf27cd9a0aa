use Rattle.std.proofs.Common.{false, List, sym, ap, ◌∙◌}
use Rattle.c_core.specs.View.{expr_view, program_view}
use Rattle.way_tests.specs.Code.{is_yes, taken}
use Rattle.way_tests.specs.declared.step.Step.{Step}
use Rattle.way_tests.proofs.CodeLaws.{code_holds}
use Rattle.way_tests.proofs.answer.holds_by.Goals as goal

pub returns-in-Some : goal.returns-in-Some
returns-in-Some c =
    c.answer.ensures ∙ ap (λ (xs : List Step). is_yes (taken c.args.program.now.model c.args.memory.now.cells 0 false xs)) c.as_slice.ensures ∙
    code_holds (program_view c.args.program.now) (expr_view c.args.test.now) _ c.args.memory.now.cells (sym c.requires ∙ c.in-Some.is)
