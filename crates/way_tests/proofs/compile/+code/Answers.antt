use Rattle.std.proofs.Common.{◌≡◌, Option, List, IfOk, refl, sym, ap, subst}
use Rattle.c_core.specs.Tree.{Logic}
use Rattle.c_core.specs.View.{expr_view, node_view, program_view}
use Rattle.way_tests.specs.Code.{code_in, items_if}
use Rattle.way_tests.specs.declared.step.Step.{Step}
use Rattle.way_tests.proofs.compile.+code.Goals as goal

pub code-returns-in-Logic : goal.code-returns-in-Logic
code-returns-in-Logic t c =
    let e : node_view c.args.e.now.node ≡ Logic c.in-Logic.both (expr_view c.deref-in-Logic.result.now) (expr_view c.deref-in-Logic-2.result.now) =
    rw (c.in-Logic.is, c.deref-in-Logic.ensures, c.deref-in-Logic-2.ensures) refl in
    subst (λ (code : Option (List Step)). IfOk c.logic.result (λ steps. items_if steps ≡ code))
    (sym (ap (code_in (program_view c.args.program.now) c.args.yes c.args.no) e)) c.logic.ensures
