use Rattle.std.proofs.Common.{◌≡◌, true, false, Some, refl, sym, ap, ◌∙◌}
use Rattle.c_core.specs.Tree.{Expr, Binary, Logic}
use Rattle.c_core.specs.View.{expr_view, node_view, program_view}
use Rattle.c_meaning.specs.Value.{value_of}
use Rattle.c_meaning.proofs.Valued.{binary_gives, logic_gives}
use Rattle.way_tests.specs.Truth.{truth_in}
use Rattle.way_tests.proofs.TruthLaws.{undefined_left, true_left, false_left, true_decides, false_passes, logic_truth}
use Rattle.way_tests.proofs.truth.+truth.Goals as goal

pub and-returns-in-None : goal.and-returns-in-None
and-returns-in-None t c =
    undefined_left true _ _ (sym c.truth.ensures ∙ c.in-None.is) ∙
    sym (logic_truth (program_view c.args.program.now) (expr_view c.args.left.now) (expr_view c.args.right.now) c.args.memory.now.cells true)

pub and-returns-then-first : goal.and-returns-then-first
and-returns-then-first t c =
    c.truth-then-first.ensures ∙ true_left _ _ (sym c.truth.ensures ∙ c.in-Some.is ∙ ap (λ b. Some b) c.if-first.true) ∙
    sym (logic_truth (program_view c.args.program.now) (expr_view c.args.left.now) (expr_view c.args.right.now) c.args.memory.now.cells true)

pub and-returns-else-first : goal.and-returns-else-first
and-returns-else-first t c =
    false_left _ _ (sym c.truth.ensures ∙ c.in-Some.is ∙ ap (λ b. Some b) c.if-first.false) ∙
    sym (logic_truth (program_view c.args.program.now) (expr_view c.args.left.now) (expr_view c.args.right.now) c.args.memory.now.cells true)

pub or-returns-in-None : goal.or-returns-in-None
or-returns-in-None t c =
    undefined_left false _ _ (sym c.truth.ensures ∙ c.in-None.is) ∙
    sym (logic_truth (program_view c.args.program.now) (expr_view c.args.left.now) (expr_view c.args.right.now) c.args.memory.now.cells false)

pub or-returns-then-first : goal.or-returns-then-first
or-returns-then-first t c =
    true_decides _ _ (sym c.truth.ensures ∙ c.in-Some.is ∙ ap (λ b. Some b) c.if-first.true) ∙
    sym (logic_truth (program_view c.args.program.now) (expr_view c.args.left.now) (expr_view c.args.right.now) c.args.memory.now.cells false)

pub or-returns-else-first : goal.or-returns-else-first
or-returns-else-first t c =
    c.truth-else-first.ensures ∙ false_passes _ _ (sym c.truth.ensures ∙ c.in-Some.is ∙ ap (λ b. Some b) c.if-first.false) ∙
    sym (logic_truth (program_view c.args.program.now) (expr_view c.args.left.now) (expr_view c.args.right.now) c.args.memory.now.cells false)

pub truth-returns-in-Logic : goal.truth-returns-in-Logic
truth-returns-in-Logic t c =
    let e : node_view c.args.e.now.node ≡ Logic c.in-Logic.both (expr_view c.deref.result.now) (expr_view c.deref-in-Logic.result.now) = rw (c.in-Logic.is, c.deref.ensures, c.deref-in-Logic.ensures) refl in
    c.logic.ensures ∙ sym (ap (λ n. truth_in (value_of (program_view c.args.program.now) (Expr c.args.e.now.spot c.args.e.now.ty n) c.args.memory.now.cells)) e ∙ ap truth_in (logic_gives (program_view c.args.program.now) c.args.e.now.spot c.args.e.now.ty c.args.memory.now.cells c.in-Logic.both (expr_view c.deref.result.now) (expr_view c.deref-in-Logic.result.now)))

pub truth-returns-then-is_comparison : goal.truth-returns-then-is_comparison
truth-returns-then-is_comparison t c =
    let e : node_view c.args.e.now.node ≡ Binary c.in-Binary.op (expr_view c.deref-then-is_comparison.result.now) (expr_view c.deref-then-is_comparison-2.result.now) =
    rw (c.in-Binary.is, c.deref-then-is_comparison.ensures, c.deref-then-is_comparison-2.ensures) refl in
    c.compared.ensures ∙ sym (ap (λ n. truth_in (value_of (program_view c.args.program.now) (Expr c.args.e.now.spot c.args.e.now.ty n) c.args.memory.now.cells)) e ∙ ap truth_in (binary_gives (program_view c.args.program.now) c.args.e.now.spot c.args.e.now.ty c.args.memory.now.cells c.in-Binary.op (expr_view c.deref-then-is_comparison.result.now) (expr_view c.deref-then-is_comparison-2.result.now)))
