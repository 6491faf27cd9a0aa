use Rattle.std.proofs.Common.{◌++◌, length, ap, ◌∙◌}
use Rattle.std.proofs.lemmas.Result.{on_ok_weaker}
use Rattle.c_core.specs.View.{program_view, expr_view}
use Rattle.c_meaning.specs.Meaning.{Unused}
use Rattle.flow_code.specs.declared.code.Then.TheVariants.{Drop}
use Rattle.flow_code.specs.Expressions.{code}
use Rattle.flow_code.proofs.Gluing.{nothing_more}
use Rattle.flow_code.proofs.loops.evaluate_if.Goals as goal

pub returns-in-None : goal.returns-in-None
returns-in-None c =
    rw c.in-None.is (nothing_more c.args.ops.now)

pub returns-in-Some : goal.returns-in-Some
returns-in-Some c =
    rw c.in-Some.is (on_ok_weaker c.expression.result (λ h. h ∙ ap (λ a. c.args.ops.now ++ code (program_view c.args.program.now) a (length c.args.ops.now) 0 Unused (expr_view c.in-Some.e) (Drop)) c.full_of.ensures) c.expression.ensures)
