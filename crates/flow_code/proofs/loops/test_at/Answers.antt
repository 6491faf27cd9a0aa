use Rattle.std.proofs.Common.{◌++◌, length, true, ap, ◌∙◌}
use Rattle.c_core.specs.View.{program_view, expr_view}
use Rattle.c_meaning.specs.Meaning.{Used}
use Rattle.flow_code.specs.declared.code.Then.TheVariants.{Branch}
use Rattle.flow_code.specs.Expressions.{code}
use Rattle.flow_code.proofs.loops.test_at.Goals as goal

pub returns : goal.returns
returns c =
    c.in_ok-expression.ensures ∙ ap (λ a. c.args.ops.now ++ code (program_view c.args.program.now) a (length c.args.ops.now) 0 Used (expr_view c.args.test.now) (Branch c.args.at true c.args.to)) c.full_of-around.ensures
