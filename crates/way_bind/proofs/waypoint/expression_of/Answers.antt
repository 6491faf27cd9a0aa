use Rattle.way_names.specs.AtPlaces.{program_at, visible}
use Rattle.way_bind.proofs.ExpressionLaws.{unread, untyped, typed_expression}
use Rattle.way_bind.proofs.waypoint.expression_of.Goals as goal

pub returns-in_err-expr : goal.returns-in_err-expr
returns-in_err-expr c =
    unread (program_at c.args.place.now) (visible c.args.place.now) c.as_bytes.result.now c.args.text.now c.in_err-expr.field-0.0 c.from_residual.result c.as_bytes.ensures.value c.from_residual.ensures.1 c.in_err-expr.ensures

pub returns-in_err-test : goal.returns-in_err-test
returns-in_err-test c =
    untyped (program_at c.args.place.now) (visible c.args.place.now) c.as_bytes.result.now c.args.text.now c.in_ok-expr.expr c.in_err-test.field-0.0 c.from_residual-in_err-test.result c.as_bytes.ensures.value c.from_residual-in_err-test.ensures.1 c.in_ok-expr.ensures c.in_err-test.ensures.answer

pub returns : goal.returns
returns c =
    typed_expression (program_at c.args.place.now) (visible c.args.place.now) c.as_bytes.result.now c.args.text.now c.in_ok-expr.expr c.in_ok-test.test c.as_bytes.ensures.value c.in_ok-expr.ensures c.in_ok-test.ensures.answer
