use Rattle.c_core.specs.View.{program_view}
use Rattle.way_bind.proofs.TestLaws.{unread, at_void, untyped, tested}
use Rattle.way_bind.proofs.waypoint.test_of.Goals as goal

pub returns-in_err-test : goal.returns-in_err-test
returns-in_err-test c =
    unread (program_view c.args.program.now) c.args.valued c.as_bytes.result.now c.args.text.now c.in_err-test.field-0.0 c.from_residual.result c.as_bytes.ensures.value c.from_residual.ensures.1 c.in_err-test.ensures

pub returns-then-not-valued : goal.returns-then-not-valued
returns-then-not-valued c =
    at_void (program_view c.args.program.now) c.args.valued c.as_bytes.result.now c.args.text.now c.in_ok-test.test c.as_bytes.ensures.value c.if-not-valued.true c.in_ok-test.ensures

pub returns-in_err-constant : goal.returns-in_err-constant
returns-in_err-constant c =
    untyped (program_view c.args.program.now) c.args.valued c.as_bytes.result.now c.args.text.now c.in_ok-test.test c.in_err-constant.field-0.0 c.from_residual-in_err-constant.result c.as_bytes.ensures.value c.if-not-valued.false c.from_residual-in_err-constant.ensures.1 c.in_ok-test.ensures c.in_err-constant.ensures

pub returns : goal.returns
returns c =
    tested (program_view c.args.program.now) c.args.valued c.as_bytes.result.now c.args.text.now c.in_ok-test.test c.in_ok-constant.constant c.as_bytes.ensures.value c.if-not-valued.false c.in_ok-test.ensures c.in_ok-constant.ensures
