use Rattle.std.proofs.Common.{sym, ◌∙◌}
use Rattle.c_parser.specs.View.{expr_view}
use Rattle.way_names.specs.AtPlaces.{objects_of, visible}
use Rattle.way_constraint.proofs.FewLaws.{answer_of_few, fits_if}
use Rattle.way_constraint.proofs.check.check_at.Goals as goal

pub returns-clause-answer : goal.returns-clause-answer
returns-clause-answer c =
    answer_of_few c.args.place.now.names.now.program.now.model (objects_of c.args.place.now) (visible c.args.place.now) c.as_slice.result.now (expr_view c.args.expr.now)
    (c.as_slice.ensures.value ∙ c.in_ok-few.ensures) c.constraint_in.result c.constraint_in.ensures.answer

pub returns-clause-fits : goal.returns-clause-fits
returns-clause-fits c =
    fits_if c.args.place.now.names.now.program.now.model (objects_of c.args.place.now) (visible c.args.place.now) c.as_slice.result.now (expr_view c.args.expr.now)
    (c.as_slice.ensures.value ∙ c.in_ok-few.ensures) c.constraint_in.result c.constraint_in.ensures.answer
