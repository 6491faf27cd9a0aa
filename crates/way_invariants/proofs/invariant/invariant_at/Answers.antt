use Rattle.std.proofs.Common.{IsTrue, sym, subst, Ok, Err}
use Rattle.c_core.specs.View.{expr_view, program_view}
use Rattle.c_meaning.specs.Placing.{placed}
use Rattle.way_names.specs.Visible.{is_scoped}
use Rattle.way_bind.proofs.ExpressionLaws.{lacking_there}
use Rattle.way_invariants.specs.Invariants.{place_of, placed_at}
use Rattle.way_invariants.proofs.PlacedLaws.{placed_here, read_there}
use Rattle.way_invariants.proofs.invariant.invariant_at.Goals as goal

pub expression_at-requires : goal.expression_at-requires
expression_at-requires c = subst (λ k. IsTrue (is_scoped (program_view c.args.lookup.now.index) k c.args.spot)) (sym c.place_of.ensures) c.requires

pub returns-in_err-test : goal.returns-in_err-test
returns-in_err-test c =
    lacking_there (program_view c.args.lookup.now.index) (place_of c.args.kind) c.args.text.now (placed_at c.args.kind) placed c.args.spot c.in_err-test.field-0.0 c.from_residual.result c.from_residual.ensures.1
    (read_there (program_view c.args.lookup.now.index) c.place_of.result c.args.kind c.args.text.now c.args.spot (Err c.in_err-test.field-0.0) c.place_of.ensures c.in_err-test.ensures)

pub returns : goal.returns
returns c =
    placed_here (program_view c.args.lookup.now.index) c.args.kind c.args.text.now c.args.spot c.in_ok-test.test c.is_at_loop.result c.is_at_loop.ensures
    (read_there (program_view c.args.lookup.now.index) c.place_of.result c.args.kind c.args.text.now c.args.spot (Ok (expr_view c.in_ok-test.test)) c.place_of.ensures c.in_ok-test.ensures)
