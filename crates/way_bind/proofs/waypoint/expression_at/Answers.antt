use Rattle.std.proofs.Common.{sym, subst, IsTrue}
use Rattle.c_core.specs.View.{expr_view, program_view}
use Rattle.c_core.specs.declared.program.Program as stored
use Rattle.way_names.specs.Visible.{is_scoped}
use Rattle.way_bind.specs.Binding.{seen}
use Rattle.way_bind.proofs.ExpressionLaws.{visible_there}
use Rattle.way_bind.proofs.waypoint.expression_at.Goals as goal

pub invariant_of-place : goal.invariant_of-place
invariant_of-place c = record { there = subst (λ (p : stored.Program). IsTrue (is_scoped (program_view p) c.args.kind c.args.spot)) (sym c.args.lookup.now.one_program) c.requires }

pub returns : goal.returns
returns c =
    visible_there c.args.lookup.now.names.program.now c.args.lookup.now.index c.args.kind c.args.text.now c.args.spot (seen expr_view c.expression_of.result)
    c.args.lookup.now.one_program c.expression_of.ensures
