use Rattle.c_core.specs.View.{program_view, expr_view}
use Rattle.sym_invariants.proofs.Forms.{holds_step}
use Rattle.sym_invariants.proofs.values.holds_bit.Goals as goal

pub returns : goal.returns
returns c =
    holds_step (program_view c.args.program.now) (expr_view c.args.e.now) c.type_of.result c.type_of.ensures c.requires c.in_ok-x.ensures c.in_ok-truth.ensures c.in_ok-holds.ensures.grown c.in_ok-holds.ensures.value
