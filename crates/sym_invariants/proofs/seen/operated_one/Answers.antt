use Rattle.c_core.specs.View.{program_view}
use Rattle.sym_invariants.proofs.Answering.{one_sees}
use Rattle.sym_invariants.proofs.seen.operated_one.Goals as goal

pub returns : goal.returns
returns c f x =
    one_sees (program_view c.args.program.now) c.args.op c.args.a c.args.sym.now c.convert.new.sym c.one_bits.new.net c.and.new.self c.args.x.now.bits.bits c.in_ok-u.u.bits c.in_ok-out.out c.args.x.now.defined c.not.result c.in_ok-defined.defined f x
    c.promote-ty.result c.promote-ty.ensures c.in_ok-u.ensures c.in_ok-out.ensures.grown c.in_ok-out.ensures.value c.not.ensures c.in_ok-defined.ensures.grown c.in_ok-defined.ensures.value
