use Rattle.c_core.specs.View.{program_view}
use Rattle.sym_invariants.proofs.Answering.{both_sees}
use Rattle.sym_invariants.proofs.seen.operated.Goals as goal

pub returns : goal.returns
returns c f g x y =
    both_sees (program_view c.args.program.now) c.args.op c.args.a c.args.b c.args.sym.now c.convert.new.sym c.convert-2.new.sym c.apply_bits.new.net c.and.new.self c.and-2.new.self c.args.x.now.bits.bits c.args.y.now.bits.bits c.in_ok-u.u.bits c.in_ok-w.w.bits
    c.in_ok-out.out c.args.x.now.defined c.args.y.now.defined c.in_ok-both.both c.not.result c.in_ok-defined.defined f g x y
    c.type_for-ty.result c.right_type-right.result c.type_for-ty.ensures.value c.right_type-right.ensures.value c.in_ok-u.ensures c.in_ok-w.ensures c.in_ok-out.ensures.grown c.in_ok-out.ensures.value
    c.in_ok-both.ensures.grown c.in_ok-both.ensures.value c.not.ensures c.in_ok-defined.ensures.grown c.in_ok-defined.ensures.value
