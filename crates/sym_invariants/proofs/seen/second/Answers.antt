use Rattle.c_core.specs.View.{program_view}
use Rattle.sym_invariants.proofs.Deciding.{second_sees}
use Rattle.sym_invariants.proofs.seen.second.Goals as goal

pub returns : goal.returns
returns c s t f g x y =
    second_sees (program_view c.args.program.now) s t c.args.sym.now c.and.new.self c.args.x.now.bits.bits c.args.y.bits.bits c.args.x.now.defined c.args.y.defined c.in_ok-defined.defined f g c.requires.fits x y c.in_ok-defined.ensures.grown c.in_ok-defined.ensures.value
