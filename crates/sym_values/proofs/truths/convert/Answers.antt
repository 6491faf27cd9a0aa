use Rattle.c_core.specs.View.{program_view}
use Rattle.sym_values.proofs.Reckoning.{reckoned}
use Rattle.sym_values.proofs.truths.convert.Goals as goal

pub returns : goal.returns
returns c = reckoned (program_view c.args.program.now) c.args.sym.now c.convert_bits.new.net c.args.to c.in_ok-bits.bits.bits _ c.requires.fits c.in_ok-bits.ensures.grown c.in_ok-bits.ensures.value
