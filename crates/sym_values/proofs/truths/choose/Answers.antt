use Rattle.c_core.specs.View.{program_view}
use Rattle.sym_values.proofs.Reckoning.{choice_reckoned}
use Rattle.sym_values.proofs.truths.choose.Goals as goal

pub returns : goal.returns
returns c =
    choice_reckoned (program_view c.args.program.now) c.args.sym.now c.choose_bits.new.net c.args.ty c.args.test c.args.yes.now.bits c.args.no.now.bits c.in_ok-bits.bits.bits c.requires.fits c.requires.yes_in
    c.in_ok-bits.ensures.grown c.in_ok-bits.ensures.value
