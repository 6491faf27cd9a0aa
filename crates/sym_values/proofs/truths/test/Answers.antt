use Rattle.std.proofs.Common.{get_or, ap, false}
use Rattle.c_core.specs.View.{program_view}
use Rattle.sym_values.proofs.Reckoning.{decided}
use Rattle.sym_values.proofs.truths.test.Goals as goal

pub returns : goal.returns
returns c =
    decided (program_view c.args.program.now) c.args.sym.now c.convert_bits.new.net c.in_ok-truth.truth.bits (record { node = 0; negated = false }) _ _ c.requires.fits c.in_ok-truth.ensures.grown c.in_ok-truth.ensures.value
    (ap (λ z. get_or z 0 (record { node = 0; negated = false })) c.as_slice.ensures)
