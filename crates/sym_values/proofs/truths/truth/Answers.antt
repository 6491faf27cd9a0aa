use Rattle.std.proofs.Common.{◌∙◌, ◌++◌, ◌∷◌, [], ap}
use Rattle.c_core.specs.View.{program_view}
use Rattle.sym_values.proofs.Reckoning.{truth_reckoned}
use Rattle.sym_values.proofs.truths.truth.Goals as goal

pub returns : goal.returns
returns c =
    truth_reckoned (program_view c.args.program.now) c.args.sym.now c.convert_bits.new.net c.args.bit c.from_vec.result c.in_ok-bits.bits.bits c.requires.fits c.requires.bit_in
    (c.from_vec.ensures ∙ c.in_ok-push.ensures.items ∙ ap (λ z. z ++ c.args.bit ∷ []) c.new-digit.ensures.items)
    c.in_ok-bits.ensures.grown c.in_ok-bits.ensures.value
