use Rattle.std.proofs.Common.{false, refl}
use Rattle.circuits.proofs.Nets.{opp}
use Rattle.sym_choices.proofs.ArmLaws.{some_none, some_on}
use Rattle.sym_choices.proofs.choosing.any_of.Goals as goal

pub loop-bit-init : goal.loop-bit-init
loop-bit-init c = some_none c.args.bits.now c.args.bits.now c.not-any.result c.args.net.now refl (opp c.not-any.ensures c.yes.ensures)

pub loop-bit-preserved : goal.loop-bit-preserved
loop-bit-preserved c =
    some_on c.args.bits.now c.loop-bit.bit-index (record { node = 0; negated = false }) _ c.loop-bit-test.true refl c.loop-bit.any c.in_ok-any.any c.args.net.now c.loop-bit.net c.together.new.self c.requires.bits_in c.loop-bit.invariant
    c.in_ok-any.ensures.grown c.in_ok-any.ensures.value
