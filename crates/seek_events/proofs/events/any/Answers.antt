use Rattle.std.proofs.Common.{arith, false}
use Rattle.circuits.proofs.Nets.{wider}
use Rattle.seek_events.proofs.Bits.{bit_later}
use Rattle.seek_events.proofs.Following.{some_end, some_next, some_none}
use Rattle.seek_events.proofs.events.any.Goals as goal

pub loop-i-init : goal.loop-i-init
loop-i-init c = some_none _ _ _ c.yes.ensures c.not-some.ensures

pub or-requires-clause-a_in : goal.or-requires-clause-a_in
or-requires-clause-a_in c = c.loop-i.invariant.value.inside

pub or-requires-clause-b_in : goal.or-requires-clause-b_in
or-requires-clause-b_in c = bit_later c.args.bits.now c.loop-i.i (record { node = 0; negated = false }) c.loop-i.invariant.grown c.requires.bits_in (omega arith)

pub loop-i-preserved : goal.loop-i-preserved
loop-i-preserved c = some_next _ _ _ _ _ _ _ _ c.loop-i.invariant c.in_ok-some.ensures.grown c.in_ok-some.ensures.value c.requires.bits_in (omega arith)

pub returns-clause-value : goal.returns-clause-value
returns-clause-value c = (some_end _ _ _ _ _ c.loop-i.invariant (omega arith)).value

pub returns-clause-grown : goal.returns-clause-grown
returns-clause-grown c = wider c.loop-i.invariant.grown (omega arith)
