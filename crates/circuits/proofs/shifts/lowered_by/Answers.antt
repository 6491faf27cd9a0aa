use Rattle.std.proofs.Common.{◌*◌, refl, ap, arith, length}
use Rattle.circuits.proofs.Nets.{grown_not, grown_then}
use Rattle.circuits.proofs.Multiplying.{row_fits}
use Rattle.circuits.proofs.Raising.{lowered_none, lowered_next, lowered_end, pow_up}
use Rattle.circuits.proofs.shifts.lowered_by.Goals as goal

pub loop-i-init : goal.loop-i-init
loop-i-init c = lowered_none _ c.in_ok-out.ensures c.requires.a_in

pub lowered-requires-clause-within : goal.lowered-requires-clause-within
lowered-requires-clause-within c = omega (arith, c.loop-i.invariant.power, c.loop-i.invariant.wide, ap length c.deref.ensures.value, pow_up c.loop-i.i (length c.args.tests.now) (omega arith), c.requires.within)

pub loop-i-preserved : goal.loop-i-preserved
loop-i-preserved c = lowered_next _ _ _ c.loop-i.invariant (omega arith) c.requires.tests_in refl c.deref.ensures.value c.in_ok-out-2.ensures.grown c.in_ok-out-2.ensures.value refl

pub returns-in_err-out-clause-grown : goal.returns-in_err-out-clause-grown
returns-in_err-out-clause-grown c = grown_not _ _

pub returns-in_err-out-2-clause-grown : goal.returns-in_err-out-2-clause-grown
returns-in_err-out-2-clause-grown c =
    let w = c.loop-i.invariant.wide in
    grown_then _ _ _ _ _ _ c.loop-i.invariant.grown c.in_err-out-2.ensures.grown (omega (arith, ap length c.deref.ensures.value, row_fits c.loop-i.i (length c.args.tests.now) (3 * length c.args.a.now) (omega arith)))

pub returns-clause-value : goal.returns-clause-value
returns-clause-value c = lowered_end _ _ c.loop-i.invariant (omega arith)
