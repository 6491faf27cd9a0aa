use Rattle.std.proofs.Common.{◌+◌, ◌*◌, ◌^◌, refl, ap, arith, length}
use Rattle.circuits.proofs.Nets.{grown_not, grown_then, longer}
use Rattle.circuits.proofs.Multiplying.{row_fits}
use Rattle.circuits.proofs.Raising.{raised_none, raised_next, raised_end, raised_step}
use Rattle.circuits.proofs.shifts.raised_by.Goals as goal

pub loop-i-init : goal.loop-i-init
loop-i-init c = raised_none _ _ c.in_ok-out.ensures c.requires.a_in

pub loop-i-preserved : goal.loop-i-preserved
loop-i-preserved c = raised_next _ _ _ c.loop-i.invariant (omega arith) c.requires.tests_in refl c.deref.ensures.value c.in_ok-out-2.ensures.grown c.in_ok-out-2.ensures.value refl

pub returns-in_err-out-clause-grown : goal.returns-in_err-out-clause-grown
returns-in_err-out-clause-grown c = grown_not _ _

pub returns-in_err-out-2-clause-grown : goal.returns-in_err-out-2-clause-grown
returns-in_err-out-2-clause-grown c =
    grown_then _ _ _ _ _ _ c.loop-i.invariant.grown c.in_err-out-2.ensures.grown (omega (arith, ap length c.deref.ensures.value, raised_step c.loop-i.invariant (omega arith), row_fits c.loop-i.i (length c.args.tests.now) (3 * (length c.args.a.now + 2 ^ length c.args.tests.now)) (omega arith)))

pub returns-clause-value : goal.returns-clause-value
returns-clause-value c = raised_end _ _ c.loop-i.invariant (omega arith)

pub raised-requires-clause-room : goal.raised-requires-clause-room
raised-requires-clause-room c =
    omega (arith, (longer _ _ _ c.loop-i.invariant.grown).1, ap length c.deref.ensures.value, raised_step c.loop-i.invariant (omega arith), row_fits c.loop-i.i (length c.args.tests.now) (3 * (length c.args.a.now + 2 ^ length c.args.tests.now)) (omega arith), c.requires.room)
