use mir.Val.{SFits}
use mir.Syntax.{w128}
use Rattle.std.proofs.lemmas.Int.{to_z-of_z}
use Rattle.std.proofs.Common.{rules}
use Rattle.c_core.specs.View.{program_view}
use Rattle.sym_state.proofs.Nets.{state_grown}
use Rattle.sym_choices.proofs.CaseLaws.{equal_decided}
use Rattle.sym_choices.proofs.cases.equals.Goals as goal

pub test-requires-clause-fits : goal.test-requires-clause-fits
test-requires-clause-fits c = state_grown (program_view c.args.program.now) c.in_ok-same.ensures.grown c.requires.fits

pub returns : goal.returns
returns c =
    let z : SFits w128 c.args.constant = search rules in
    let other = rw (to_z-of_z w128 c.args.constant z) at c.in_ok-other.ensures in
    equal_decided (program_view c.args.program.now) c.args.sym.now c.test.new.sym c.apply_bits.new.net c.args.ty c.args.x.now.bits c.in_ok-other.other.bits c.in_ok-same.same c.args.constant _ c.requires.fits other
    c.in_ok-same.ensures.grown c.in_ok-same.ensures.value c.in_ok-bit.ensures
