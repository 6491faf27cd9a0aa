use Rattle.std.proofs.Common.{◌*◌, length, refl, subst}
use Rattle.c_core.specs.Typing.{labels_in}
use Rattle.c_core.specs.View.{program_view, switch_view}
use Rattle.sym_choices.proofs.ArmLaws.{arms_entered}
use Rattle.circuits.specs.Net.{Grown}
use Rattle.sym_choices.proofs.choosing.enter_arms.Goals as goal

pub returns : goal.returns
returns c w e =
    let ls = labels_in (switch_view c.args.arms.now) in
    arms_entered (program_view c.args.program.now) c.args.sym.now c.any_of.new.net c.entries.new.net (length c.args.arms.now) (2 * length c.args.arms.now) ls c.args.cases.now c.in_ok-bits.bits.items c.in_ok-any.any c.not.result w c.requires.fits refl c.requires.cases_in
    (subst (λ n. Grown n c.args.sym.now.net c.any_of.new.net) c.requires.many c.in_ok-any.ensures.0) c.in_ok-any.ensures.1 c.not.ensures c.in_ok-bits.ensures e
