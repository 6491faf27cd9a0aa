use Rattle.c_core.specs.View.{program_view}
use Rattle.sym_flow.proofs.Becoming.{chosen_became, giving_became}
use Rattle.sym_flow.proofs.ways.give.Goals as goal

pub go_back-requires-clause-fits : goal.go_back-requires-clause-fits
go_back-requires-clause-fits c =
    (chosen_became (program_view c.args.program.now) c.args.sym.now c.choose_bits.new.net c.args.ty c.args.value.now.bits c.in_ok-given.given c.requires.fits c.requires.typed c.requires.value_in
    c.in_ok-given.ensures.grown c.in_ok-given.ensures.value).fits

pub returns : goal.returns
returns c =
    giving_became (program_view c.args.program.now) c.args.sym.now c.go_back.new.sym c.choose_bits.new.net c.args.ty c.args.value.now.bits c.in_ok-given.given c.requires.fits c.requires.typed c.requires.value_in
    c.in_ok-given.ensures.grown c.in_ok-given.ensures.value c.in_ok-go_back.ensures
