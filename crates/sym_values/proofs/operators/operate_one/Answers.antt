use Rattle.c_core.specs.View.{program_view}
use Rattle.circuits.proofs.Nets.{grown_not}
use Rattle.sym_values.proofs.Judging.{fits_after, in_after, operate_one_gives}
use Rattle.sym_values.proofs.operators.operate_one.Goals as goal

pub end_runs-requires-clause-fits : goal.end_runs-requires-clause-fits
end_runs-requires-clause-fits c =
    fits_after (program_view c.args.program.now) c.args.sym.now c.convert_bits.new.net c.one_bits.new.net c.one_bits.new.net c.requires.fits c.in_ok-u.ensures.grown c.in_ok-out.ensures.grown (grown_not 0 c.one_bits.new.net)

pub end_runs-requires-clause-counts_in : goal.end_runs-requires-clause-counts_in
end_runs-requires-clause-counts_in c =
    in_after c.args.counts c.args.sym.now.net c.convert_bits.new.net c.one_bits.new.net c.one_bits.new.net c.requires.counts_in c.in_ok-u.ensures.grown c.in_ok-out.ensures.grown (grown_not 0 c.one_bits.new.net)

pub returns : goal.returns
returns c W d m =
    operate_one_gives (program_view c.args.program.now) c.args.at c.args.op c.args.a c.args.sym.now c.end_runs.new.sym c.args.x.now.bits c.in_ok-u.u.bits c.in_ok-out.out c.args.counts c.convert_bits.new.net c.one_bits.new.net
    c.promote-ty.result W c.promote-ty.ensures d m c.requires.fits c.in_ok-u.ensures.grown c.in_ok-u.ensures.value c.in_ok-out.ensures.grown c.in_ok-out.ensures.value c.in_ok-end_runs.ensures
