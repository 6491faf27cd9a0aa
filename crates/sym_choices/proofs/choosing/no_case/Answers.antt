use Rattle.c_core.specs.View.{program_view}
use Rattle.circuits.proofs.Nets.{opp}
use Rattle.sym_values.proofs.Reckoning.{net_turned}
use Rattle.sym_choices.proofs.choosing.no_case.Goals as goal

pub returns : goal.returns
returns c = record {
  turned = net_turned (program_view c.args.program.now) c.args.sym.now c.any_of.new.net c.requires.fits c.in_ok-any.ensures.0;
  means = opp c.not.ensures c.in_ok-any.ensures.1;
}
