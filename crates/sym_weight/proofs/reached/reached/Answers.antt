use Rattle.sym_weight.specs.Tally.{tallies_view}
use Rattle.sym_weight.proofs.Reaching.{all_closed}
use Rattle.sym_weight.proofs.reached.reached.Goals as goal

pub returns : goal.returns
returns c = all_closed c.new-all.result.items (tallies_view c.args.tallies.now) c.args.main c.new-all.ensures.items
