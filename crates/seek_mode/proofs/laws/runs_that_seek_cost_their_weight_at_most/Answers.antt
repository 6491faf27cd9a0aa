use Rattle.seek_mode.proofs.Within.{costs_at_most}
use Rattle.seek_mode.proofs.laws.runs_that_seek_cost_their_weight_at_most.Goals as goal

pub returns : goal.returns
returns c p ss k n f = costs_at_most p ss k n f
