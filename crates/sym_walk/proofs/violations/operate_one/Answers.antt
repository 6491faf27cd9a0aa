use Rattle.sym_walk.specs.Walking.{mode_of}
use Rattle.sym_walk.proofs.violations.operate_one.Goals as goal

pub operate_one-requires-clause-counts_in : goal.operate_one-requires-clause-counts_in
operate_one-requires-clause-counts_in c = c.in_ok-counted.ensures.inside

pub returns : goal.returns
returns c = c.in_ok-r.ensures (mode_of c.args.walk.now) c.requires.duty c.in_ok-counted.ensures
