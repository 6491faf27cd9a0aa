use Rattle.std.proofs.Common.{ap}
use Rattle.way_names.specs.Walk.{walk_of, walk_view}
use Rattle.way_names.proofs.walk.push_statement.Goals as goal

pub returns : goal.returns
unfolding walk_view
returns c = ap (λ xs. walk_of c.args.walk.now.scopes.items xs c.args.walk.now.loops.items) c.in_ok-push.ensures.items
