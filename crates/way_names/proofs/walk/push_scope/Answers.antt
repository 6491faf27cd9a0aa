use Rattle.std.proofs.Common.{◌≡◌, Some, ap, length, rules}
use Rattle.way_names.specs.Walk.{walk_of, walk_view}
use Rattle.way_names.proofs.walk.push_scope.Goals as goal

pub returns-clause-number : goal.returns-clause-number
unfolding walk_view
returns-clause-number c =
    let counted : c.len-number.result ≡ length c.args.walk.now.scopes.items = search rules in
    ap Some counted

pub returns-clause-walk : goal.returns-clause-walk
unfolding walk_view
returns-clause-walk c = ap (λ xs. walk_of xs c.args.walk.now.statements.items c.args.walk.now.loops.items) c.in_ok-push.ensures.items
