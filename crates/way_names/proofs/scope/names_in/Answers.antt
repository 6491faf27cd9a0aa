use Rattle.std.proofs.Common.{None}
use Rattle.way_names.proofs.ScopeLaws.{path_begins, path_more}
use Rattle.way_names.proofs.scope.names_in.Goals as goal

pub loop-scope-init : goal.loop-scope-init
loop-scope-init c = path_begins c.args.scopes.now c.args.innermost c.new-names.result.items c.new-names.ensures.items c.requires

pub loop-scope-preserved : goal.loop-scope-preserved
loop-scope-preserved c =
    let w = c.loop-scope.invariant in
    path_more c.args.scopes.now c.args.innermost c.loop-scope.scope c.in-Some.number (record { outer = None; object = 0 }) w.0 c.loop-scope.names.items c.push.new.self.items c.in-Some.is w.1 w.2 c.in_ok-push.ensures.items
