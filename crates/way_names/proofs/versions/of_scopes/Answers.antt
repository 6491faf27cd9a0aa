use Rattle.std.proofs.Common.{None, get_or, refl}
use Rattle.way_names.proofs.VersionLaws.{each_scope_found, scope_found, scopes_begin}
use Rattle.way_names.proofs.versions.of_scopes.Goals as goal

pub loop-scope-init : goal.loop-scope-init
loop-scope-init c =
    scopes_begin c.args.keys.now.objects.now c.new-versions.result c.new-versions.ensures.wide c.new-versions.ensures.empty c.new-versions.ensures.stand c.args.scopes.now

pub loop-scope-preserved : goal.loop-scope-preserved
loop-scope-preserved c =
    scope_found c.args.keys.now.objects.now c.args.scopes.now c.loop-scope.versions c.add.new.self c.loop-scope.scope-index (get_or c.args.scopes.now c.loop-scope.scope-index (record { outer = None; object = 0 })) (record { outer = None; object = 0 }) c.loop-scope.invariant c.loop-scope-test.true refl c.in_ok-add.ensures

pub returns : goal.returns
returns c = each_scope_found c.args.keys.now.objects.now c.loop-scope.versions c.args.scopes.now c.loop-scope.scope-index c.loop-scope-test.false c.loop-scope.invariant
