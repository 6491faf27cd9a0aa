use Rattle.way_names.proofs.VersionLaws.{FindScopes}
use Rattle.way_names.proofs.versions.of_scopes.Given as goal

abbrev pub invariant-loop-scope : goal.invariant-loop-scope
invariant-loop-scope l = FindScopes l.keys.objects.now l.scopes l.versions l.scope-index
