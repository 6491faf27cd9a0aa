use Rattle.std.proofs.Common.{◌≡◌, ◌++◌, drop}
use Rattle.way_names.specs.Scopes.{statics_from}
use Rattle.way_names.proofs.statics.statics.Given as goal

-- with what is left it becomes what the whole gives
abbrev pub invariant-loop-index : goal.invariant-loop-index
invariant-loop-index l = (l.found.items ++ statics_from l.index (drop l.index l.objects) ≡ statics_from 0 l.objects)
