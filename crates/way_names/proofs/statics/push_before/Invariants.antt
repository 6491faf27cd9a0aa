use Rattle.std.proofs.Common.{◌≡◌, ◌++◌, drop}
use Rattle.way_names.specs.Scopes.{front_before}
use Rattle.way_names.proofs.statics.push_before.Given as goal

-- with what is left it becomes what the whole gives
abbrev pub invariant-loop-declared : goal.invariant-loop-declared
invariant-loop-declared l = (l.names.items ++ front_before l.spot (drop l.declared-index l.statics) ≡ l.initial.names.items ++ front_before l.spot l.statics)
