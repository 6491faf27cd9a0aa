use Rattle.std.proofs.Common.{◌≡◌, ◌++◌, drop, map}
use Rattle.c_core.specs.View.{program_view}
use Rattle.c_draws.specs.Drawing.{change}
use Rattle.c_draws.proofs.statements.push_objects.Given as goal

-- with what is left it becomes what the whole gives
abbrev pub invariant-loop-object : goal.invariant-loop-object
invariant-loop-object l =
    (l.list.items ++ map (change (program_view l.program) l.spot) (drop l.object-index l.objects) ≡ l.initial.list.items ++ map (change (program_view l.program) l.spot) l.objects)
