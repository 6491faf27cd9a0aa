use Rattle.std.proofs.Common.{◌≡◌, ◌++◌, drop}
use Rattle.check_sequencing.specs.Bodies.{effects_of_fulls, fulls_view}
use Rattle.check_sequencing.proofs.declarations.Declarations.push_fulls.Given as goal

-- with what is left it becomes what the whole gives
abbrev pub invariant-loop-full : goal.invariant-loop-full
invariant-loop-full l =
    (l.list.items ++ effects_of_fulls l.self.objects.now l.self.bodies (fulls_view (drop l.full-index l.fulls))
    ≡ l.initial.list.items ++ effects_of_fulls l.self.objects.now l.self.bodies (fulls_view l.fulls))
