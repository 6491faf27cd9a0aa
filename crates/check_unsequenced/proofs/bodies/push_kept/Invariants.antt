use Rattle.std.proofs.Common.{◌≡◌, ◌++◌, drop}
use Rattle.check_sequencing.specs.Bodies.{effects_of_fulls}
use Rattle.check_unsequenced.specs.Bodies.{kept_fulls, kept_views}
use Rattle.check_unsequenced.proofs.bodies.push_kept.Given as goal

-- with what is left it becomes what the whole gives
abbrev pub invariant-loop-one : goal.invariant-loop-one
invariant-loop-one l =
    (l.list.items ++ effects_of_fulls l.declared.objects.now l.declared.bodies (kept_fulls (kept_views (drop l.one-index l.kept)))
    ≡ l.initial.list.items ++ effects_of_fulls l.declared.objects.now l.declared.bodies (kept_fulls (kept_views l.kept)))
