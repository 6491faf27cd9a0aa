use Rattle.std.proofs.Common.{◌≡◌, map, take}
use Rattle.c_core.specs.TreeView.{functions_view}
use Rattle.check_unsequenced.specs.Bodies.{body_effects, kept_views}
use Rattle.check_unsequenced.proofs.bodies.effects_of_functions.Given as goal

-- those of the functions so far
abbrev pub invariant-loop-at : goal.invariant-loop-at
invariant-loop-at l = (l.bodies.items ≡ body_effects l.declared.objects.now l.declared.bodies (functions_view (take l.at l.functions)) (map kept_views l.kept))
