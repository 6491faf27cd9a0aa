use Rattle.std.proofs.Common.{◌≡◌, take, map, codes}
use Rattle.wv_schema.specs.Canonical.{step_tree}
use Rattle.wv_schema.proofs.canonical.trees_of_avoids.Given as goal

abbrev pub invariant-loop-waypoint : goal.invariant-loop-waypoint
invariant-loop-waypoint l = l.trees ≡ map (step_tree (codes "avoid")) (take l.waypoint-index l.avoids)
