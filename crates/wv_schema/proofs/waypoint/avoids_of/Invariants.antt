use Rattle.std.proofs.Common.{◌≡◌, ◌&&◌, take, drop, map}
use Rattle.wv_schema.specs.Judging.{items_fault}
use Rattle.wv_schema.specs.Values.{step_in}
use Rattle.wv_schema.specs.Steps.{are_avoids}
use Rattle.wv_schema.specs.Schema.{step_fault}
use Rattle.wv_schema.proofs.waypoint.avoids_of.Given as goal

abbrev pub invariant-loop-index : goal.invariant-loop-index
invariant-loop-index l = record {
  met : items_fault step_fault l.at l.index (drop l.index l.items) ≡ items_fault step_fault l.at 0 l.items;
  so_far : l.waypoints ≡ map step_in (take l.index l.items);
  fit : (l.are_fit && are_avoids (drop l.index l.items)) ≡ are_avoids l.items;
}
