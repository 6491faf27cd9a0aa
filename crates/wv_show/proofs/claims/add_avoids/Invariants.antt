use Rattle.std.proofs.Common.{◌≡◌, ◌+◌, ◌++◌, drop, string_bytes}
use Rattle.wv_show.specs.Show.{avoid_lines}
use Rattle.wv_show.proofs.claims.add_avoids.Given as goal

abbrev pub invariant-loop-waypoint : goal.invariant-loop-waypoint
invariant-loop-waypoint l = record {
  lines : string_bytes l.out ++ avoid_lines l.number (drop l.waypoint-index l.avoids) ≡ string_bytes l.fn.out ++ avoid_lines l.fn.first l.avoids;
  count : l.number ≡ l.fn.first + l.waypoint-index;
}
