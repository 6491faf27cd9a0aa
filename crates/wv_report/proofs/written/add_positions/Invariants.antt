use Rattle.std.proofs.Common.{◌≡◌, ◌++◌, drop, map, string_bytes}
use Rattle.serde_json.specs.View.{items_of}
use Rattle.serde_json.specs.Written.{compact_text, items_text}
use Rattle.wv_report.specs.Json.{count_json, positions_json}
use Rattle.wv_report.proofs.written.add_positions.Given as goal

abbrev pub invariant-loop-position : goal.invariant-loop-position
invariant-loop-position l =
    string_bytes l.out ++ items_text l.later (items_of (map count_json (drop l.position-index l.positions))) ≡ string_bytes l.fn.out ++ compact_text (positions_json l.positions)
