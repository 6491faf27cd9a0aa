use Rattle.std.proofs.Common.{◌≡◌, ◌++◌, drop, map, string_bytes}
use Rattle.serde_json.specs.View.{items_of}
use Rattle.serde_json.specs.Written.{compact_text, items_text}
use Rattle.wv_report.specs.Json.{draw_json, draws_json}
use Rattle.wv_report.proofs.written.add_draws.Given as goal

abbrev pub invariant-loop-draw : goal.invariant-loop-draw
invariant-loop-draw l =
    string_bytes l.out ++ items_text l.later (items_of (map draw_json (drop l.draw-index l.draws))) ≡ string_bytes l.fn.out ++ compact_text (draws_json l.draws)
