-- The texts of the objects that hold lists, piece by piece as they are written.
use Rattle.std.proofs.Common.{◌≡◌, ◌++◌, ℕ, List, codes, decimal, refl}
use Rattle.serde_json.specs.Data.{string}
use Rattle.serde_json.specs.Written.{compact_text}
use Rattle.serde_json.proofs.OnLiterals.{serde_json_on_literals}
use Rattle.c_meaning.specs.declared.run.Draw.{Draw}
use Rattle.c_meaning.specs.declared.run.Duty.{Duty}
use Rattle.wv_report.specs.Json.{confirmed_json, draws_json, incorrect_json, positions_json}
use Rattle.wv_report.specs.Report.{kind_name}

pub confirmed_text : (draws : List Draw) (positions : List ℕ) → compact_text (confirmed_json draws positions)
    ≡ codes "{\"answer\":\"violation confirmed\",\"positions\":" ++ (compact_text (positions_json positions)
    ++ (codes ",\"values\":" ++ (compact_text (draws_json draws) ++ codes "}")))
unfolding confirmed_json serde_json_on_literals
confirmed_text draws positions = refl

pub incorrect_text : (index : ℕ) (duty : Duty) (draws : List Draw) → compact_text (incorrect_json index duty draws)
    ≡ codes "{\"answer\":\"correctness not confirmed\",\"column\":" ++ (decimal duty.spot.column
    ++ (codes ",\"kind\":" ++ (compact_text (string (kind_name duty.kind)) ++ (codes ",\"line\":" ++ (decimal duty.spot.line
    ++ (codes ",\"obligation\":" ++ (decimal index ++ (codes ",\"values\":" ++ (compact_text (draws_json draws) ++ codes "}")))))))))
unfolding incorrect_json serde_json_on_literals
incorrect_text index duty draws = refl
