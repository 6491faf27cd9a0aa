use Rattle.std.proofs.Common.{◌≡◌, drop}
use Rattle.std.specs.List.{list_any}
use Rattle.wv_schema.specs.Shapes.{is_sequence}
use Rattle.wv_schema.proofs.schema.has_sequence.Given as goal

abbrev pub invariant-loop-entry : goal.invariant-loop-entry
invariant-loop-entry l = list_any is_sequence (drop l.entry-index l.entries) ≡ list_any is_sequence l.entries
