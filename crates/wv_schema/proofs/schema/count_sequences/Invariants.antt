use Rattle.std.proofs.Common.{◌≡◌, ◌≤◌, take, count_by}
use Rattle.wv_schema.specs.Shapes.{is_sequence}
use Rattle.wv_schema.proofs.schema.count_sequences.Given as goal

abbrev pub invariant-loop-entry : goal.invariant-loop-entry
invariant-loop-entry l = record {
  small : l.sequences ≤ l.entry-index;
  so_far : l.sequences ≡ count_by is_sequence (take l.entry-index l.entries);
}
