use Rattle.std.proofs.Common.{◌≡◌, ◌+◌, ◌++◌, drop, string_bytes}
use Rattle.wv_show.specs.Show.{sequence_lines, sequence_size}
use Rattle.wv_show.proofs.claims.add_segments.Given as goal

abbrev pub invariant-loop-segment : goal.invariant-loop-segment
invariant-loop-segment l = record {
  lines : string_bytes l.out ++ sequence_lines l.number (drop l.segment-index l.segments) ≡ string_bytes l.fn.out ++ sequence_lines l.fn.first l.segments;
  count : l.number + sequence_size (drop l.segment-index l.segments) ≡ l.fn.first + sequence_size l.segments;
}
