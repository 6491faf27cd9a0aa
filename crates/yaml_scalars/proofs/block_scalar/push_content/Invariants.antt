use Rattle.std.proofs.Common.{◌≡◌, ◌≤◌, ◌++◌, drop, map, None}
use Rattle.std.specs.String.{string_bytes}
use Rattle.std.specs.Str.{encode_utf8_all}
use Rattle.yaml_scalars.specs.BlockScalar.{content, row_in}
use Rattle.yaml_scalars.proofs.block_scalar.push_content.Given as goal

abbrev pub invariant-loop-line : goal.invariant-loop-line
invariant-loop-line l = record {
  few : l.breaks ≤ l.line-index;
  same : string_bytes l.out ++ encode_utf8_all (content l.header.folds l.header.chomp l.before l.breaks (map (row_in l.column) (drop l.line-index l.lines))) ≡
      string_bytes l.fn.out ++ encode_utf8_all (content l.header.folds l.header.chomp None 0 (map (row_in l.column) l.lines));
}
