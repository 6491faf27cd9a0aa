use Rattle.std.proofs.Common.{◌≡◌, ◌+◌, ◌++◌, drop}
use Rattle.std.specs.Option.{option_or}
use Rattle.wv_schema.specs.Judging.{items_fault}
use Rattle.wv_schema.specs.Shapes.{misshapen_from}
use Rattle.wv_schema.specs.Steps.{shapely}
use Rattle.wv_schema.specs.Schema.{segment_fault}
use Rattle.wv_schema.proofs.segment.drafts_of.Given as goal

abbrev pub invariant-loop-index : goal.invariant-loop-index
invariant-loop-index l = record {
  met : items_fault segment_fault l.at l.index (drop l.index l.items) ≡ items_fault segment_fault l.at 0 l.items;
  so_far : (l.drafts.segments ++ shapely (drop l.index l.items)) ≡ shapely l.items;
  first : option_or l.drafts.misshapen (misshapen_from (l.index + 1) (drop l.index l.items)) ≡ misshapen_from 1 l.items;
}
