use Rattle.std.proofs.Common.{◌∙◌}
use Rattle.wv_schema.specs.Schema.{segment_fault}
use Rattle.wv_schema.proofs.Items.{items_pass}
use Rattle.wv_schema.proofs.Drafts.{segments_more, first_more}
use Rattle.wv_schema.proofs.segment.drafts_of.Goals as goal

pub loop-index-preserved : goal.loop-index-preserved
loop-index-preserved c = record {
  met = items_pass segment_fault c.args.at.now _ c.args.items.now c.loop-index.index _ c.loop-index-test.true c.index-items-index.is c.in_ok-place.ensures (rw (← c.as_str.ensures.value) c.in_ok-segment.ensures.0)
      ∙ c.loop-index.invariant.met;
  so_far = segments_more _ _ _ c.args.items.now c.loop-index.index _ c.loop-index-test.true c.index-items-index.is c.in_ok-keep.ensures c.in_ok-segment.ensures.1 c.loop-index.invariant.so_far;
  first = first_more _ _ _ c.args.items.now c.loop-index.index _ c.loop-index-test.true c.index-items-index.is c.in_ok-keep.ensures c.in_ok-segment.ensures.1 c.loop-index.invariant.first;
}
