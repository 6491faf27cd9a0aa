use Rattle.std.proofs.Common.{rules}
use Rattle.wv_schema.proofs.Drafts.{drafts_stop, empty_shape, shapes_met, shape_told, segments_are}
use Rattle.wv_schema.proofs.segment.segments_of.Goals as goal

pub returns-in_err-drafts : goal.returns-in_err-drafts
returns-in_err-drafts c =
    let k = drafts_stop c.in_err-drafts.field-0.0 c.args.at.now c.args.items.now c.in_err-drafts.ensures in
    search (rules, k)

pub returns-then-is_empty : goal.returns-then-is_empty
returns-then-is_empty c = empty_shape c.args.at.now c.args.items.now c.if-is_empty.ensures

pub returns-in-None : goal.returns-in-None
returns-in-None c = (
  shapes_met c.args.at.now c.args.items.now _ c.in_ok-drafts.ensures.0 c.in_ok-drafts.ensures.1 c.in-None.is c.if-is_empty.ensures,
  segments_are c.args.items.now _ c.in_ok-drafts.ensures.1 c.in-None.is,
)

pub returns-in-Some : goal.returns-in-Some
returns-in-Some c = shape_told c.args.at.now c.args.items.now _ _ _ c.in_ok-drafts.ensures.0 c.in_ok-drafts.ensures.1 c.in-Some.is c.if-is_empty.ensures c.reported.ensures
