use Rattle.std.proofs.Common.{rules}
use Rattle.wv_schema.proofs.Entries.{type_stops, metadata_stops, content_stops, inside_stops, entry_met, entry_is}
use Rattle.wv_schema.proofs.entry.entry_in_map.Goals as goal

pub returns-in_err-word : goal.returns-in_err-word
returns-in_err-word c =
    let k = type_stops c.in_err-word.field-0.0 c.args.at.now c.args.pairs.now c.in_err-word.ensures.field in
    search (rules, k)

pub returns-in_err-metadata : goal.returns-in_err-metadata
returns-in_err-metadata c = search (rules, metadata_stops)

pub returns-in_err-items : goal.returns-in_err-items
returns-in_err-items c =
    let k = content_stops c.in_err-items.field-0.0 c.args.at.now c.args.pairs.now c.in_ok-word.ensures.field.0 c.in_ok-metadata.ensures.0 c.in_err-items.ensures in
    search (rules, k)

pub returns-in_err-content : goal.returns-in_err-content
returns-in_err-content c =
    let k = inside_stops c.in_err-content.field-0.0 c.args.at.now _ c.args.pairs.now _ _ _ c.in_ok-word.ensures.field.0 c.in_ok-metadata.ensures.0 c.in_ok-items.ensures.0
    c.in_ok-place.ensures c.eq-does_violate.ensures c.in_ok-word.ensures.field.1 c.in_ok-items.ensures.1 (rw (← c.as_str.ensures.value) c.in_err-content.ensures) in
    search (rules, k)

pub returns : goal.returns
returns c = (
  entry_met c.args.at.now _ c.args.pairs.now _ _ _ c.in_ok-word.ensures.field.0 c.in_ok-metadata.ensures.0 c.in_ok-items.ensures.0 c.in_ok-place.ensures
      c.eq-does_violate.ensures c.in_ok-word.ensures.field.1 c.in_ok-items.ensures.1 (rw (← c.as_str.ensures.value) c.in_ok-content.ensures.0),
  entry_is c.args.pairs.now _ _ _ _ _ c.eq-does_violate.ensures c.in_ok-word.ensures.field.1 c.in_ok-items.ensures.1 c.in_ok-metadata.ensures.1 c.in_ok-content.ensures.1,
)
