use Rattle.std.proofs.Common.{◌∙◌, sym}
use Rattle.yaml_scalars.specs.Plain.{stops_in}
use Rattle.yaml_lines.proofs.Places.{next_place}
use Rattle.yaml_scalars.proofs.Passing.{cut_on}
use Rattle.yaml_scalars.proofs.plain.cut_len.Goals as goal

pub loop-left-preserved : goal.loop-left-preserved
loop-left-preserved c =
    let i = c.loop-left.invariant in
    let on = cut_on (stops_in c.args.is_flow) c.loop-left.is_behind c.is_blank-is_behind.result c.args.text.now c.loop-left.left c.rest-rest.result c.loop-left.at c.first-c.result i.place c.first-c.ensures c.rest-rest.ensures.value
    (sym c.does_stop.ensures ∙ c.if-does_stop.false) c.is_blank-is_behind.ensures in
    record {
      place = next_place c.args.text.now c.loop-left.left c.rest-rest.result c.loop-left.at i.place c.rest-rest.ensures.value;
      within = on.within;
      front = on.front ∙ i.front;
      rest = on.rest ∙ i.rest;
    }
