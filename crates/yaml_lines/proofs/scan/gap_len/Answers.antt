use Rattle.std.proofs.Common.{◌∙◌, sym, arith}
use Rattle.yaml_lines.proofs.Places.{next_place, gapped}
use Rattle.yaml_lines.proofs.scan.gap_len.Goals as goal

pub loop-left-preserved : goal.loop-left-preserved
loop-left-preserved c =
    let i = c.loop-left.invariant in
    let g = gapped c.args.text.now c.loop-left.left c.rest-left.result c.loop-left.at i.place (sym c.does_begin_blank.ensures ∙ c.loop-left-test.true) c.rest-left.ensures.value in
    record {
      place = next_place c.args.text.now c.loop-left.left c.rest-left.result c.loop-left.at i.place c.rest-left.ensures.value;
      within = g.within;
      count = omega (arith, g.count, i.count);
      front = g.front ∙ i.front;
      rest = g.rest ∙ i.rest;
    }
