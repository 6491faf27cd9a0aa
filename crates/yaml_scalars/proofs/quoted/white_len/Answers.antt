use Rattle.std.proofs.Common.{◌∙◌, sym, arith}
use Rattle.yaml_lines.proofs.Places.{next_place}
use Rattle.yaml_scalars.proofs.Passing.{whitened}
use Rattle.yaml_scalars.proofs.quoted.white_len.Goals as goal

pub loop-left-preserved : goal.loop-left-preserved
loop-left-preserved c =
    let i = c.loop-left.invariant in
    let w = whitened c.args.text.now c.loop-left.left c.rest-left.result c.loop-left.at i.place (sym c.does_begin_white.ensures ∙ c.loop-left-test.true) c.rest-left.ensures.value in
    record {
      place = next_place c.args.text.now c.loop-left.left c.rest-left.result c.loop-left.at i.place c.rest-left.ensures.value;
      within = w.within;
      front = w.front ∙ i.front;
      count = omega (arith, w.count, i.count);
    }
