use Rattle.std.proofs.Common.{◌∙◌, sym, arith, le_refl}
use Rattle.yaml_lines.proofs.Ends.{end_blank, end_other}
use Rattle.yaml_lines.proofs.Places.{next_place}
use Rattle.yaml_lines.proofs.scan.len_without_end.Goals as goal

pub loop-at-preserved-then-is_blank : goal.loop-at-preserved-then-is_blank
loop-at-preserved-then-is_blank c =
    let i = c.loop-at.invariant in
    record {
      place = next_place c.args.text.now c.loop-at.left c.rest-left.result c.loop-at.at i.place c.rest-left.ensures.value;
      some = omega arith;
      within = omega (arith, i.within);
      same = end_blank c.args.text.now c.loop-at.left _ c.loop-at.at c.loop-at.end c.first-c.result i.place c.first-c.ensures (sym c.is_blank.ensures ∙ c.if-is_blank.true) i.same;
    }

pub loop-at-preserved : goal.loop-at-preserved
loop-at-preserved c =
    let i = c.loop-at.invariant in
    record {
      place = next_place c.args.text.now c.loop-at.left c.rest-left.result c.loop-at.at i.place c.rest-left.ensures.value;
      some = omega arith;
      within = le_refl _;
      same = end_other c.args.text.now c.loop-at.left _ c.loop-at.at c.first-c.result i.place c.first-c.ensures (sym c.is_blank.ensures ∙ c.if-is_blank.false);
    }
