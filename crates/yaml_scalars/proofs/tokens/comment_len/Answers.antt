use Rattle.std.proofs.Common.{◌∙◌, sym, arith}
use Rattle.yaml_lines.proofs.Places.{next_place, next_within, some_here}
use Rattle.yaml_scalars.proofs.Passing.{comment_on}
use Rattle.yaml_scalars.proofs.tokens.comment_len.Goals as goal

pub loop-left-preserved : goal.loop-left-preserved
loop-left-preserved c =
    let i = c.loop-left.invariant in
    record {
      place = next_place c.args.text.now c.loop-left.left c.rest-left.result c.loop-left.at i.place c.rest-left.ensures.value;
      within = next_within c.args.text.now c.loop-left.left c.loop-left.at i.place (some_here c.loop-left.left c.first.result c.first.ensures);
      count = omega (arith, i.count, comment_on c.loop-left.left c.rest-left.result c.first.result c.first.ensures c.rest-left.ensures.value (sym c.is_break_char.ensures ∙ c.if-is_break_char.false));
    }
