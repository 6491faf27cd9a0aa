use Rattle.std.proofs.Common.{◌∙◌, sym}
use Rattle.yaml_lines.proofs.Places.{more_within}
use Rattle.yaml_scalars.proofs.Passing.{one_line_on, one_line_off}
use Rattle.yaml_scalars.proofs.tokens.is_on_one_line.Goals as goal

pub returns-then-is_break_char : goal.returns-then-is_break_char
returns-then-is_break_char c = sym (one_line_off c.loop-more.left c.loop-more.more c.first.result c.first.ensures c.loop-more-test.true (sym c.is_break_char.ensures ∙ c.if-is_break_char.true)) ∙ c.loop-more.invariant.same

pub loop-more-preserved : goal.loop-more-preserved
loop-more-preserved c = record {
  within = more_within c.loop-more.left c.rest-left.result c.loop-more.more c.first.result c.first.ensures c.rest-left.ensures.value c.loop-more.invariant.within;
  same = sym (one_line_on c.loop-more.left c.rest-left.result c.loop-more.more c.first.result c.first.ensures c.rest-left.ensures.value c.loop-more-test.true (sym c.is_break_char.ensures ∙ c.if-is_break_char.false))
      ∙ c.loop-more.invariant.same;
}
