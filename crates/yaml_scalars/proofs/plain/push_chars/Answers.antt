use Rattle.std.proofs.Common.{◌∙◌}
use Rattle.std.specs.String.{string_bytes}
use Rattle.yaml_lines.proofs.Places.{more_within}
use Rattle.yaml_scalars.proofs.Passing.{pushed_on}
use Rattle.yaml_scalars.proofs.plain.push_chars.Goals as goal

pub loop-more-preserved : goal.loop-more-preserved
loop-more-preserved c = record {
  within = more_within c.loop-more.left c.rest-left.result c.loop-more.more c.first.result c.first.ensures c.rest-left.ensures.value c.loop-more.invariant.within;
  same = pushed_on c.loop-more.left c.rest-left.result (string_bytes c.loop-more.out) (string_bytes c.push.new.self) c.loop-more.more c.first.result c.first.ensures c.rest-left.ensures.value c.loop-more-test.true c.in_ok-push.ensures.bytes
      ∙ c.loop-more.invariant.same;
}
