use Rattle.std.proofs.Common.{arith, ◌==◌, ◌≡◌, false, true}
use Rattle.std.proofs.lemmas.Bool.{eqb-true, false_from_ne_true}
use Rattle.std.proofs.lemmas.Bool.Decides.{nat_tests}
use Rattle.yaml_scalars.specs.Quoted.{is_feed}
use Rattle.yaml_lines.proofs.Places.{more_within}
use Rattle.yaml_scalars.proofs.Passing.{counted_feed, counted_other}
use Rattle.yaml_scalars.proofs.quoted.feeds_in.Goals as goal

pub loop-more-preserved-then-c-ne10 : goal.loop-more-preserved-then-c-ne10
loop-more-preserved-then-c-ne10 c =
    let i = c.loop-more.invariant in
    let other : is_feed c.first-c.result ≡ false = false_from_ne_true (c.first-c.result == 10) (λ h. c.if-c-ne10.true (eqb-true c.first-c.result 10 h)) in
    record {
      within = more_within c.loop-more.left c.rest-left.result c.loop-more.more c.first-c.result c.first-c.ensures c.rest-left.ensures.value i.within;
      sum = omega (arith, i.sum, counted_other c.loop-more.left c.rest-left.result c.loop-more.more c.first-c.result c.first-c.ensures c.rest-left.ensures.value c.loop-more-test.true other);
      few = omega (arith, i.few);
    }

pub loop-more-preserved : goal.loop-more-preserved
loop-more-preserved c =
    let i = c.loop-more.invariant in
    let feed : is_feed c.first-c.result ≡ true = grind (arith, nat_tests) in
    record {
      within = more_within c.loop-more.left c.rest-left.result c.loop-more.more c.first-c.result c.first-c.ensures c.rest-left.ensures.value i.within;
      sum = omega (arith, i.sum, counted_feed c.loop-more.left c.rest-left.result c.loop-more.more c.first-c.result c.first-c.ensures c.rest-left.ensures.value c.loop-more-test.true feed);
      few = omega (arith, i.few);
    }
