use Rattle.std.proofs.Common.{◌∙◌, ◌≡◌, ◌==◌, sym, arith, true, false}
use Rattle.std.proofs.lemmas.Bool.{eqb-true, false_from_ne_true}
use Rattle.std.proofs.lemmas.Bool.Decides.{nat_tests}
use Rattle.yaml_lines.proofs.Places.{more_within}
use Rattle.wv_yaml.proofs.Spaces.{spaces_on, spaces_off}
use Rattle.wv_yaml.proofs.block.are_spaces.Goals as goal

pub returns-then-first-ne32 : goal.returns-then-first-ne32
returns-then-first-ne32 c =
    let other : (c.first.result == 32) ≡ false = false_from_ne_true (c.first.result == 32) (λ h. c.if-first-ne32.true (eqb-true c.first.result 32 h)) in
    sym (spaces_off c.loop-more.left c.loop-more.more c.first.result c.first.ensures c.loop-more-test.true other) ∙ c.loop-more.invariant.same

pub loop-more-preserved : goal.loop-more-preserved
loop-more-preserved c =
    let space : (c.first.result == 32) ≡ true = grind (arith, nat_tests) in
    record {
      within = more_within c.loop-more.left c.rest-left.result c.loop-more.more c.first.result c.first.ensures c.rest-left.ensures.value c.loop-more.invariant.within;
      same = sym (spaces_on c.loop-more.left c.rest-left.result c.loop-more.more c.first.result c.first.ensures c.rest-left.ensures.value c.loop-more-test.true space) ∙ c.loop-more.invariant.same;
    }
