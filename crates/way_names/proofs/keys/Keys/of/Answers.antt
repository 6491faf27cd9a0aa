use Rattle.way_names.specs.Keys.{number_in}
use Rattle.way_names.proofs.KeyLaws.{key_is, keyed_next, named_next}
use Rattle.way_names.proofs.keys.Keys.of.Goals as goal

pub loop-number-preserved : goal.loop-number-preserved
loop-number-preserved c =
    let objects = c.args.objects.now in
    let i = c.loop-number.number in
    let o = c.index-objects-number.result in
    let name = c.as_str.result.now in
    let old = number_in c.loop-number.numbers in
    record {
      named = λ x.
          named_next objects i o name x (old x) (number_in c.keep_first.new.numbers x) c.loop-number-test.true c.index-objects-number.is c.as_str.ensures
          (c.in_ok-keep_first.ensures.kept x) (c.loop-number.invariant.named x);
      keyed =
          keyed_next objects i o c.in_ok-keep_first.field-0 c.loop-number.of_objects.items c.push.new.self.items c.loop-number-test.true c.index-objects-number.is c.in_ok-push.ensures.items
          (key_is objects i o name old c.in_ok-keep_first.field-0 c.loop-number-test.true c.index-objects-number.is c.as_str.ensures c.in_ok-keep_first.ensures.first c.loop-number.invariant.named)
          c.loop-number.invariant.keyed;
    }
