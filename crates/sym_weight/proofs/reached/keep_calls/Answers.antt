use Rattle.std.proofs.Common.{◌≡◌, ◌<◌, ◌≤◌, true, length, arith}
use Rattle.sym_weight.proofs.Reaching.{all_keep, one_more_keeps}
use Rattle.sym_weight.proofs.reached.keep_calls.Goals as goal

pub loop-number-preserved : goal.loop-number-preserved
loop-number-preserved c =
    let ts = c.args.tallies.now in
    let n = c.loop-number.number in
    let inside : n < length ts = omega arith in
    let kept : c.keeps.result ≡ true = grind arith in
    one_more_keeps c.args.marks.now ts n c.index-tallies-number.result inside c.index-tallies-number.is (c.keeps.ensures kept) c.loop-number.invariant

pub returns : goal.returns
returns c _ = let whole : length c.args.tallies.now ≤ c.loop-number.number = omega arith in all_keep c.args.marks.now c.args.tallies.now c.loop-number.number whole c.loop-number.invariant
