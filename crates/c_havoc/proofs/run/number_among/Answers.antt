use Rattle.std.proofs.Common.{◌≡◌, ◌∙◌, ◌+◌, suc, drop-cons, sym, arith}
use Rattle.c_havoc.proofs.Ending.{here_it_is, further_on, no_duty}
use Rattle.c_havoc.proofs.run.number_among.Goals as goal

pub returns-then-is_same : goal.returns-then-is_same
returns-then-is_same c =
    let d = drop-cons c.args.duties.now c.loop-other.other-index no_duty c.loop-other-test.true in
    let e = here_it_is c.args.duty c.args.duties.now c.loop-other.other-index _ d c.loop-other.invariant.left (sym c.is_same.ensures ∙ c.if-is_same.true) in
    omega (arith, c.loop-other.invariant.number, e)

pub loop-other-preserved : goal.loop-other-preserved
loop-other-preserved c =
    let d = drop-cons c.args.duties.now c.loop-other.other-index no_duty c.loop-other-test.true in
    let e = further_on c.args.duty c.args.duties.now c.loop-other.other-index _ d c.loop-other.invariant.left (sym c.is_same.ensures ∙ c.if-is_same.false) in
    let i : c.loop-other.other-index + 1 ≡ suc c.loop-other.other-index = omega arith in
    record {
      number = omega (arith, c.loop-other.invariant.number, c.in_ok-number.ensures);
      left = rw i e;
    }
