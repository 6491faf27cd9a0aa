use Rattle.std.proofs.Common.{◌≡◌, ◌<◌, ◌^◌, ◌+◌, subst, sym, arith}
use Rattle.circuits.specs.Inequalities.{IsMoreBy, IsShifted}
use Rattle.circuits.specs.Ranges.{Wraps}
use Rattle.circuits.proofs.FactLaws.{at_some}
use Rattle.circuits.proofs.BoundLaws.{shifted, shifted_back, shifted_nowhere}
use Rattle.circuits.proofs.bounds.shift.Goals as goal

pub returns-then-by-eq0 : goal.returns-then-by-eq0
returns-then-by-eq0 c = λ net words here known.
    let more = at_some (λ by. IsMoreBy c.args.width by c.args.p.now c.args.q.now) _ _ c.in-Some.is c.in_ok-by.ensures.more in
    shifted_nowhere more c.if-by-eq0.true (omega (arith, c.from-whole.ensures, c.all_below.ensures.to))

pub returns-in-Some-true : goal.returns-in-Some-true
returns-in-Some-true c = λ net words here known.
    let more = at_some (λ by. IsMoreBy c.args.width by c.args.p.now c.args.q.now) _ _ c.in-Some.is c.in_ok-by.ensures.more in
    let small = at_some (λ by. by < 2 ^ c.args.width) _ _ c.in-Some.is c.in_ok-by.ensures.small in
    let all = subst (λ t. Wraps c.args.width c.in_ok-range.range c.in-Some.by t) c.in-Some-true.field-0-test c.in-Some-true.ensures in
    subst (λ n. IsShifted net words here c.args.width c.args.p.now c.args.q.now n) (sym c.from.ensures) (shifted_back c.in_ok-range.range small more (c.in_ok-range.ensures net words here known) all)

pub returns-in-Some-false : goal.returns-in-Some-false
returns-in-Some-false c = λ net words here known.
    let more = at_some (λ by. IsMoreBy c.args.width by c.args.p.now c.args.q.now) _ _ c.in-Some.is c.in_ok-by.ensures.more in
    let none = subst (λ t. Wraps c.args.width c.in_ok-range.range c.in-Some.by t) c.in-Some-false.field-0-test c.in-Some-false.ensures in
    let whole : c.from-whole.result + 1 ≡ 2 ^ c.args.width = omega (arith, c.from-whole.ensures, c.all_below.ensures.to) in
    subst (λ n. IsShifted net words here c.args.width c.args.p.now c.args.q.now (n + (c.from-whole.result + 1))) (sym c.from-in-Some-false.ensures) (shifted c.in_ok-range.range more (c.in_ok-range.ensures net words here known) none whole)
