use Rattle.std.proofs.Common.{rules, ◌≡◌, ◌∙◌, ◌-◌, ◌<◌, refl, sym, ap, get_or, length, pos, neg_ℤ, ◌-ℤ◌, ◌≤ℤ◌, ◌<ℤ◌, FitsSigned, w32, of_z, arith}
use Rattle.std.proofs.lemmas.Int.{to_z-of_z}
use Rattle.clauses.proofs.Loops.{same_bits, zero_minus, neg_fits}
use Rattle.clauses.proofs.Ordered.{outside_low, outside_high, outside_all, met_opposite}
use Rattle.clauses.proofs.numbers.is_consistent.Goals as goal

pub returns-then-numbers-low : goal.returns-then-numbers-low
returns-then-numbers-low c =
    let x = get_or c.args.numbers.now c.loop-low.low (pos 0) in
    let y = get_or c.args.numbers.now (c.loop-low.high - 1) (pos 0) in
    let lt : c.loop-low.high - 1 < length c.args.numbers.now = omega (arith, c.loop-low.invariant.within) in
    let fx : FitsSigned w32 x = search rules in
    let fy : FitsSigned w32 y = search rules in
    let fn : FitsSigned w32 (neg_ℤ y) = neg_fits y (c.requires.real (c.loop-low.high - 1) (pos 0) lt) in
    let e : x ≡ neg_ℤ y = same_bits x (neg_ℤ y) fx fn (c.if-numbers-low.true ∙ ap (of_z w32) (ap (λ z. pos 0 -ℤ z) (to_z-of_z w32 y fy) ∙ zero_minus y)) in
    (λ t. cc, λ apart. absurd (met_opposite c.args.numbers.now c.loop-low.low (c.loop-low.high - 1) (omega arith) lt e apart))

pub loop-low-preserved-then-numbers-low-2 : goal.loop-low-preserved-then-numbers-low-2
loop-low-preserved-then-numbers-low-2 c =
    let x = get_or c.args.numbers.now c.loop-low.low (pos 0) in
    let y = get_or c.args.numbers.now (c.loop-low.high - 1) (pos 0) in
    let t : x <ℤ neg_ℤ y = search rules in
    outside_low c.args.numbers.now c.loop-low.low c.loop-low.high c.requires.rising c.loop-low-test.true t c.loop-low.invariant

pub loop-low-preserved : goal.loop-low-preserved
loop-low-preserved c =
    let x = get_or c.args.numbers.now c.loop-low.low (pos 0) in
    let y = get_or c.args.numbers.now (c.loop-low.high - 1) (pos 0) in
    let fy : FitsSigned w32 y = search rules in
    let t : neg_ℤ y ≤ℤ x = search rules in
    outside_high c.args.numbers.now c.loop-low.low c.loop-low.high c.requires.rising c.loop-low-test.true t
    (λ e. c.if-numbers-low.false (ap (of_z w32) (e ∙ sym (ap (λ z. pos 0 -ℤ z) (to_z-of_z w32 y fy) ∙ zero_minus y)))) c.loop-low.invariant

pub returns : goal.returns
returns c = (λ _. outside_all _ _ _ c.loop-low-test.false c.loop-low.invariant, λ _. refl)
