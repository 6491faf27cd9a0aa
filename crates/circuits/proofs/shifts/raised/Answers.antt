use Rattle.std.proofs.Common.{◌≡◌, ◌+◌, ◌^◌, arith, length}
use Rattle.circuits.specs.Net.{holds}
use Rattle.circuits.specs.Numbers.{number}
use Rattle.circuits.proofs.Nets.{own, grown_not}
use Rattle.circuits.proofs.Carrying.{own_counts, counts_by, counts_same, counts_wide, joined_counts, chosen_of}
use Rattle.circuits.proofs.Raising.{raised_value}
use Rattle.circuits.proofs.shifts.raised.Goals as goal

pub returns-in_err-gap-clause-grown : goal.returns-in_err-gap-clause-grown
returns-in_err-gap-clause-grown c = grown_not _ _

pub returns-in_err-moved-clause-grown : goal.returns-in_err-moved-clause-grown
returns-in_err-moved-clause-grown c = grown_not _ _

pub returns-in_err-kept-clause-grown : goal.returns-in_err-kept-clause-grown
returns-in_err-kept-clause-grown c = grown_not _ _

pub returns-clause-value : goal.returns-clause-value
returns-clause-value c =
    let a = own_counts _ _ c.requires.a_in in
    let n = c.args.n in
    let moved = counts_same c.in_ok-moved.ensures (joined_counts (counts_same c.deref.ensures.value c.in_ok-gap.ensures) a) in
    let kept = counts_same c.in_ok-kept.ensures (joined_counts a (counts_same c.deref-2.ensures.value c.in_ok-gap.ensures)) in
    let chosen = chosen_of c.in_ok-out.ensures.value (own _ _ c.requires.test_in) (counts_same c.deref-3.ensures.value moved) (counts_same c.deref-4.ensures.value kept) in
    counts_by _ (counts_wide (let e : n + length c.args.a.now ≡ length c.args.a.now + n = omega arith in e) chosen) (λ v. raised_value (holds v c.args.net.now c.args.test) (number v c.args.net.now c.args.a.now) (2 ^ length c.args.a.now) n)
