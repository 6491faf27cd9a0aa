use Rattle.std.proofs.Common.{◌≡◌, ◌+◌, ◌-◌, ◌^◌, refl, arith, length}
use Rattle.circuits.specs.Net.{holds}
use Rattle.circuits.specs.Numbers.{number}
use Rattle.circuits.proofs.Nets.{own, grown_not}
use Rattle.circuits.proofs.Carrying.{own_counts, counts_by, counts_same, counts_wide, joined_counts, chosen_of}
use Rattle.circuits.proofs.Multiplying.{rest_is}
use Rattle.circuits.proofs.Raising.{high_counts, lowered_choice}
use Rattle.circuits.proofs.shifts.lowered.Goals as goal

pub returns-in_err-gap-clause-grown : goal.returns-in_err-gap-clause-grown
returns-in_err-gap-clause-grown c = grown_not _ _

pub returns-in_err-moved-clause-grown : goal.returns-in_err-moved-clause-grown
returns-in_err-moved-clause-grown c = grown_not _ _

pub returns-clause-value : goal.returns-clause-value
returns-clause-value c =
    let n = c.args.n in
    let m = length c.args.a.now in
    let high = high_counts c.args.a.now n c.requires.within c.requires.a_in (rest_is c.args.a.now c.args.a.now n refl) in
    let moved = counts_same c.in_ok-moved.ensures (joined_counts high (counts_same c.deref.ensures.value c.in_ok-gap.ensures)) in
    let chosen = chosen_of c.in_ok-out.ensures.value (own _ _ c.requires.test_in) (counts_same c.deref-2.ensures.value moved) (own_counts _ _ c.requires.a_in) in
    counts_by _ (counts_wide (let e : m - n + n ≡ m = omega (arith, c.requires.within) in e) chosen) (λ v. lowered_choice (holds v c.args.net.now c.args.test) (number v c.args.net.now c.args.a.now) n (2 ^ (m - n)))
