use Rattle.std.proofs.Common.{rules, ◌≡◌, ◌-◌, ◌%◌, ◌^◌, ◌∙◌, length, arith, ap, zero-add}
use Rattle.circuits.specs.Numbers.{number}
use Rattle.circuits.proofs.Nets.{own, kept, grown_not, grown_then}
use Rattle.circuits.proofs.Counting.{counts_later}
use Rattle.circuits.proofs.Carrying.{own_counts, counts_by, counts_same, low_counts, difference_of, chosen_of}
use Rattle.circuits.proofs.Distances.{unturned}
use Rattle.circuits.proofs.signs.with_sign.Goals as goal

pub returns-in_err-same-clause-grown : goal.returns-in_err-same-clause-grown
returns-in_err-same-clause-grown c = grown_not _ _

pub returns-then-eq-clause-grown : goal.returns-then-eq-clause-grown
returns-then-eq-clause-grown c = grown_not _ _

pub returns-then-eq-clause-value : goal.returns-then-eq-clause-value
returns-then-eq-clause-value c =
    let same : c.args.test ≡ c.not.result = search rules in
    unturned _ same c.not.ensures c.yes.ensures c.requires.a_in c.in_ok-same.ensures

pub returns-in_err-zero-clause-grown : goal.returns-in_err-zero-clause-grown
returns-in_err-zero-clause-grown c = grown_not _ _

pub returns-in_err-out-clause-grown : goal.returns-in_err-out-clause-grown
returns-in_err-out-clause-grown c =
    let rest = difference_of c.in_ok-opposite.ensures.value (counts_same c.deref.ensures.value c.in_ok-zero.ensures) (own_counts _ _ c.requires.a_in) in
    let low = counts_same (c.deref-2.ensures.value ∙ c.truncate.ensures.items) (low_counts (length c.args.a.now) (omega arith) rest) in
    grown_then _ _ _ _ _ _ c.in_ok-opposite.ensures.grown c.in_err-out.ensures.grown (omega (arith, low.wide, ap length c.deref.ensures.value, c.in_ok-zero.ensures.wide))

pub returns-clause-grown : goal.returns-clause-grown
returns-clause-grown c =
    let rest = difference_of c.in_ok-opposite.ensures.value (counts_same c.deref.ensures.value c.in_ok-zero.ensures) (own_counts _ _ c.requires.a_in) in
    let low = counts_same (c.deref-2.ensures.value ∙ c.truncate.ensures.items) (low_counts (length c.args.a.now) (omega arith) rest) in
    grown_then _ _ _ _ _ _ c.in_ok-opposite.ensures.grown c.in_ok-out.ensures.grown (omega (arith, low.wide, ap length c.deref.ensures.value, c.in_ok-zero.ensures.wide))

pub returns-clause-value : goal.returns-clause-value
returns-clause-value c =
    let a = own_counts _ _ c.requires.a_in in
    let g = c.in_ok-opposite.ensures.grown in
    let n = length c.args.a.now in
    let rest = difference_of c.in_ok-opposite.ensures.value (counts_same c.deref.ensures.value c.in_ok-zero.ensures) a in
    let low = counts_by (λ v. (2 ^ n - number v c.args.net.now c.args.a.now) % 2 ^ n) (low_counts n (omega arith) rest) (λ v. ap (λ k. k % 2 ^ n) (zero-add (2 ^ n - number v c.args.net.now c.args.a.now))) in
    chosen_of c.in_ok-out.ensures.value (kept g (own _ _ c.requires.test_in)) (counts_same (c.deref-2.ensures.value ∙ c.truncate.ensures.items) low) (counts_later g a)
