use Rattle.std.proofs.Common.{◌≡◌, ◌∙◌, ◌+◌, ◌*◌, ap, arith, length}
use Rattle.circuits.specs.Net.{holds}
use Rattle.circuits.specs.Numbers.{number, digit}
use Rattle.circuits.proofs.Nets.{own, opp, grown_not, grown_then}
use Rattle.circuits.proofs.Counting.{counts_later}
use Rattle.circuits.proofs.Carrying.{own_counts, counts_by, counts_same, counts_wide, joined_counts, difference_of, low_counts, chosen_of, at_means}
use Rattle.circuits.proofs.Distances.{one_counts}
use Rattle.circuits.proofs.Dividing.{row_made}
use Rattle.circuits.proofs.quotients.divide_row.Goals as goal

pub returns-in_err-upper-clause-grown : goal.returns-in_err-upper-clause-grown
returns-in_err-upper-clause-grown c = grown_not _ _

pub returns-in_err-wide-clause-grown : goal.returns-in_err-wide-clause-grown
returns-in_err-wide-clause-grown c = grown_not _ _

pub returns-in_err-left-clause-grown : goal.returns-in_err-left-clause-grown
returns-in_err-left-clause-grown c =
    let r = c.requires in
    let b = c.args.b.now in
    let n = length b in
    let upper = counts_by (λ v. digit (holds v c.args.net.now c.args.next) + 2 * number v c.args.net.now c.args.rest.now) (counts_wide (let e : 1 + length c.args.rest.now ≡ n + 1 = omega (arith, r.same) in e) (counts_same c.in_ok-upper.ensures (joined_counts (one_counts (own _ _ r.next_in)) (own_counts _ _ r.rest_in)))) (λ v. omega arith) in
    let wide = counts_by (λ v. number v c.args.net.now b) (counts_same c.in_ok-wide.ensures (joined_counts (own_counts _ _ r.b_in) (one_counts (opp c.not.ensures c.yes.ensures)))) (λ v. omega arith) in
    let full = difference_of c.in_ok-less.ensures.value (counts_same c.deref.ensures.value upper) (counts_same c.deref-2.ensures.value wide) in
    let low = low_counts (n + 1) (omega arith) full in
    let items = c.deref-3.ensures.value ∙ c.truncate.ensures.items in
    grown_then _ _ _ _ _ _ c.in_ok-less.ensures.grown c.in_err-left.ensures.grown (omega (arith, ap length c.deref.ensures.value, upper.wide, ap length items, low.wide))

pub returns-clause-grown : goal.returns-clause-grown
returns-clause-grown c =
    let r = c.requires in
    let b = c.args.b.now in
    let n = length b in
    let upper = counts_by (λ v. digit (holds v c.args.net.now c.args.next) + 2 * number v c.args.net.now c.args.rest.now) (counts_wide (let e : 1 + length c.args.rest.now ≡ n + 1 = omega (arith, r.same) in e) (counts_same c.in_ok-upper.ensures (joined_counts (one_counts (own _ _ r.next_in)) (own_counts _ _ r.rest_in)))) (λ v. omega arith) in
    let wide = counts_by (λ v. number v c.args.net.now b) (counts_same c.in_ok-wide.ensures (joined_counts (own_counts _ _ r.b_in) (one_counts (opp c.not.ensures c.yes.ensures)))) (λ v. omega arith) in
    let full = difference_of c.in_ok-less.ensures.value (counts_same c.deref.ensures.value upper) (counts_same c.deref-2.ensures.value wide) in
    let low = low_counts (n + 1) (omega arith) full in
    let items = c.deref-3.ensures.value ∙ c.truncate.ensures.items in
    grown_then _ _ _ _ _ _ c.in_ok-less.ensures.grown c.in_ok-left.ensures.grown (omega (arith, ap length c.deref.ensures.value, upper.wide, ap length items, low.wide))

pub returns-clause-value : goal.returns-clause-value
returns-clause-value c =
    let r = c.requires in
    let b = c.args.b.now in
    let n = length b in
    let upper = counts_by (λ v. digit (holds v c.args.net.now c.args.next) + 2 * number v c.args.net.now c.args.rest.now) (counts_wide (let e : 1 + length c.args.rest.now ≡ n + 1 = omega (arith, r.same) in e) (counts_same c.in_ok-upper.ensures (joined_counts (one_counts (own _ _ r.next_in)) (own_counts _ _ r.rest_in)))) (λ v. omega arith) in
    let wide = counts_by (λ v. number v c.args.net.now b) (counts_same c.in_ok-wide.ensures (joined_counts (own_counts _ _ r.b_in) (one_counts (opp c.not.ensures c.yes.ensures)))) (λ v. omega arith) in
    let full = difference_of c.in_ok-less.ensures.value (counts_same c.deref.ensures.value upper) (counts_same c.deref-2.ensures.value wide) in
    let low = low_counts (n + 1) (omega arith) full in
    let items = c.deref-3.ensures.value ∙ c.truncate.ensures.items in
    let d = c.index-digit.result.now in
    let x = at_means (n + 1) d full (omega arith) c.index-digit.ensures in
    let chosen = chosen_of c.in_ok-left.ensures.value x (counts_same items low) (counts_same c.deref-4.ensures.value (counts_later c.in_ok-less.ensures.grown upper)) in
    row_made d r.same r.rest_in r.b_in c.in_ok-left.ensures.grown full c.index-digit.ensures x chosen c.truncate-2.ensures.items
