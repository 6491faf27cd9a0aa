use Rattle.std.proofs.Common.{◌∙◌, take, ap, arith, add-zero}
use Rattle.circuits.proofs.Nets.{kept, opp, grown_then, wider}
use Rattle.circuits.proofs.Counting.{counts_later}
use Rattle.circuits.proofs.Carrying.{counts_by, counts_same, low_counts, sum_of, sign_of, turned_of}
use Rattle.circuits.proofs.Summed.{width_pos, typed_counts, sum_gives}
use Rattle.circuits.proofs.sums.added.Goals as goal

pub returns-clause-value : goal.returns-clause-value
returns-clause-value c =
    let ha = c.requires.a_in in
    let hb = c.requires.b_in in
    let g = c.in_ok-total.ensures.grown in
    let never = opp c.not-never.ensures c.yes.ensures in
    let full = counts_by _ (sum_of c.in_ok-total.ensures.value (typed_counts ha) (typed_counts hb) never) (λ v. add-zero _) in
    let items = c.truncate.ensures.items ∙ ap (λ k. take k c.in_ok-total.total.items) ha.wide in
    let left = sign_of _ c.sign-left.ensures (counts_later g (typed_counts ha)) in
    let right = sign_of _ c.sign-right.ensures (counts_later g (typed_counts hb)) in
    let made = sign_of _ c.sign-made.ensures (counts_same (c.deref.ensures.value ∙ items) (low_counts _ (omega arith) full)) in
    sum_gives _ _ c.requires.promoted ha hb c.in_ok-overflow.ensures.grown full (turned_of c.in_ok-overflow.ensures.value left right made) (c.from_vec-bits.ensures ∙ items) (kept c.in_ok-overflow.ensures.grown (kept g never))

pub returns-in_err-total-clause-grown : goal.returns-in_err-total-clause-grown
returns-in_err-total-clause-grown c = wider c.in_err-total.ensures.grown (omega (arith, c.requires.a_in.wide))

pub returns-in_err-overflow-clause-grown : goal.returns-in_err-overflow-clause-grown
returns-in_err-overflow-clause-grown c = grown_then _ _ _ _ _ _ c.in_ok-total.ensures.grown c.in_err-overflow.ensures.grown (omega (arith, c.requires.a_in.wide, width_pos c.args.model c.args.ty))

pub returns-clause-grown : goal.returns-clause-grown
returns-clause-grown c = grown_then _ _ _ _ _ _ c.in_ok-total.ensures.grown c.in_ok-overflow.ensures.grown (omega (arith, c.requires.a_in.wide, width_pos c.args.model c.args.ty))
