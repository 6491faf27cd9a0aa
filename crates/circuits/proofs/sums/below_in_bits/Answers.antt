use Rattle.std.proofs.Common.{arith}
use Rattle.circuits.proofs.Nets.{kept, grown_then, wider, three}
use Rattle.circuits.proofs.Counting.{counts_later}
use Rattle.circuits.proofs.Composing.{xor_of, pick_of}
use Rattle.circuits.proofs.Carrying.{sign_of}
use Rattle.circuits.proofs.Summed.{width_pos, typed_counts, below_means}
use Rattle.circuits.proofs.sums.below_in_bits.Goals as goal

pub returns-clause-value : goal.returns-clause-value
returns-clause-value c =
    let ha = c.requires.a_in in
    let hb = c.requires.b_in in
    let less = c.in_ok-less.ensures in
    let left = sign_of _ c.sign-left.ensures (counts_later less.grown (typed_counts ha)) in
    let right = sign_of _ c.sign-right.ensures (counts_later less.grown (typed_counts hb)) in
    let apart = c.in_ok-apart.ensures in
    below_means _ _ ha hb (pick_of c.in_ok-below.ensures.value (xor_of apart.value left right) (kept apart.grown left) (kept apart.grown less.value))

pub returns-in_err-less-clause-grown : goal.returns-in_err-less-clause-grown
returns-in_err-less-clause-grown c = wider c.in_err-less.ensures.grown (omega (arith, c.requires.a_in.wide))

pub returns-in_err-apart-clause-grown : goal.returns-in_err-apart-clause-grown
returns-in_err-apart-clause-grown c = grown_then _ _ _ _ _ _ c.in_ok-less.ensures.grown c.in_err-apart.ensures.grown (omega (arith, c.requires.a_in.wide, width_pos c.args.model c.args.ty))

pub returns-in_err-below-clause-grown : goal.returns-in_err-below-clause-grown
returns-in_err-below-clause-grown c = three _ c.in_ok-less.ensures.grown c.in_ok-apart.ensures.grown c.in_err-below.ensures.grown (omega (arith, c.requires.a_in.wide, width_pos c.args.model c.args.ty))

pub returns-clause-grown : goal.returns-clause-grown
returns-clause-grown c = three _ c.in_ok-less.ensures.grown c.in_ok-apart.ensures.grown c.in_ok-below.ensures.grown (omega (arith, c.requires.a_in.wide, width_pos c.args.model c.args.ty))
