use Rattle.std.proofs.Common.{◌+◌, ◌*◌, ap, arith, length}
use Rattle.c_core.specs.Types.{width_of}
use Rattle.circuits.proofs.Nets.{kept, grown_then, three}
use Rattle.circuits.proofs.Counting.{counts_later}
use Rattle.circuits.proofs.Composing.{xor_of}
use Rattle.circuits.proofs.Carrying.{own_counts, counts_same, counts_wide, sign_of}
use Rattle.circuits.proofs.Summed.{typed_counts}
use Rattle.circuits.proofs.Distances.{with_sign_of}
use Rattle.circuits.proofs.Multiplied.{width_large, enough, four}
use Rattle.circuits.proofs.Dividing.{together, divides_wide, divides_later, judged_of, some_of}
use Rattle.circuits.proofs.Halves.{division_over}
use Rattle.circuits.proofs.DivisionLaw.{division_made}
use Rattle.circuits.proofs.quotients.divide_in_type.Goals as goal

pub returns-clause-value : goal.returns-clause-value
returns-clause-value c =
    let ha = c.requires.a_in in
    let hb = c.requires.b_in in
    let g = c.in_ok-sizes.ensures.grown in
    let h = c.in_ok-test.ensures.grown in
    let k = c.in_ok-judged.ensures.grown in
    let l = c.in_ok-quotient.ensures.grown in
    let n = c.in_ok-rest.ensures.grown in
    let gh = together g h in
    let left = kept g (sign_of _ c.sign-left.ensures (typed_counts ha)) in
    let right = kept g (sign_of _ c.sign-right.ensures (typed_counts hb)) in
    let test = xor_of c.in_ok-test.ensures.value left right in
    let d = divides_later h (divides_wide _ _ _ _ ha.wide c.in_ok-sizes.ensures.value) in
    let over = division_over _ _ ha hb d (judged_of _ _ _ gh hb.inside c.deref.ensures.value hb.wide test c.in_ok-judged.ensures.value) in
    let some = some_of _ _ gh hb.inside c.in_ok-judged.ensures.value in
    let digits = counts_later k (counts_wide d.quotient_wide (own_counts _ _ d.quotient_in)) in
    let others = counts_later l (counts_later k (counts_wide d.rest_wide (own_counts _ _ d.rest_in))) in
    let quotient = with_sign_of c.in_ok-quotient.ensures.value (kept k test) (counts_same c.deref-2.ensures.value digits) in
    let rest = with_sign_of c.in_ok-rest.ensures.value (kept l (kept k (kept h left))) (counts_same c.deref-3.ensures.value others) in
    division_made _ _ ha hb d (kept n (kept l some)) (kept n (kept l over)) (counts_later n quotient) rest

pub returns-in_err-test-clause-grown : goal.returns-in_err-test-clause-grown
returns-in_err-test-clause-grown c =
    let ha = c.requires.a_in in
    let hb = c.requires.b_in in
    let w = width_of c.args.model c.args.ty in
    grown_then _ _ _ _ _ _ c.in_ok-sizes.ensures.grown c.in_err-test.ensures.grown (enough w _ (width_large _ _ c.requires.promoted) (omega (arith, ha.wide, hb.wide, ap (λ k. k * (10 * (k + 1))) ha.wide)))

pub returns-in_err-judged-clause-grown : goal.returns-in_err-judged-clause-grown
returns-in_err-judged-clause-grown c =
    let ha = c.requires.a_in in
    let hb = c.requires.b_in in
    let w = width_of c.args.model c.args.ty in
    three _ c.in_ok-sizes.ensures.grown c.in_ok-test.ensures.grown c.in_err-judged.ensures.grown (enough w _ (width_large _ _ c.requires.promoted) (omega (arith, ha.wide, hb.wide, ap (λ k. k * (10 * (k + 1))) ha.wide)))

pub returns-in_err-quotient-clause-grown : goal.returns-in_err-quotient-clause-grown
returns-in_err-quotient-clause-grown c =
    let ha = c.requires.a_in in
    let hb = c.requires.b_in in
    let w = width_of c.args.model c.args.ty in
    four _ c.in_ok-sizes.ensures.grown c.in_ok-test.ensures.grown c.in_ok-judged.ensures.grown c.in_err-quotient.ensures.grown
    (enough w _ (width_large _ _ c.requires.promoted) (omega (arith, ha.wide, hb.wide, ap (λ k. k * (10 * (k + 1))) ha.wide, ap length c.deref-2.ensures.value, c.in_ok-sizes.ensures.value.quotient_wide)))

pub returns-in_err-rest-clause-grown : goal.returns-in_err-rest-clause-grown
returns-in_err-rest-clause-grown c =
    let ha = c.requires.a_in in
    let hb = c.requires.b_in in
    let w = width_of c.args.model c.args.ty in
    four _ c.in_ok-sizes.ensures.grown c.in_ok-test.ensures.grown c.in_ok-judged.ensures.grown (together c.in_ok-quotient.ensures.grown c.in_err-rest.ensures.grown)
    (enough w _ (width_large _ _ c.requires.promoted)
    (omega (arith, ha.wide, hb.wide, ap (λ k. k * (10 * (k + 1))) ha.wide, ap length c.deref-2.ensures.value, c.in_ok-sizes.ensures.value.quotient_wide, ap length c.deref-3.ensures.value, c.in_ok-sizes.ensures.value.rest_wide)))

pub returns-clause-grown : goal.returns-clause-grown
returns-clause-grown c =
    let ha = c.requires.a_in in
    let hb = c.requires.b_in in
    let w = width_of c.args.model c.args.ty in
    four _ c.in_ok-sizes.ensures.grown c.in_ok-test.ensures.grown c.in_ok-judged.ensures.grown (together c.in_ok-quotient.ensures.grown c.in_ok-rest.ensures.grown)
    (enough w _ (width_large _ _ c.requires.promoted)
    (omega (arith, ha.wide, hb.wide, ap (λ k. k * (10 * (k + 1))) ha.wide, ap length c.deref-2.ensures.value, c.in_ok-sizes.ensures.value.quotient_wide, ap length c.deref-3.ensures.value, c.in_ok-sizes.ensures.value.rest_wide)))
