use Rattle.std.proofs.Common.{◌∙◌, ◌*◌, take, ap, arith, length}
use Rattle.std.proofs.lemmas.List.{length-take-le}
use Rattle.c_core.specs.Types.{width_of}
use Rattle.circuits.proofs.Nets.{kept, opp, grown_then, three}
use Rattle.circuits.proofs.Counting.{counts_later}
use Rattle.circuits.proofs.Composing.{xor_of}
use Rattle.circuits.proofs.Carrying.{counts_same, low_counts, sign_of}
use Rattle.circuits.proofs.Summed.{typed_counts}
use Rattle.circuits.proofs.Distances.{with_sign_of, exceeds_of}
use Rattle.circuits.proofs.Multiplied.{width_large, enough, four, widened, product_gives}
use Rattle.circuits.proofs.products.multiplied.Goals as goal

pub returns-clause-value : goal.returns-clause-value
returns-clause-value c =
    let ha = c.requires.a_in in
    let hb = c.requires.b_in in
    let g = c.in_ok-size.ensures.grown in
    let h = c.in_ok-test.ensures.grown in
    let k = c.in_ok-overflow.ensures.grown in
    let w = width_of c.args.model c.args.ty in
    let never = opp c.not-never.ensures c.yes.ensures in
    let left = sign_of _ c.sign-left.ensures (typed_counts ha) in
    let right = sign_of _ c.sign-right.ensures (typed_counts hb) in
    let full = widened _ _ _ _ ha.wide c.in_ok-size.ensures.value in
    let test = xor_of c.in_ok-test.ensures.value (kept g left) (kept g right) in
    let over = exceeds_of _ c.in_ok-overflow.ensures.value ha.wide test (counts_same c.deref.ensures.value (counts_later h full)) in
    let items = c.deref-2.ensures.value ∙ c.truncate.ensures.items ∙ ap (λ n. take n c.in_ok-size.size.items) ha.wide in
    let low = counts_same items (low_counts w (omega arith) (counts_later k (counts_later h full))) in
    let value = with_sign_of c.in_ok-value.ensures.value (kept k test) low in
    let l = c.in_ok-value.ensures.grown in
    product_gives _ _ c.requires.promoted ha hb (kept l over) value c.from_vec-bits.ensures (kept l (kept k (kept h (kept g never))))

pub returns-in_err-test-clause-grown : goal.returns-in_err-test-clause-grown
returns-in_err-test-clause-grown c =
    let ha = c.requires.a_in in
    let w = width_of c.args.model c.args.ty in
    grown_then _ _ _ _ _ _ c.in_ok-size.ensures.grown c.in_err-test.ensures.grown (enough w _ (width_large _ _ c.requires.promoted) (omega (arith, ha.wide, ap (λ k. k * (8 * k)) ha.wide)))

pub returns-in_err-overflow-clause-grown : goal.returns-in_err-overflow-clause-grown
returns-in_err-overflow-clause-grown c =
    let ha = c.requires.a_in in
    let w = width_of c.args.model c.args.ty in
    three _ c.in_ok-size.ensures.grown c.in_ok-test.ensures.grown c.in_err-overflow.ensures.grown
    (enough w _ (width_large _ _ c.requires.promoted) (omega (arith, ha.wide, ap (λ k. k * (8 * k)) ha.wide, ap length c.deref.ensures.value, c.in_ok-size.ensures.value.wide)))

pub returns-in_err-value-clause-grown : goal.returns-in_err-value-clause-grown
returns-in_err-value-clause-grown c =
    let ha = c.requires.a_in in
    let w = width_of c.args.model c.args.ty in
    let items = ap length (c.deref-2.ensures.value ∙ c.truncate.ensures.items) in
    four _ c.in_ok-size.ensures.grown c.in_ok-test.ensures.grown c.in_ok-overflow.ensures.grown c.in_err-value.ensures.grown
    (enough w _ (width_large _ _ c.requires.promoted) (omega (arith, ha.wide, ap (λ k. k * (8 * k)) ha.wide, ap length c.deref.ensures.value, c.in_ok-size.ensures.value.wide, items, length-take-le (length c.args.a.now) c.in_ok-size.size.items (omega (arith, c.in_ok-size.ensures.value.wide)))))

pub returns-clause-grown : goal.returns-clause-grown
returns-clause-grown c =
    let ha = c.requires.a_in in
    let w = width_of c.args.model c.args.ty in
    let items = ap length (c.deref-2.ensures.value ∙ c.truncate.ensures.items) in
    four _ c.in_ok-size.ensures.grown c.in_ok-test.ensures.grown c.in_ok-overflow.ensures.grown c.in_ok-value.ensures.grown
    (enough w _ (width_large _ _ c.requires.promoted) (omega (arith, ha.wide, ap (λ k. k * (8 * k)) ha.wide, ap length c.deref.ensures.value, c.in_ok-size.ensures.value.wide, items, length-take-le (length c.args.a.now) c.in_ok-size.size.items (omega (arith, c.in_ok-size.ensures.value.wide)))))
