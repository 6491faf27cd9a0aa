use Rattle.std.proofs.Common.{◌≡◌, ◌∙◌, ◌*◌, ◌/◌, ◌^◌, ◌≤◌, not, nat_eq, take, refl, ap, arith, length}
use Rattle.std.proofs.lemmas.List.{length-take-le, length-drop}
use Rattle.std.proofs.lemmas.List.Elements.{All-take}
use Rattle.c_core.specs.Types.{width_of}
use Rattle.circuits.specs.Net.{IsIn}
use Rattle.circuits.specs.Numbers.{number}
use Rattle.circuits.proofs.Nets.{kept, opp, grown_then, three, means_by}
use Rattle.circuits.proofs.Counting.{counts_later}
use Rattle.circuits.proofs.Carrying.{any_of, counts_same, sign_of}
use Rattle.circuits.proofs.Summed.{width_pos, typed_counts}
use Rattle.circuits.proofs.Multiplied.{width_large, width_few, four}
use Rattle.circuits.proofs.Multiplying.{rest_is}
use Rattle.circuits.proofs.Dividing.{together}
use Rattle.circuits.proofs.Raising.{high_counts}
use Rattle.circuits.proofs.Placed.{right_cost, complemented_of, lowered_of, low_same, shift_right_gives}
use Rattle.circuits.proofs.shifts.shift_right.Goals as goal

pub returns-in_err-size-clause-grown : goal.returns-in_err-size-clause-grown
returns-in_err-size-clause-grown c =
    let r = c.requires in
    let p = c.count_digits-k.ensures in
    let k = c.count_digits-k.result in
    let b = c.args.b.now in
    let a = c.args.a.now in
    let w = width_of c.args.model c.args.ty in
    let large = width_large c.args.model c.args.ty r.promoted in
    let few = width_few c.args.model c.args.right in
    let kb : k ≤ length b = omega (arith, p.few, r.b_in.wide, width_large c.args.model c.args.right r.right_promoted) in
    let tests : length (take k b) ≡ k = length-take-le k b kb in
    let power : 2 ^ length (take k b) ≡ w = ap (λ j. 2 ^ j) tests ∙ p.power ∙ r.a_in.wide in
    let tail = ap length (rest_is b b k refl) in
    grown_then _ _ _ _ _ _ c.in_ok-far.ensures.grown c.in_err-size.ensures.grown (right_cost k w (length b) _ p.few large (omega (arith, r.b_in.wide)) (omega (arith, r.a_in.wide, tail, length-drop k b)))

pub returns-in_err-moved-clause-grown : goal.returns-in_err-moved-clause-grown
returns-in_err-moved-clause-grown c =
    let r = c.requires in
    let p = c.count_digits-k.ensures in
    let k = c.count_digits-k.result in
    let b = c.args.b.now in
    let a = c.args.a.now in
    let w = width_of c.args.model c.args.ty in
    let large = width_large c.args.model c.args.ty r.promoted in
    let few = width_few c.args.model c.args.right in
    let kb : k ≤ length b = omega (arith, p.few, r.b_in.wide, width_large c.args.model c.args.right r.right_promoted) in
    let tests : length (take k b) ≡ k = length-take-le k b kb in
    let power : 2 ^ length (take k b) ≡ w = ap (λ j. 2 ^ j) tests ∙ p.power ∙ r.a_in.wide in
    let tail = ap length (rest_is b b k refl) in
    let wide : length c.deref.result.now ≡ w = ap length c.deref.ensures.value ∙ c.in_ok-size.ensures.value.wide ∙ r.a_in.wide in
    let steps : length (take k b) * (3 * length c.deref.result.now) ≡ k * (3 * w) = ap (λ j. j * (3 * length c.deref.result.now)) tests ∙ ap (λ q. k * (3 * q)) wide in
    three _ c.in_ok-far.ensures.grown c.in_ok-size.ensures.grown c.in_err-moved.ensures.grown (right_cost k w (length b) _ p.few large (omega (arith, r.b_in.wide)) (omega (arith, r.a_in.wide, tail, length-drop k b, steps)))

pub returns-in_err-value-clause-grown : goal.returns-in_err-value-clause-grown
returns-in_err-value-clause-grown c =
    let r = c.requires in
    let p = c.count_digits-k.ensures in
    let k = c.count_digits-k.result in
    let b = c.args.b.now in
    let a = c.args.a.now in
    let w = width_of c.args.model c.args.ty in
    let large = width_large c.args.model c.args.ty r.promoted in
    let few = width_few c.args.model c.args.right in
    let kb : k ≤ length b = omega (arith, p.few, r.b_in.wide, width_large c.args.model c.args.right r.right_promoted) in
    let tests : length (take k b) ≡ k = length-take-le k b kb in
    let power : 2 ^ length (take k b) ≡ w = ap (λ j. 2 ^ j) tests ∙ p.power ∙ r.a_in.wide in
    let tail = ap length (rest_is b b k refl) in
    let wide : length c.deref.result.now ≡ w = ap length c.deref.ensures.value ∙ c.in_ok-size.ensures.value.wide ∙ r.a_in.wide in
    let steps : length (take k b) * (3 * length c.deref.result.now) ≡ k * (3 * w) = ap (λ j. j * (3 * length c.deref.result.now)) tests ∙ ap (λ q. k * (3 * q)) wide in
    let last : length c.deref-2.result.now ≡ w = ap length c.deref-2.ensures.value ∙ c.in_ok-moved.ensures.value.wide ∙ wide in
    four _ c.in_ok-far.ensures.grown c.in_ok-size.ensures.grown c.in_ok-moved.ensures.grown c.in_err-value.ensures.grown (right_cost k w (length b) _ p.few large (omega (arith, r.b_in.wide)) (omega (arith, r.a_in.wide, tail, length-drop k b, steps, last)))

pub returns-clause-grown : goal.returns-clause-grown
returns-clause-grown c =
    let r = c.requires in
    let p = c.count_digits-k.ensures in
    let k = c.count_digits-k.result in
    let b = c.args.b.now in
    let a = c.args.a.now in
    let w = width_of c.args.model c.args.ty in
    let large = width_large c.args.model c.args.ty r.promoted in
    let few = width_few c.args.model c.args.right in
    let kb : k ≤ length b = omega (arith, p.few, r.b_in.wide, width_large c.args.model c.args.right r.right_promoted) in
    let tests : length (take k b) ≡ k = length-take-le k b kb in
    let power : 2 ^ length (take k b) ≡ w = ap (λ j. 2 ^ j) tests ∙ p.power ∙ r.a_in.wide in
    let tail = ap length (rest_is b b k refl) in
    let wide : length c.deref.result.now ≡ w = ap length c.deref.ensures.value ∙ c.in_ok-size.ensures.value.wide ∙ r.a_in.wide in
    let steps : length (take k b) * (3 * length c.deref.result.now) ≡ k * (3 * w) = ap (λ j. j * (3 * length c.deref.result.now)) tests ∙ ap (λ q. k * (3 * q)) wide in
    let last : length c.deref-2.result.now ≡ w = ap length c.deref-2.ensures.value ∙ c.in_ok-moved.ensures.value.wide ∙ wide in
    four _ c.in_ok-far.ensures.grown c.in_ok-size.ensures.grown c.in_ok-moved.ensures.grown c.in_ok-value.ensures.grown (right_cost k w (length b) _ p.few large (omega (arith, r.b_in.wide)) (omega (arith, r.a_in.wide, tail, length-drop k b, steps, last)))

pub returns-clause-value : goal.returns-clause-value
returns-clause-value c =
    let r = c.requires in
    let p = c.count_digits-k.ensures in
    let k = c.count_digits-k.result in
    let b = c.args.b.now in
    let a = c.args.a.now in
    let w = width_of c.args.model c.args.ty in
    let large = width_large c.args.model c.args.ty r.promoted in
    let few = width_few c.args.model c.args.right in
    let kb : k ≤ length b = omega (arith, p.few, r.b_in.wide, width_large c.args.model c.args.right r.right_promoted) in
    let tests : length (take k b) ≡ k = length-take-le k b kb in
    let power : 2 ^ length (take k b) ≡ w = ap (λ j. 2 ^ j) tests ∙ p.power ∙ r.a_in.wide in
    let tail = ap length (rest_is b b k refl) in
    let g = c.in_ok-far.ensures.grown in
    let h = c.in_ok-size.ensures.grown in
    let l = c.in_ok-moved.ensures.grown in
    let o = c.in_ok-value.ensures.grown in
    let old = c.args.net.now in
    let never = opp c.not-never.ensures c.yes.ensures in
    let high = high_counts b k kb r.b_in.inside (rest_is b b k refl) in
    let far = means_by _ _ _ _ (any_of c.in_ok-far.ensures.value high) (λ v. ap (λ q. not (nat_eq (number v old b / q) 0)) (p.power ∙ r.a_in.wide)) in
    let digits = All-take (λ x. IsIn old x) k b r.b_in.inside in
    let minus = kept g (sign_of _ c.sign-minus.ensures (typed_counts r.a_in)) in
    let size = complemented_of c.in_ok-size.ensures.value minus (counts_later g (typed_counts r.a_in)) in
    let moved = lowered_of (take k b) (together g h) digits (counts_same c.deref.ensures.value size) c.in_ok-moved.ensures.value in
    let value = complemented_of c.in_ok-value.ensures.value (kept l (kept h minus)) (counts_same c.deref-2.ensures.value moved) in
    shift_right_gives a b (λ v. number v old (take k b)) r.promoted r.right_promoted r.a_in r.b_in (λ v z. low_same v old b k w kb (p.power ∙ r.a_in.wide) (width_pos c.args.model c.args.ty) z)
    (kept o (kept l (kept h (kept g never)))) (kept o (kept l (kept h far))) value c.from_vec-bits.ensures
