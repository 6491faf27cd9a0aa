use Rattle.std.proofs.Common.{◌≡◌, ◌∙◌, ◌+◌, ◌*◌, ◌/◌, ◌^◌, ◌≤◌, not, nat_eq, take, refl, ap, arith, length}
use Rattle.std.proofs.lemmas.List.{length-take-le, length-drop}
use Rattle.std.proofs.lemmas.List.Elements.{All-take}
use Rattle.c_core.specs.Types.{width_of}
use Rattle.circuits.specs.Net.{IsIn}
use Rattle.circuits.specs.Numbers.{number}
use Rattle.circuits.proofs.Nets.{kept, opp, and_of, grown_then, three, longer, means_by}
use Rattle.circuits.proofs.Counting.{number_stays, counts_later}
use Rattle.circuits.proofs.Carrying.{any_of, counts_by, counts_same, low_counts}
use Rattle.circuits.proofs.Summed.{width_pos}
use Rattle.circuits.proofs.Multiplied.{width_large, width_few, four}
use Rattle.circuits.proofs.Multiplying.{rest_is}
use Rattle.circuits.proofs.Dividing.{together}
use Rattle.circuits.proofs.Raising.{high_counts}
use Rattle.circuits.proofs.Placed.{left_cost, loses_of, low_same, shift_left_gives}
use Rattle.circuits.proofs.shifts.shift_left.Goals as goal

pub returns-in_err-moved-clause-grown : goal.returns-in_err-moved-clause-grown
returns-in_err-moved-clause-grown c =
    let r = c.requires in
    let p = c.count_digits-k.ensures in
    let k = c.count_digits-k.result in
    let b = c.args.b.now in
    let a = c.args.a.now in
    let w = width_of c.args.model c.args.ty in
    let large = width_large c.args.model c.args.ty r.promoted in
    let few = width_few c.args.model c.args.right in
    let kb : k ≤ length b = omega (arith, p.few, r.b_in.wide, width_large c.args.model c.args.right r.right_promoted) in
    let tests : length (take k b) ≡ k = length-take-le k b kb in
    let power : 2 ^ length (take k b) ≡ w = ap (λ j. 2 ^ j) tests ∙ p.power ∙ r.a_in.wide in
    let tail = ap length (rest_is b b k refl) in
    let steps : length (take k b) * (3 * (length a + 2 ^ length (take k b))) ≡ k * (3 * (w + w)) = ap (λ j. j * (3 * (length a + 2 ^ length (take k b)))) tests ∙ ap (λ q. k * (3 * (length a + q))) power ∙ ap (λ q. k * (3 * (q + w))) r.a_in.wide in
    grown_then _ _ _ _ _ _ c.in_ok-far.ensures.grown c.in_err-moved.ensures.grown (left_cost k w (length b) _ p.few large (omega (arith, r.b_in.wide)) (omega (arith, r.a_in.wide, tail, length-drop k b, steps)))

pub loses-requires-clause-room : goal.loses-requires-clause-room
loses-requires-clause-room c =
    let r = c.requires in
    let p = c.count_digits-k.ensures in
    let k = c.count_digits-k.result in
    let b = c.args.b.now in
    let a = c.args.a.now in
    let w = width_of c.args.model c.args.ty in
    let large = width_large c.args.model c.args.ty r.promoted in
    let few = width_few c.args.model c.args.right in
    let kb : k ≤ length b = omega (arith, p.few, r.b_in.wide, width_large c.args.model c.args.right r.right_promoted) in
    let tests : length (take k b) ≡ k = length-take-le k b kb in
    let power : 2 ^ length (take k b) ≡ w = ap (λ j. 2 ^ j) tests ∙ p.power ∙ r.a_in.wide in
    let tail = ap length (rest_is b b k refl) in
    let steps : length (take k b) * (3 * (length a + 2 ^ length (take k b))) ≡ k * (3 * (w + w)) = ap (λ j. j * (3 * (length a + 2 ^ length (take k b)))) tests ∙ ap (λ q. k * (3 * (length a + q))) power ∙ ap (λ q. k * (3 * (q + w))) r.a_in.wide in
    let g = together c.in_ok-far.ensures.grown c.in_ok-moved.ensures.grown in
    let all = left_cost k w (length b) (length b + k * (3 * (w + w)) + w + 3) p.few large (omega (arith, r.b_in.wide)) (omega arith) in
    omega (arith, (longer _ _ _ g).1, r.a_in.wide, tail, length-drop k b, steps, r.room)

pub returns-in_err-lost-clause-grown : goal.returns-in_err-lost-clause-grown
returns-in_err-lost-clause-grown c =
    let r = c.requires in
    let p = c.count_digits-k.ensures in
    let k = c.count_digits-k.result in
    let b = c.args.b.now in
    let a = c.args.a.now in
    let w = width_of c.args.model c.args.ty in
    let large = width_large c.args.model c.args.ty r.promoted in
    let few = width_few c.args.model c.args.right in
    let kb : k ≤ length b = omega (arith, p.few, r.b_in.wide, width_large c.args.model c.args.right r.right_promoted) in
    let tests : length (take k b) ≡ k = length-take-le k b kb in
    let power : 2 ^ length (take k b) ≡ w = ap (λ j. 2 ^ j) tests ∙ p.power ∙ r.a_in.wide in
    let tail = ap length (rest_is b b k refl) in
    let steps : length (take k b) * (3 * (length a + 2 ^ length (take k b))) ≡ k * (3 * (w + w)) = ap (λ j. j * (3 * (length a + 2 ^ length (take k b)))) tests ∙ ap (λ q. k * (3 * (length a + q))) power ∙ ap (λ q. k * (3 * (q + w))) r.a_in.wide in
    three _ c.in_ok-far.ensures.grown c.in_ok-moved.ensures.grown c.in_err-lost.ensures.grown (left_cost k w (length b) _ p.few large (omega (arith, r.b_in.wide)) (omega (arith, r.a_in.wide, tail, length-drop k b, steps)))

pub and-requires-clause-room : goal.and-requires-clause-room
and-requires-clause-room c =
    let r = c.requires in
    let p = c.count_digits-k.ensures in
    let k = c.count_digits-k.result in
    let b = c.args.b.now in
    let a = c.args.a.now in
    let w = width_of c.args.model c.args.ty in
    let large = width_large c.args.model c.args.ty r.promoted in
    let few = width_few c.args.model c.args.right in
    let kb : k ≤ length b = omega (arith, p.few, r.b_in.wide, width_large c.args.model c.args.right r.right_promoted) in
    let tests : length (take k b) ≡ k = length-take-le k b kb in
    let power : 2 ^ length (take k b) ≡ w = ap (λ j. 2 ^ j) tests ∙ p.power ∙ r.a_in.wide in
    let tail = ap length (rest_is b b k refl) in
    let steps : length (take k b) * (3 * (length a + 2 ^ length (take k b))) ≡ k * (3 * (w + w)) = ap (λ j. j * (3 * (length a + 2 ^ length (take k b)))) tests ∙ ap (λ q. k * (3 * (length a + q))) power ∙ ap (λ q. k * (3 * (q + w))) r.a_in.wide in
    let g = together (together c.in_ok-far.ensures.grown c.in_ok-moved.ensures.grown) c.in_ok-lost.ensures.grown in
    let all = left_cost k w (length b) (length b + k * (3 * (w + w)) + w + 3) p.few large (omega (arith, r.b_in.wide)) (omega arith) in
    omega (arith, (longer _ _ _ g).1, r.a_in.wide, tail, length-drop k b, steps, r.room)

pub returns-in_err-overflow-clause-grown : goal.returns-in_err-overflow-clause-grown
returns-in_err-overflow-clause-grown c =
    let r = c.requires in
    let p = c.count_digits-k.ensures in
    let k = c.count_digits-k.result in
    let b = c.args.b.now in
    let a = c.args.a.now in
    let w = width_of c.args.model c.args.ty in
    let large = width_large c.args.model c.args.ty r.promoted in
    let few = width_few c.args.model c.args.right in
    let kb : k ≤ length b = omega (arith, p.few, r.b_in.wide, width_large c.args.model c.args.right r.right_promoted) in
    let tests : length (take k b) ≡ k = length-take-le k b kb in
    let power : 2 ^ length (take k b) ≡ w = ap (λ j. 2 ^ j) tests ∙ p.power ∙ r.a_in.wide in
    let tail = ap length (rest_is b b k refl) in
    let steps : length (take k b) * (3 * (length a + 2 ^ length (take k b))) ≡ k * (3 * (w + w)) = ap (λ j. j * (3 * (length a + 2 ^ length (take k b)))) tests ∙ ap (λ q. k * (3 * (length a + q))) power ∙ ap (λ q. k * (3 * (q + w))) r.a_in.wide in
    four _ c.in_ok-far.ensures.grown c.in_ok-moved.ensures.grown c.in_ok-lost.ensures.grown c.in_err-overflow.ensures.grown (left_cost k w (length b) _ p.few large (omega (arith, r.b_in.wide)) (omega (arith, r.a_in.wide, tail, length-drop k b, steps)))

pub returns-clause-grown : goal.returns-clause-grown
returns-clause-grown c =
    let r = c.requires in
    let p = c.count_digits-k.ensures in
    let k = c.count_digits-k.result in
    let b = c.args.b.now in
    let a = c.args.a.now in
    let w = width_of c.args.model c.args.ty in
    let large = width_large c.args.model c.args.ty r.promoted in
    let few = width_few c.args.model c.args.right in
    let kb : k ≤ length b = omega (arith, p.few, r.b_in.wide, width_large c.args.model c.args.right r.right_promoted) in
    let tests : length (take k b) ≡ k = length-take-le k b kb in
    let power : 2 ^ length (take k b) ≡ w = ap (λ j. 2 ^ j) tests ∙ p.power ∙ r.a_in.wide in
    let tail = ap length (rest_is b b k refl) in
    let steps : length (take k b) * (3 * (length a + 2 ^ length (take k b))) ≡ k * (3 * (w + w)) = ap (λ j. j * (3 * (length a + 2 ^ length (take k b)))) tests ∙ ap (λ q. k * (3 * (length a + q))) power ∙ ap (λ q. k * (3 * (q + w))) r.a_in.wide in
    four _ c.in_ok-far.ensures.grown c.in_ok-moved.ensures.grown c.in_ok-lost.ensures.grown c.in_ok-overflow.ensures.grown (left_cost k w (length b) _ p.few large (omega (arith, r.b_in.wide)) (omega (arith, r.a_in.wide, tail, length-drop k b, steps)))

pub returns-clause-value : goal.returns-clause-value
returns-clause-value c =
    let r = c.requires in
    let p = c.count_digits-k.ensures in
    let k = c.count_digits-k.result in
    let b = c.args.b.now in
    let a = c.args.a.now in
    let w = width_of c.args.model c.args.ty in
    let large = width_large c.args.model c.args.ty r.promoted in
    let few = width_few c.args.model c.args.right in
    let kb : k ≤ length b = omega (arith, p.few, r.b_in.wide, width_large c.args.model c.args.right r.right_promoted) in
    let tests : length (take k b) ≡ k = length-take-le k b kb in
    let power : 2 ^ length (take k b) ≡ w = ap (λ j. 2 ^ j) tests ∙ p.power ∙ r.a_in.wide in
    let tail = ap length (rest_is b b k refl) in
    let steps : length (take k b) * (3 * (length a + 2 ^ length (take k b))) ≡ k * (3 * (w + w)) = ap (λ j. j * (3 * (length a + 2 ^ length (take k b)))) tests ∙ ap (λ q. k * (3 * (length a + q))) power ∙ ap (λ q. k * (3 * (q + w))) r.a_in.wide in
    let g = c.in_ok-far.ensures.grown in
    let h = c.in_ok-moved.ensures.grown in
    let l = c.in_ok-lost.ensures.grown in
    let o = c.in_ok-overflow.ensures.grown in
    let old = c.args.net.now in
    let high = high_counts b k kb r.b_in.inside (rest_is b b k refl) in
    let far = means_by _ _ _ _ (any_of c.in_ok-far.ensures.value high) (λ v. ap (λ q. not (nat_eq (number v old b / q) 0)) (p.power ∙ r.a_in.wide)) in
    let digits = All-take (λ x. IsIn old x) k b r.b_in.inside in
    let moved = counts_by (λ v. number v old a * 2 ^ number v old (take k b)) c.in_ok-moved.ensures.value
    (λ v. ap (λ q. q * 2 ^ number v c.any.new.net (take k b)) (number_stays v _ old c.any.new.net a g r.a_in.inside) ∙ ap (λ q. number v old a * 2 ^ q) (number_stays v _ old c.any.new.net (take k b) g digits)) in
    let lost = loses_of a _ (together g h) r.a_in.inside r.a_in.wide c.deref.ensures.value moved c.in_ok-lost.ensures.value in
    let over = and_of c.in_ok-overflow.ensures.value (opp c.not.ensures (kept l (kept h far))) lost in
    let low = low_counts w (omega (arith, r.a_in.wide, power)) (counts_later o (counts_later l moved)) in
    shift_left_gives a b (λ v. number v old (take k b)) r.promoted r.right_promoted r.a_in r.b_in (λ v z. low_same v old b k w kb (p.power ∙ r.a_in.wide) (width_pos c.args.model c.args.ty) z) over (kept o (kept l (kept h far)))
    (counts_same (c.truncate.ensures.items ∙ ap (λ n. take n c.in_ok-moved.moved.items) r.a_in.wide) low) c.from_vec-bits.ensures
