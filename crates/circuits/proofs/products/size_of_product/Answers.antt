use Rattle.std.proofs.Common.{◌≡◌, ◌*◌, ap, arith, length}
use Rattle.circuits.proofs.Nets.{grown_then, three}
use Rattle.circuits.proofs.Counting.{counts_later}
use Rattle.circuits.proofs.Carrying.{counts_same}
use Rattle.circuits.proofs.Distances.{product_of, size_later}
use Rattle.circuits.proofs.products.size_of_product.Goals as goal

pub returns-clause-value : goal.returns-clause-value
returns-clause-value c =
    let r = c.requires in
    let g = c.in_ok-x.ensures.grown in
    let x = counts_later c.in_ok-y.ensures.grown c.in_ok-x.ensures.value in
    let y = size_later c.args.b.now _ g r.b_in r.same c.in_ok-y.ensures.value in
    product_of c.in_ok-out.ensures.value (counts_same c.deref.ensures.value x) (counts_same c.deref-2.ensures.value y)

pub returns-in_err-y-clause-grown : goal.returns-in_err-y-clause-grown
returns-in_err-y-clause-grown c = grown_then _ _ _ _ _ _ c.in_ok-x.ensures.grown c.in_err-y.ensures.grown (omega (arith, c.requires.same))

pub returns-in_err-out-clause-grown : goal.returns-in_err-out-clause-grown
returns-in_err-out-clause-grown c =
    let n = length c.args.a.now in
    let lx = ap length c.deref.ensures.value in
    let ly = ap length c.deref-2.ensures.value in
    let wx : length c.deref.result.now ≡ n = omega (arith, c.in_ok-x.ensures.value.wide) in
    let wy : length c.deref-2.result.now ≡ n = omega (arith, c.in_ok-y.ensures.value.wide, c.requires.same) in
    three _ c.in_ok-x.ensures.grown c.in_ok-y.ensures.grown c.in_err-out.ensures.grown (omega (arith, c.requires.same, ap (λ k. k * (8 * length c.deref.result.now)) wy, ap (λ k. n * (8 * k)) wx))

pub returns-clause-grown : goal.returns-clause-grown
returns-clause-grown c =
    let n = length c.args.a.now in
    let lx = ap length c.deref.ensures.value in
    let ly = ap length c.deref-2.ensures.value in
    let wx : length c.deref.result.now ≡ n = omega (arith, c.in_ok-x.ensures.value.wide) in
    let wy : length c.deref-2.result.now ≡ n = omega (arith, c.in_ok-y.ensures.value.wide, c.requires.same) in
    three _ c.in_ok-x.ensures.grown c.in_ok-y.ensures.grown c.in_ok-out.ensures.grown (omega (arith, c.requires.same, ap (λ k. k * (8 * length c.deref.result.now)) wy, ap (λ k. n * (8 * k)) wx))
