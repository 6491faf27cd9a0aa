use Rattle.std.proofs.Common.{◌≡◌, ◌<◌, ◌≤◌, ◌-◌, suc, rules, refl, length, get_or, ap, ◌∙◌, subst, replicate, length-set, arith}
use Rattle.std.proofs.lemmas.List.{length-replicate}
use Rattle.flow_code.proofs.Placing.{PlacesFrom, placed_none, placed_more, placed_same}
use Rattle.flow_code.proofs.statics.places_of_starts.Goals as goal

pub loop-place-init : goal.loop-place-init
loop-place-init c =
    let starts = c.as_slice-starts.result.now in
    let all : c.in_ok-places.places.items ≡ replicate c.len.result (length starts) = search rules in
    record { count = refl; values = placed_none starts c.in_ok-places.places.items c.len.result all }

pub loop-place-preserved-then-object-len : goal.loop-place-preserved-then-object-len
loop-place-preserved-then-object-len c =
    let starts = c.as_slice-starts.result.now in
    let i = c.loop-place.place - 1 in
    let x = get_or starts i c.index-starts-place.result in
    let places = c.loop-place.places.items in
    let n = length c.in_ok-places.places.items in
    let count = c.loop-place.invariant.count in
    let next : c.loop-place.place ≡ suc i = omega arith in
    let within : i < length starts = omega (arith, c.loop-place.auto.place, c.loop-place-test.true) in
    let few : x.object < n = omega (arith, c.if-object-len.true, c.len-in-loop-place.ensures, c.loop-place.places.ok.0, count) in
    record {
      count = length-set places x.object i ∙ count;
      values = placed_more starts i x within (ap (get_or starts i) c.index-starts-place.is) places n count few (subst (PlacesFrom starts places n) next c.loop-place.invariant.values);
    }

pub loop-place-preserved : goal.loop-place-preserved
loop-place-preserved c =
    let starts = c.as_slice-starts.result.now in
    let i = c.loop-place.place - 1 in
    let x = get_or starts i c.index-starts-place.result in
    let places = c.loop-place.places.items in
    let n = length c.in_ok-places.places.items in
    let count = c.loop-place.invariant.count in
    let next : c.loop-place.place ≡ suc i = omega arith in
    let within : i < length starts = omega (arith, c.loop-place.auto.place, c.loop-place-test.true) in
    let many : n ≤ x.object = omega (arith, c.if-object-len.false, c.len-in-loop-place.ensures, c.loop-place.places.ok.0, count) in
    record {
      count = count;
      values = placed_same starts i x within (ap (get_or starts i) c.index-starts-place.is) places n many (subst (PlacesFrom starts places n) next c.loop-place.invariant.values);
    }

pub returns : goal.returns
returns c =
    let starts = c.as_slice-starts.result.now in
    let places = c.loop-place.places.items in
    let n = length c.in_ok-places.places.items in
    let all : c.in_ok-places.places.items ≡ replicate c.len.result (length starts) = search rules in
    let first : c.loop-place.place ≡ 0 = omega (arith, c.loop-place-test.false) in
    let many : n ≡ length c.args.program.now.objects = ap length all ∙ length-replicate c.len.result (length starts) ∙ c.len.ensures in
    let values = subst (PlacesFrom starts places n) first c.loop-place.invariant.values in
    record { count = c.loop-place.invariant.count ∙ many; values = subst (λ k. PlacesFrom c.args.program.now.starts places k 0) many (subst (λ ss. PlacesFrom ss places n 0) c.as_slice-starts.ensures values) }
