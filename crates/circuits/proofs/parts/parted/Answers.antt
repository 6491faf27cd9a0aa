use Rattle.std.proofs.Common.{refl}
use Rattle.std.proofs.lemmas.Option.{IfSome_then}
use Rattle.circuits.proofs.FactLaws.{both_swapped, parted_either}
use Rattle.circuits.proofs.parts.parted.Goals as goal

pub returns-in-Some : goal.returns-in-Some
returns-in-Some c = parted_either c.in_ok-x.ensures c.in_ok-y.ensures refl refl refl refl c.in-Some.ensures

pub returns-in-Some-common : goal.returns-in-Some-common
returns-in-Some-common c = parted_either c.in_ok-x.ensures (both_swapped c.in_ok-y.ensures) refl refl c.swapped.ensures.left c.swapped.ensures.right c.in-Some-common.ensures

pub returns-in-Some-common-2 : goal.returns-in-Some-common-2
returns-in-Some-common-2 c = parted_either (both_swapped c.in_ok-x.ensures) c.in_ok-y.ensures c.swapped-2.ensures.left c.swapped-2.ensures.right refl refl c.in-Some-common-2.ensures

pub returns : goal.returns
returns c = IfSome_then c.common-4.result c.common-4.ensures (λ r p.
    parted_either (both_swapped c.in_ok-x.ensures) (both_swapped c.in_ok-y.ensures) c.swapped-3.ensures.left c.swapped-3.ensures.right c.swapped-4.ensures.left c.swapped-4.ensures.right p)
