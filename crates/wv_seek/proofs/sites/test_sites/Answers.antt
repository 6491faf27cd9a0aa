use Rattle.std.proofs.Common.{◌≡◌, true, List, arith, subst}
use Rattle.std.specs.List.{Contains}
use Rattle.c_draws.specs.declared.places.DrawPlace.{DrawPlace}
use Rattle.wv_seek.proofs.sites.test_sites.Goals as goal

pub all_stand-requires : goal.all_stand-requires
all_stand-requires c x there = (c.in_ok-places.ensures x).0 (subst (λ (l : List DrawPlace). Contains l x) c.as_slice.ensures.value there)

pub returns : goal.returns
returns c = let stands : c.all_stand.result ≡ true = grind arith in c.all_stand.ensures stands
