use Rattle.std.proofs.Common.{refl}
use Rattle.c_meaning.specs.Slots.{home_of}
use Rattle.c_meaning.proofs.slots.home.Goals as goal

pub returns : goal.returns
unfolding home_of
returns c = refl
