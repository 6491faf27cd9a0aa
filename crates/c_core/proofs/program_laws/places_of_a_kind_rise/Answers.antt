use Rattle.c_core.proofs.PlaceLaws.{kinds_rise}
use Rattle.c_core.proofs.program_laws.places_of_a_kind_rise.Goals as goal

pub returns : goal.returns
returns c = kinds_rise
