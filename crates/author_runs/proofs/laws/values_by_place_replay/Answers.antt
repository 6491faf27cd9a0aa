use Rattle.author_runs.proofs.ByPlace.{given_by_place}
use Rattle.author_runs.proofs.laws.values_by_place_replay.Goals as goal

pub returns : goal.returns
returns c = given_by_place
