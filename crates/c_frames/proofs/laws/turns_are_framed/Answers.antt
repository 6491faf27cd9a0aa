use Rattle.c_frames.proofs.Turns.{turns_framed}
use Rattle.c_frames.proofs.laws.turns_are_framed.Goals as goal

pub returns : goal.returns
returns c = turns_framed
