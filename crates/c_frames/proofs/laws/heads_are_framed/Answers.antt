use Rattle.c_frames.proofs.Heads.{heads_framed}
use Rattle.c_frames.proofs.laws.heads_are_framed.Goals as goal

pub returns : goal.returns
returns c = heads_framed
