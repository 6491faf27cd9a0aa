use Rattle.c_frames.proofs.CellLaws.{others_read}
use Rattle.c_frames.proofs.laws.others_read_as_before.Goals as goal

pub returns : goal.returns
returns c = others_read
