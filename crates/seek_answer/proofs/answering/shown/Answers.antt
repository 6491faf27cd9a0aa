use Rattle.std.proofs.Common.{refl}
use Rattle.seek_answer.proofs.answering.shown.Goals as goal

pub returns : goal.returns
returns c = record { positions = c.in-Some.positions; found = c.in-Some.is; shown = refl }
