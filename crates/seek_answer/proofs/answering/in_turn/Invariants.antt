use Rattle.std.proofs.Common.{◌≡◌, take}
use Rattle.c_meaning.specs.Replay.{values_of}
use Rattle.seek_answer.proofs.answering.in_turn.Given as goal

abbrev pub invariant-loop-draw : goal.invariant-loop-draw
invariant-loop-draw l = (l.values ≡ values_of (take l.draw-index l.draws))
