use Rattle.std.proofs.Common.{[], ◌∷◌}
use Rattle.circuits.proofs.WordLaws.{tells_more}
use Rattle.circuits.proofs.words.Words.note.Goals as goal

pub add-requires-clause-tells : goal.add-requires-clause-tells
add-requires-clause-tells c = tells_more (c.args.bits.now ∷ []) c.requires.tells
