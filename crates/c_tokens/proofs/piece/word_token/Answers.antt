use Rattle.c_tokens.proofs.Runs.{word_passes}
use Rattle.c_tokens.proofs.piece.word_token.Goals as goal

pub word_of-requires : goal.word_of-requires
word_of-requires c = word_passes c.args.text.now c.word_run-length.result c.requires c.word_run-length.ensures.run
