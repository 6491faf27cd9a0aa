use Rattle.wv_arguments.proofs.Computed.{refuses_words}
use Rattle.wv_arguments.proofs.examples.refuses_words.Goals as goal

pub returns : goal.returns
returns c = refuses_words
