use Rattle.author_binding.proofs.Authored.{sequences_confirmed}
use Rattle.author_binding.proofs.laws.authored_sequences_are_confirmed.Goals as goal

pub returns : goal.returns
returns c = sequences_confirmed
