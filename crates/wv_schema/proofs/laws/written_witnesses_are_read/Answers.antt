use Rattle.wv_schema.proofs.WrittenWitness.{read_again}
use Rattle.wv_schema.proofs.laws.written_witnesses_are_read.Goals as goal

pub returns : goal.returns
returns c = read_again
