use Rattle.wv_arguments.proofs.Computed.{reads_modes}
use Rattle.wv_arguments.proofs.examples.reads_modes.Goals as goal

pub returns : goal.returns
returns c = reads_modes
