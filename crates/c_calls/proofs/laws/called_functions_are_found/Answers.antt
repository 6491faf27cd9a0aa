use Rattle.c_calls.proofs.CallingLaws.{all_called}
use Rattle.c_calls.proofs.laws.called_functions_are_found.Goals as goal

pub returns : goal.returns
returns c = all_called
