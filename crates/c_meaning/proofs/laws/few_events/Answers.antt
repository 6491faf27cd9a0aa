use Rattle.c_meaning.proofs.FewEvents.{few_events}
use Rattle.c_meaning.proofs.laws.few_events.Goals as goal

pub returns : goal.returns
returns c = few_events
