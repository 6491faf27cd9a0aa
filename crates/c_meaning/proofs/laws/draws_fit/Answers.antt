use Rattle.c_meaning.proofs.DrawsFit.{draws_fit, havoc_draws_fit}
use Rattle.c_meaning.proofs.laws.draws_fit.Goals as goal

pub returns : goal.returns
returns c = record { run = draws_fit; havoc_run = havoc_draws_fit }
