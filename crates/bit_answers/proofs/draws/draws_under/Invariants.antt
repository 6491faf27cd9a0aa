use Rattle.std.proofs.Common.{◌≡◌, take}
use Rattle.c_core.specs.View.{program_view}
use Rattle.sym_state.specs.Standing.{draws_at}
use Rattle.bit_answers.specs.Deciding.{inputs_of}
use Rattle.bit_answers.proofs.draws.draws_under.Given as goal

abbrev pub invariant-loop-site : goal.invariant-loop-site
invariant-loop-site l = l.draws ≡ draws_at (program_view l.program) (inputs_of l.inputs) l.net (take l.site-index l.sites)
