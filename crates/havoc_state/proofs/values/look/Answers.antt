use Rattle.std.proofs.Common.{pos, ap, ◌∙◌}
use Rattle.std.specs.Prelude.{unwrap_or}
use Rattle.c_meaning.proofs.Innermost.{unfound}
use Rattle.run_state.specs.Interpreting.{key_of}
use Rattle.havoc_state.proofs.values.look.Goals as goal

pub returns-in-None : goal.returns-in-None
returns-in-None c = ap (λ v. unwrap_or v (pos 0)) c.in-None.ensures ∙ unfound (key_of c.args.at) c.args.machine.now.memory.cells
