use Rattle.std.proofs.Common.{pos, ap, ◌∙◌}
use Rattle.std.specs.Prelude.{unwrap_or}
use Rattle.c_meaning.proofs.Innermost.{unfound}
use Rattle.flow_laws.specs.Acting.{cell}
use Rattle.flow_machine.proofs.operands.look.Goals as goal

pub returns-in-None : goal.returns-in-None
returns-in-None c = ap (λ v. unwrap_or v (pos 0)) c.in-None.ensures ∙ unfound (cell c.args.object c.args.index) c.args.run.now.memory.cells
