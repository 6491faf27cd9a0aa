use Rattle.std.proofs.Common.{subst}
use Rattle.c_core.specs.View.{program_view}
use Rattle.c_core.specs.declared.program.Program.{Program}
use Rattle.way_bind.specs.Binding.{Binds}
use Rattle.witval.proofs.binding.bind_alone.Goals as goal

pub returns : goal.returns
returns c = subst (λ (p : Program). Binds (program_view p) c.args.witness.now c.bind.result) c.in_ok-lookup.ensures c.bind.ensures
