use Rattle.std.proofs.Common.{take}
use Rattle.c_core.specs.View.{program_view}
use Rattle.sym_eval.specs.Calling.{Sets}
use Rattle.sym_eval.proofs.parameters.set_parameters.Given as goal

-- the parameters so far have their arguments
abbrev pub invariant-loop-index : goal.invariant-loop-index
invariant-loop-index l = Sets (program_view l.program) (take l.index l.params) l.arguments l.initial.sym l.sym
