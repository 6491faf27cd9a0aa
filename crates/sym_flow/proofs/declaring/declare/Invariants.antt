use Rattle.c_core.specs.View.{program_view}
use Rattle.sym_flow.specs.Ways.{Became, declaring}
use Rattle.sym_flow.proofs.declaring.declare.Given as goal

-- so many cells are declared
abbrev pub invariant-loop-index : goal.invariant-loop-index
invariant-loop-index l = Became (program_view l.program) 0 l.initial.sym l.sym (λ v. declaring l.object l.index)
