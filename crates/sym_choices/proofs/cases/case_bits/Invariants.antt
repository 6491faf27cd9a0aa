use Rattle.std.proofs.Common.{take}
use Rattle.c_core.specs.Typing.{labels_in}
use Rattle.c_core.specs.View.{program_view, switch_view}
use Rattle.sym_choices.specs.Cases.{AreCases}
use Rattle.sym_choices.proofs.cases.case_bits.Given as goal

-- the arms before the index have their bits
abbrev pub invariant-loop-arm : goal.invariant-loop-arm
invariant-loop-arm l = AreCases (program_view l.program) l.ty l.x.bits (labels_in (switch_view (take l.arm-index l.arms))) l.initial.sym l.sym l.out.items
