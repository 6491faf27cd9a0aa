use Rattle.std.proofs.Common.{◌*◌, List, take}
use Rattle.c_core.specs.View.{program_view}
use Rattle.c_meaning.specs.declared.run.Duty.{Duty}
use Rattle.c_meaning.specs.Duties.{Placed}
use Rattle.sym_meaning.specs.Obliging.{redraw}
use Rattle.sym_state.specs.Following.{Follows}
use Rattle.sym_flow.specs.Drawing.{bits_of_objects}
use Rattle.sym_flow.proofs.drawing.redraw.Given as goal

-- the objects before the index drew their values
abbrev pub invariant-loop-object : goal.invariant-loop-object
invariant-loop-object l =
    (ds : List Duty) (I : List Placed) → Follows ds (program_view l.program) (4 * bits_of_objects (program_view l.program) (take l.object-index l.objects)) (bits_of_objects (program_view l.program) (take l.object-index l.objects)) l.initial.sym l.sym (λ v u. Unit {0}) (λ v. redraw (program_view l.program) I l.spot (take l.object-index l.objects))
