use Rattle.std.proofs.Common.{◌≡◌}
use Rattle.c_core.specs.View.{program_view}
use Rattle.sym_whole.proofs.Starts.{Held}
use Rattle.sym_whole.proofs.first.start_objects.Given as goal

-- the cells of the objects before the number stand
abbrev pub invariant-loop-object : goal.invariant-loop-object
invariant-loop-object l = record { at : l.number ≡ l.object-index; held : Held (program_view l.program) l.number l.initial.sym l.sym }
