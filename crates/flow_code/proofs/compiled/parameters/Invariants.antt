use Rattle.std.proofs.Common.{◌≡◌, ◌++◌, drop}
use Rattle.c_core.specs.View.{program_view}
use Rattle.flow_code.specs.Programs.{parameters_of}
use Rattle.flow_code.proofs.compiled.parameters.Given as goal

-- those found, and those left
abbrev pub invariant-loop-object : goal.invariant-loop-object
invariant-loop-object l = l.found ++ parameters_of (program_view l.program) (drop l.object-index l.objects) ≡ parameters_of (program_view l.program) l.objects
