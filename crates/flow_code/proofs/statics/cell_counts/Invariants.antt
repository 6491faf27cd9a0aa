use Rattle.std.proofs.Common.{◌≡◌, ◌++◌, drop}
use Rattle.flow_code.specs.Programs.{sizes_of}
use Rattle.flow_code.proofs.statics.cell_counts.Given as goal

-- those found, and those left
abbrev pub invariant-loop-object : goal.invariant-loop-object
invariant-loop-object l = l.found ++ sizes_of (drop l.object-index l.program.objects) ≡ sizes_of l.program.objects
