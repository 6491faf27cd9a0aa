use Rattle.std.proofs.Common.{◌≡◌, ◌++◌, drop, length}
use Rattle.c_core.specs.View.{program_view, functions_view}
use Rattle.flow_code.specs.Programs.{functions_code, bodies}
use Rattle.flow_code.proofs.compiled.functions.Given as goal

-- what is left does what the whole does
abbrev pub invariant-loop-function : goal.invariant-loop-function
invariant-loop-function l = record {
  code : l.ops ++ functions_code (program_view l.program) (length l.ops) (functions_view (drop l.function-index l.program.functions))
      ≡ l.initial.ops ++ functions_code (program_view l.program) (length l.initial.ops) (functions_view l.program.functions);
  found : l.found ++ bodies (program_view l.program) (length l.ops) (functions_view (drop l.function-index l.program.functions))
      ≡ bodies (program_view l.program) (length l.initial.ops) (functions_view l.program.functions);
}
