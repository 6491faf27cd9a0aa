use Rattle.std.proofs.Common.{◌≡◌, ◌++◌, drop, length}
use Rattle.c_core.specs.View.{program_view, names_view}
use Rattle.flow_code.specs.Statements.{names_code}
use Rattle.flow_code.proofs.declarations.declare.Given as goal

-- what is left does what the whole does
abbrev pub invariant-loop-name : goal.invariant-loop-name
invariant-loop-name l =
    l.ops ++ names_code (program_view l.program) (length l.ops) l.at (names_view (drop l.name-index l.names)) ≡ l.initial.ops ++ names_code (program_view l.program) (length l.initial.ops) l.at (names_view l.names)
