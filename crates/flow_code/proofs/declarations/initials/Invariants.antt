use Rattle.std.proofs.Common.{◌≡◌, ◌++◌, drop, length}
use Rattle.c_core.specs.View.{program_view, exprs_view}
use Rattle.flow_code.specs.Statements.{initials_code}
use Rattle.flow_code.proofs.declarations.initials.Given as goal

-- what is left does what the whole does
abbrev pub invariant-loop-e : goal.invariant-loop-e
invariant-loop-e l =
    l.ops ++ initials_code (program_view l.program) (length l.ops) l.at l.object l.index (exprs_view (drop l.e-index l.values))
    ≡ l.initial.ops ++ initials_code (program_view l.program) (length l.initial.ops) l.at l.object l.start (exprs_view l.values)
