use Rattle.std.proofs.Common.{◌≡◌, [], drop}
use Rattle.c_core.specs.View.{switch_view}
use Rattle.flow_code.specs.Statements.{with_cases}
use Rattle.flow_code.proofs.switches.cases.Given as goal

-- with what is left the table becomes that of the whole
abbrev pub invariant-loop-arm : goal.invariant-loop-arm
invariant-loop-arm l = with_cases l.table l.depth l.to (switch_view (drop l.arm-index l.arms)) ≡ with_cases [] l.depth l.start (switch_view l.arms)
