use Rattle.std.proofs.Common.{◌≡◌, ◌-◌, length}
use Rattle.c_core.specs.View.{program_view}
use Rattle.c_calls.proofs.SpreadLaws.{IsSpread}
use Rattle.c_calls.proofs.search.spread.Given as goal

abbrev pub invariant-loop-next : goal.invariant-loop-next
invariant-loop-next l = record {
  count : length l.found.marks.items ≡ length l.program.functions;
  spread : IsSpread (program_view l.program) l.initial.found.order.items l.found.order.items l.next;
}

-- no function is found twice
abbrev pub decreases-loop-next : goal.decreases-loop-next
decreases-loop-next l = length l.program.functions - l.next
