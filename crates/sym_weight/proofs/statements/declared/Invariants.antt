use Rattle.std.proofs.Common.{◌≡◌, ◌++◌, drop}
use Rattle.c_core.specs.View.{names_view, program_view}
use Rattle.sym_weight.specs.Sum.{declared}
use Rattle.sym_weight.specs.Tally.{cost, plus, tallying}
use Rattle.sym_weight.proofs.statements.declared.Given as goal

-- with what is left it becomes what the whole gives
abbrev pub invariant-loop-name : goal.invariant-loop-name
invariant-loop-name l = record {
  settled : plus l.sum (cost 0 0) ≡ l.sum;
  value : plus l.sum (declared (program_view l.program) tallying (names_view (drop l.name-index l.names))).cost ≡ (declared (program_view l.program) tallying (names_view l.names)).cost;
  calls : l.calls.items ++ (declared (program_view l.program) tallying (names_view (drop l.name-index l.names))).calls
      ≡ l.initial.calls.items ++ (declared (program_view l.program) tallying (names_view l.names)).calls;
}
