use Rattle.std.proofs.Common.{◌≡◌, ◌++◌, drop}
use Rattle.c_core.specs.View.{exprs_view, program_view}
use Rattle.sym_weight.specs.Sum.{initials}
use Rattle.sym_weight.specs.Tally.{cost, plus, tallying}
use Rattle.sym_weight.proofs.statements.initials.Given as goal

-- with what is left it becomes what the whole gives
abbrev pub invariant-loop-e : goal.invariant-loop-e
invariant-loop-e l = record {
  settled : plus l.sum (cost 0 0) ≡ l.sum;
  value : plus l.sum (initials (program_view l.program) tallying l.object (exprs_view (drop l.e-index l.es))).cost ≡ (initials (program_view l.program) tallying l.object (exprs_view l.es)).cost;
  calls : l.calls.items ++ (initials (program_view l.program) tallying l.object (exprs_view (drop l.e-index l.es))).calls
      ≡ l.initial.calls.items ++ (initials (program_view l.program) tallying l.object (exprs_view l.es)).calls;
}
