use Rattle.std.proofs.Common.{◌≡◌, ◌++◌, drop}
use Rattle.c_core.specs.TreeView.{exprs_view}
use Rattle.c_core.specs.View.{program_view}
use Rattle.c_meaning.specs.Duties.{property_duties}
use Rattle.c_core.specs.Parts.{exps_in}
use Rattle.c_duties.proofs.walk.push_list.Given as goal

-- with what is left it becomes what the whole gives
abbrev pub invariant-loop-e : goal.invariant-loop-e
invariant-loop-e l =
    (l.list.items ++ property_duties (program_view l.program) (exps_in (exprs_view (drop l.e-index l.es))) ≡ l.initial.list.items ++ property_duties (program_view l.program) (exps_in (exprs_view l.es)))
