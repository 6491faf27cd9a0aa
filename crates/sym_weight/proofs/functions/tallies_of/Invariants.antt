use Rattle.std.proofs.Common.{◌≡◌, length}
use Rattle.c_core.specs.TreeView.{functions_view}
use Rattle.c_core.specs.View.{program_view}
use Rattle.sym_weight.specs.Reached.{is_wanted}
use Rattle.sym_weight.specs.Tally.{placed_of, tallies_of, tallies_view}
use Rattle.sym_weight.proofs.Listing.{AreSoFar}
use Rattle.sym_weight.proofs.functions.tallies_of.Given as goal

-- the functions so far are tallied
abbrev pub invariant-loop-f : goal.invariant-loop-f
invariant-loop-f l = record {
  count : length l.all.items ≡ l.f-index;
  tallied : AreSoFar (is_wanted l.marks) (tallies_view l.all.items) (tallies_of (program_view l.weigher.program.now) (placed_of l.weigher) (functions_view l.functions)) l.f-index;
}
