use Rattle.std.proofs.Common.{length}
use Rattle.c_core.specs.View.{program_view}
use Rattle.c_meaning.specs.Placing.{placed_view}
use Rattle.wv_weed.specs.Known.{AreNever}
use Rattle.wv_weed.proofs.Ended.{AreWeeding}
use Rattle.wv_weed.proofs.weeding.weed.Given as goal

abbrev pub invariant-loop-left : goal.invariant-loop-left
invariant-loop-left l =
    AreWeeding (program_view l.program) (placed_view l.invariants) l.left × AreNever l.known.net l.known.never.items

abbrev pub decreases-loop-left : goal.decreases-loop-left
decreases-loop-left l = length l.left
