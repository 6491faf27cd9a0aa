use Rattle.std.proofs.Common.{◌≡◌, take}
use Rattle.c_core.specs.View.{exprs_view}
use Rattle.way_same.proofs.same.+same.Given as goal

-- those before are the same
abbrev pub invariant-same_exprs-loop-i : goal.invariant-same_exprs-loop-i
invariant-same_exprs-loop-i l = exprs_view (take l.i l.a) ≡ exprs_view (take l.i l.b)
