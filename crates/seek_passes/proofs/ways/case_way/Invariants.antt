use Rattle.std.proofs.Common.{◌≡◌, false, take}
use Rattle.std.specs.List.{list_any}
use Rattle.c_core.specs.Typing.{labels_in}
use Rattle.c_core.specs.View.{switch_view}
use Rattle.c_meaning.specs.Run.{is_case}
use Rattle.seek_passes.proofs.ways.case_way.Given as goal

-- no arm before the index has the constant
abbrev pub invariant-loop-i : goal.invariant-loop-i
invariant-loop-i l = list_any (is_case l.constant) (labels_in (switch_view (take l.i l.arms))) ≡ false
