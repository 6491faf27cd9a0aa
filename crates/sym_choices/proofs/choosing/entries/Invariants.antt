use Rattle.std.proofs.Common.{drop, false, length, map, take}
use Rattle.c_core.specs.Typing.{labels_in}
use Rattle.c_core.specs.View.{switch_view}
use Rattle.circuits.specs.Net.{holds}
use Rattle.sym_choices.specs.Choosing.{entered_by}
use Rattle.sym_choices.proofs.ArmLaws.{Entering}
use Rattle.sym_choices.proofs.choosing.entries.Given as goal

-- the bits so far, and those of the arms from the index on
abbrev pub invariant-loop-index : goal.invariant-loop-index
invariant-loop-index l =
    Entering (length (take l.index l.arms)) (λ v. entered_by false (holds v l.initial.net l.none) (labels_in (switch_view l.arms)) (map (holds v l.initial.net) l.cases)) (labels_in (switch_view (drop l.index l.arms))) (drop l.index l.cases) l.none l.entered
    l.initial.net l.net l.out.items
