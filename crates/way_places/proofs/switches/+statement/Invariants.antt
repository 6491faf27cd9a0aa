use Rattle.std.proofs.Common.{◌≡◌, drop}
use Rattle.c_core.specs.Parts.{statements_of_block}
use Rattle.c_core.specs.View.{stmts_view, switch_view}
use Rattle.way_places.specs.Seeking.{type_from}
use Rattle.way_places.proofs.switches.+statement.Given as goal

-- with what is left it becomes what the whole gives
abbrev pub invariant-block-loop-s : goal.invariant-block-loop-s
invariant-block-loop-s l =
    (type_from l.spot l.first (statements_of_block (stmts_view (drop l.s-index l.body))) ≡ type_from l.spot l.initial.first (statements_of_block (stmts_view l.body)))

abbrev pub invariant-in_arms-loop-arm : goal.invariant-in_arms-loop-arm
invariant-in_arms-loop-arm l =
    (type_from l.spot l.first (statements_of_block (switch_view (drop l.arm-index l.arms))) ≡ type_from l.spot l.initial.first (statements_of_block (switch_view l.arms)))
