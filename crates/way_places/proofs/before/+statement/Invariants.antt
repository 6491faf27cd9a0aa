use Rattle.std.proofs.Common.{◌≡◌, drop}
use Rattle.std.specs.Option.{option_copied, option_map}
use Rattle.c_core.specs.Parts.{statements_of_block}
use Rattle.c_core.specs.View.{switch_view, stmt_view, stmts_view}
use Rattle.way_places.specs.Seeking.{before_of}
use Rattle.way_places.proofs.before.+statement.Given as goal

-- with what is left it becomes what the whole gives
abbrev pub invariant-block-loop-s : goal.invariant-block-loop-s
invariant-block-loop-s l =
    (before_of l.spot (option_map stmt_view (option_copied l.first)) (statements_of_block (stmts_view (drop l.s-index l.body)))
    ≡ before_of l.spot (option_map stmt_view (option_copied l.initial.first)) (statements_of_block (stmts_view l.body)))

abbrev pub invariant-in_arms-loop-arm : goal.invariant-in_arms-loop-arm
invariant-in_arms-loop-arm l =
    (before_of l.spot (option_map stmt_view (option_copied l.first)) (statements_of_block (switch_view (drop l.arm-index l.arms)))
    ≡ before_of l.spot (option_map stmt_view (option_copied l.initial.first)) (statements_of_block (switch_view l.arms)))
