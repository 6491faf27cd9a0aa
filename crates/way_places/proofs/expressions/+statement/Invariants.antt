use Rattle.std.proofs.Common.{◌≡◌, drop}
use Rattle.std.specs.Option.{option_copied}
use Rattle.c_core.specs.View.{switch_view, expr_view_if, stmts_view}
use Rattle.way_places.specs.Seeking.{first_of, is_wanted}
use Rattle.way_places.specs.Sought.{each_in_block, parts_of}
use Rattle.way_places.proofs.expressions.+statement.Given as goal

-- with what is left it becomes what the whole gives
abbrev pub invariant-block-loop-s : goal.invariant-block-loop-s
invariant-block-loop-s l =
    (first_of (is_wanted l.wanted) (expr_view_if (option_copied l.first)) (each_in_block (parts_of l.wanted) (stmts_view (drop l.s-index l.body)))
    ≡ first_of (is_wanted l.wanted) (expr_view_if (option_copied l.initial.first)) (each_in_block (parts_of l.wanted) (stmts_view l.body)))

abbrev pub invariant-in_arms-loop-arm : goal.invariant-in_arms-loop-arm
invariant-in_arms-loop-arm l =
    (first_of (is_wanted l.wanted) (expr_view_if (option_copied l.first)) (each_in_block (parts_of l.wanted) (switch_view (drop l.arm-index l.arms)))
    ≡ first_of (is_wanted l.wanted) (expr_view_if (option_copied l.initial.first)) (each_in_block (parts_of l.wanted) (switch_view l.arms)))
