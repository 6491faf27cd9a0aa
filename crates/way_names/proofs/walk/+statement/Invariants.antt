use Rattle.std.proofs.Common.{◌≡◌, drop}
use Rattle.c_core.specs.View.{stmts_view, switch_view}
use Rattle.way_names.specs.Walk.{scope_behind, walk_view, walked_block}
use Rattle.way_names.proofs.walk.+statement.Given as goal

-- what is left gives what the whole gives
abbrev pub invariant-block-loop-s : goal.invariant-block-loop-s
invariant-block-loop-s l = record {
  scope : scope_behind (walk_view l.walk) l.scope (stmts_view (drop l.s-index l.body)) ≡ scope_behind (walk_view l.initial.walk) l.fn.outer (stmts_view l.body);
  walk : walked_block (walk_view l.walk) l.scope (stmts_view (drop l.s-index l.body)) ≡ walked_block (walk_view l.initial.walk) l.fn.outer (stmts_view l.body);
}

abbrev pub invariant-in_arms-loop-arm : goal.invariant-in_arms-loop-arm
invariant-in_arms-loop-arm l =
    (walked_block (walk_view l.walk) l.scope (switch_view (drop l.arm-index l.arms)) ≡ walked_block (walk_view l.initial.walk) l.fn.outer (switch_view l.arms))
