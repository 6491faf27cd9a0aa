use Rattle.std.proofs.Common.{◌≡◌, drop}
use Rattle.std.specs.Option.{option_copied, option_map}
use Rattle.c_core.specs.TreeView.{stmt_view, stmts_view}
use Rattle.c_core.specs.Places.{before_in}
use Rattle.way_places.specs.Seeking.{before_behind}
use Rattle.way_places.proofs.before.directly_before.Given as goal

-- the last statement and what is left give what the whole gives
abbrev pub invariant-loop-s : goal.invariant-loop-s
invariant-loop-s l = (before_behind l.spot (option_map stmt_view (option_copied l.last)) (stmts_view (drop l.s-index l.body)) ≡ before_in l.spot (stmts_view l.body))
