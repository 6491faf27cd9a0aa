use Rattle.std.proofs.Common.{◌≡◌, drop}
use Rattle.c_core.specs.Parts.{objects_of_names}
use Rattle.c_core.specs.TreeView.{names_view}
use Rattle.way_names.specs.Walk.{innermost, walk_view, with_names}
use Rattle.way_names.proofs.walk.names.Given as goal

-- what is left gives what the whole gives
abbrev pub invariant-loop-name : goal.invariant-loop-name
invariant-loop-name l = record {
  scope : innermost (walk_view l.walk) l.scope (objects_of_names (names_view (drop l.name-index l.declared))) ≡ innermost (walk_view l.initial.walk) l.fn.outer (objects_of_names (names_view l.declared));
  walk : with_names (walk_view l.walk) l.scope (objects_of_names (names_view (drop l.name-index l.declared))) ≡ with_names (walk_view l.initial.walk) l.fn.outer (objects_of_names (names_view l.declared));
}
