use Rattle.std.proofs.Common.{◌≡◌, drop}
use Rattle.way_names.specs.Walk.{innermost, walk_view, with_names}
use Rattle.way_names.proofs.walk.params.Given as goal

-- what is left gives what the whole gives
abbrev pub invariant-loop-object : goal.invariant-loop-object
invariant-loop-object l = record {
  scope : innermost (walk_view l.walk) l.scope (drop l.object-index l.objects) ≡ innermost (walk_view l.initial.walk) l.fn.outer l.objects;
  walk : with_names (walk_view l.walk) l.scope (drop l.object-index l.objects) ≡ with_names (walk_view l.initial.walk) l.fn.outer l.objects;
}
