use Rattle.std.proofs.Common.{[], ap, ◌∙◌}
use Rattle.way_names.specs.Walk.{walk_of, walk_view}
use Rattle.way_names.proofs.walk.start.Goals as goal

pub returns : goal.returns
unfolding walk_view
returns c =
    ap (λ xs. walk_of xs c.new-2.result.items c.new-3.result.items) c.new.ensures.items
    ∙ ap (λ xs. walk_of [] xs c.new-3.result.items) c.new-2.ensures.items
    ∙ ap (walk_of [] []) c.new-3.ensures.items
