use Rattle.std.proofs.Common.{[], ◌∷◌, subst}
use Rattle.c_core.specs.View.{program_view}
use Rattle.way_match.specs.View.{point_view, points_view}
use Rattle.seek_weight.specs.inside.Weighing.{Adds}
use Rattle.seek_weight.proofs.Tolling.{adds_then, where_ok}
use Rattle.seek_weight.proofs.tolls.Tolls.add_segment.Goals as goal

pub returns-clause-adds : goal.returns-clause-adds
returns-clause-adds c =
    let p = program_view c.args.index.now in
    let s = c.args.segment.now in
    let avoided : Adds p (points_view s.avoids) c.args.self.now c.add_each.new.self =
    subst (λ xs. Adds p (points_view xs) c.args.self.now c.add_each.new.self) c.as_slice.ensures c.in_ok-add_each.ensures.adds in
    where_ok c.add.result c.add.ensures.adds (adds_then p (points_view s.avoids) (point_view s.follow ∷ []) c.args.self.now c.add_each.new.self c.add.new.self avoided)
