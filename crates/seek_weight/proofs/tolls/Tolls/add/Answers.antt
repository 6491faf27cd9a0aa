use Rattle.std.proofs.Common.{[], ◌∷◌, OnOk, sym, ap, ◌∙◌, subst}
use Rattle.c_core.specs.View.{expr_view, program_view}
use Rattle.sym_weight.specs.Tally.{capped}
use Rattle.way_match.specs.Points.{Assume}
use Rattle.way_match.specs.View.{point_view}
use Rattle.seek_weight.specs.Tolls.{constraint_weight}
use Rattle.seek_weight.specs.inside.Weighing.{Adds}
use Rattle.seek_weight.proofs.Tolling.{assume_adds, where_ok}
use Rattle.seek_weight.proofs.tolls.Tolls.add.Goals as goal

pub returns-in_ok-constraint-in-Assume-clause-adds : goal.returns-in_ok-constraint-in-Assume-clause-adds
returns-in_ok-constraint-in-Assume-clause-adds c =
    let p = program_view c.args.index.now in
    let t = c.args.self.now in
    let e = expr_view c.in-Assume.test in
    let m = c.add_waypoint.new.weights in
    let own = c.in_ok-constraint-in-Assume.ensures ∙ ap (λ q. capped (constraint_weight (program_view q) (Assume c.in-Assume.spot e))) c.program.ensures in
    subst (λ x. OnOk c.add_waypoint.result (Adds p (point_view x ∷ []) t (record t { statements = m }))) (sym c.in-Assume.is)
    (where_ok c.add_waypoint.result c.add_waypoint.ensures (assume_adds p t c.in-Assume.spot e c.in_ok-constraint-in-Assume.constraint m own))
