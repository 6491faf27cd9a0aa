use Rattle.std.proofs.Common.{ap, map, ◌∙◌}
use Rattle.c_core.specs.TreeView.{functions_view}
use Rattle.check_sequencing.specs.Bodies.{tested_fulls}
use Rattle.check_sequencing.proofs.WalkLaws.{gone_both}
use Rattle.check_unsequenced.specs.Bodies.{all_fulls, body_effects, kept_fulls, kept_views}
use Rattle.check_unsequenced.proofs.Source.{lists_places}
use Rattle.check_unsequenced.proofs.places.unordered.Goals as goal

pub returns : goal.returns
returns c =
    let fs = functions_view c.args.functions.now in
    let kept = map kept_views c.args.kept.now in
    lists_places c.new-walk.result c.walk_kept.new.walk c.args.objects.now c.args.functions.now c.args.kept.now c.args.outside.now c.new-walk.ensures.objects
    (c.new-walk.ensures.count ∙ c.in_ok-count.ensures)
    (c.new-walk.ensures.bodies ∙ c.as_slice.ensures.value ∙ c.in_ok-bodies.ensures ∙ ap (λ n. body_effects c.args.objects.now n fs kept) c.in_ok-count.ensures)
    c.new-walk.ensures.unordered
    (gone_both c.new-walk.result c.walk_functions.new.walk c.walk_kept.new.walk (tested_fulls (all_fulls fs kept)) (tested_fulls (kept_fulls (kept_views c.args.outside.now))) c.in_ok-walk_functions.ensures.same c.in_ok-walk_functions.ensures.gone c.in_ok-walk_kept.ensures.gone)
