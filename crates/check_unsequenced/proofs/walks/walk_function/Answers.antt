use Rattle.std.proofs.Common.{[], get_or, refl}
use Rattle.c_core.specs.TreeView.{stmt_view}
use Rattle.check_sequencing.specs.Bodies.{fulls}
use Rattle.check_unsequenced.specs.Bodies.{function_fulls, kept_fulls, kept_views}
use Rattle.check_unsequenced.proofs.Loops.{gone_fulls}
use Rattle.check_unsequenced.proofs.walks.walk_function.Goals as goal

pub returns-clause-gone : goal.returns-clause-gone
returns-clause-gone c =
    let kept = kept_views (get_or c.args.kept.now c.args.at []) in
    let body = stmt_view c.args.function.now.body in
    gone_fulls c.args.walk.now c.body.new.self c.walk_kept_at.new.walk (fulls body) (kept_fulls kept) (function_fulls body kept) refl c.in_ok-body.ensures.same c.in_ok-body.ensures.gone c.in_ok-walk_kept_at.ensures.gone
