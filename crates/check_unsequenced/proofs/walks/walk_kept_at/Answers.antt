use Rattle.std.proofs.Common.{[], refl, subst, sym}
use Rattle.std.proofs.lemmas.List.{get_or_past}
use Rattle.check_sequencing.specs.Bodies.{tested_fulls}
use Rattle.check_sequencing.specs.Walking.{IsGone}
use Rattle.check_sequencing.proofs.WalkLaws.{gone_nothing}
use Rattle.check_unsequenced.specs.Bodies.{kept_fulls, kept_views}
use Rattle.check_unsequenced.proofs.walks.walk_kept_at.Goals as goal

pub returns-else-at-kept-clause-gone : goal.returns-else-at-kept-clause-gone
returns-else-at-kept-clause-gone c =
    subst (λ ks. IsGone c.args.walk.now c.args.walk.now (tested_fulls (kept_fulls (kept_views ks)))) (sym (get_or_past c.args.kept.now c.args.at [] c.if-at-kept.false))
    (gone_nothing c.args.walk.now c.args.walk.now refl)
