use Rattle.std.proofs.Common.{◌∙◌}
use Rattle.check_elaborate.proofs.ListLaws.{any_of_views}
use Rattle.check_elaborate.proofs.sizes.some_longer.Goals as goal

pub returns : goal.returns
returns c = c.one_is_longer.ensures ∙ any_of_views c.args.columns c.args.rows.now
