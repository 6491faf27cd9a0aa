use Rattle.std.proofs.Common.{ap, ◌∙◌}
use Rattle.check_elaborate.specs.Items.{kept_views}
use Rattle.check_elaborate.specs.Walks.{Found}
use Rattle.check_elaborate.proofs.parameters.parameter.Goals as goal

pub returns-clause-noted : goal.returns-clause-noted
returns-clause-noted c = ap (λ (y : Found). y.best) c.in_ok-declare.ensures.found ∙ c.note_parameter.ensures.noted

pub returns-clause-kept : goal.returns-clause-kept
returns-clause-kept c = ap (λ (y : Found). y.kept) c.in_ok-declare.ensures.found ∙ ap kept_views c.note_parameter.ensures.kept
