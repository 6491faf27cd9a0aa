use Rattle.std.proofs.Common.{ℕ, List, ap, ◌∙◌}
use Rattle.check_rules.specs.Names.{entry}
use Rattle.check_rules.specs.Noting.{noted_part}
use Rattle.check_rules.specs.Parts.{Naming}
use Rattle.check_scope.specs.Kinds.{kind_of}
use Rattle.check_elaborate.specs.Walks.{scope_at, items_in}
use Rattle.check_elaborate.proofs.naming.declare.Goals as goal

pub returns-clause-noted : goal.returns-clause-noted
returns-clause-noted c =
    c.note_named.ensures.noted
    ∙ ap (λ (x : List ℕ). noted_part c.args.context.now.model (items_in c.args.context.now) c.args.walk.now.best (Naming (scope_at c.args.walk.now) (entry x (kind_of c.args.known)) c.args.spot)) c.as_str-word.ensures
