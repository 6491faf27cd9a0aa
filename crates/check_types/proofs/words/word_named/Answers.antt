use Rattle.std.proofs.Common.{ap, ◌∙◌}
use Rattle.check_rules.specs.Names.{named}
use Rattle.check_scope.specs.InScope.{all_of}
use Rattle.check_types.specs.Words.{word_of}
use Rattle.check_types.proofs.WordLaws.{word_of_kind}
use Rattle.check_types.proofs.words.word_named.Goals as goal

pub returns : goal.returns
returns c = c.word_of.ensures ∙ ap word_of c.meaning.ensures ∙ word_of_kind (named (all_of c.args.table.now) c.args.name.now)
