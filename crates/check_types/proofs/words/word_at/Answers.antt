use Rattle.std.proofs.Common.{ap, ◌∙◌}
use Rattle.check_scope.specs.InScope.{all_of}
use Rattle.check_types.specs.Words.{word_at}
use Rattle.check_types.proofs.words.word_at.Goals as goal

pub returns-in-Some : goal.returns-in-Some
returns-in-Some c = c.word_named.ensures ∙ ap (word_at (all_of c.args.table.now)) c.in-Some.ensures

pub returns-in-None : goal.returns-in-None
returns-in-None c = c.no_word.ensures ∙ ap (word_at (all_of c.args.table.now)) c.in-None.ensures
