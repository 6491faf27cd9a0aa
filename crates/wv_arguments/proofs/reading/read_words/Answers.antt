use Rattle.std.proofs.Common.{◌∙◌, rules}
use Rattle.wv_arguments.proofs.Commands.{read_matches, refused}
use Rattle.wv_arguments.proofs.reading.read_words.Goals as goal

pub returns-in-Ok : goal.returns-in-Ok
returns-in-Ok c = c.asked.ensures ∙ read_matches _ _ c.in-Ok.matches c.in_ok-command.ensures c.in-Ok.ensures.kinds c.in-Ok.ensures.matches

pub returns : goal.returns
returns c = refused _ _ c.in-Err.error c.in_ok-command.ensures c.in-Err.ensures.kinds (search rules)
