use Rattle.source_room.proofs.Programs.{text_has_room}
use Rattle.source_room.proofs.laws.runs_of_sources_have_room.Goals as goal

pub returns : goal.returns
returns c = text_has_room c.tokens_are_orderly.ensures c.sources_are_formed.ensures c.checked_programs_fit.ensures c.runs_have_room.ensures
