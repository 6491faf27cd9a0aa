use Rattle.std.proofs.Common.{sym, ◌∙◌}
use Rattle.way_tests.proofs.TruthLaws.{holds_some, holds_none}
use Rattle.way_tests.proofs.truth.holds.Goals as goal

pub returns-in-Some : goal.returns-in-Some
returns-in-Some c = holds_some _ c.in-Some.answer (sym c.truth.ensures ∙ c.in-Some.is)

pub returns-in-None : goal.returns-in-None
returns-in-None c = holds_none _ (sym c.truth.ensures ∙ c.in-None.is)
