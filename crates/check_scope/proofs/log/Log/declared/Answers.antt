use Rattle.std.proofs.Common.{ap, sym, ◌∙◌}
use Rattle.check_scope.proofs.PastLaws.{declared_is, means_of}
use Rattle.check_scope.proofs.log.Log.declared.Goals as goal

pub returns-in-Some : goal.returns-in-Some
returns-in-Some c = sym (declared_is c.args.name.now c.args.self.now.lines.items ∙ ap means_of (sym c.past.ensures ∙ c.in-Some.is))

pub returns-in-None : goal.returns-in-None
returns-in-None c = sym (declared_is c.args.name.now c.args.self.now.lines.items ∙ ap means_of (sym c.past.ensures ∙ c.in-None.is))
