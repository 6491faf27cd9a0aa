use Rattle.std.proofs.Common.{ap, sym, ◌∙◌}
use Rattle.check_scope.proofs.PastLaws.{count_is, count_kept}
use Rattle.check_scope.proofs.log.Log.count_stated.Goals as goal

pub returns-in-Some : goal.returns-in-Some
returns-in-Some c = sym (count_is c.args.name.now c.args.self.now.lines.items ∙ ap count_kept (sym c.past.ensures ∙ c.in-Some.is))

pub returns-in-None : goal.returns-in-None
returns-in-None c = sym (count_is c.args.name.now c.args.self.now.lines.items ∙ ap count_kept (sym c.past.ensures ∙ c.in-None.is))
