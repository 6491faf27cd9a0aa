use Rattle.std.proofs.Common.{ap, sym, ◌∙◌}
use Rattle.check_scope.specs.Pasts.{is_clash}
use Rattle.check_scope.proofs.PastLaws.{clash_is}
use Rattle.check_scope.proofs.log.Log.is_clash.Goals as goal

pub returns : goal.returns
returns c =
    c.is_clash.ensures ∙ ap (λ o. is_clash c.args.start o c.args.known) c.past.ensures
    ∙ sym (clash_is c.args.name.now c.args.self.now.lines.items c.args.start c.args.known)
