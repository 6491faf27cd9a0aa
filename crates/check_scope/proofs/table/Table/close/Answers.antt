use Rattle.std.proofs.Common.{take, drop, ap, sym, ◌∙◌}
use Rattle.std.proofs.lemmas.List.{take-map}
use Rattle.check_scope.specs.InScope.{closed, in_scope}
use Rattle.check_scope.specs.Lines.{entry_of}
use Rattle.check_scope.proofs.table.Table.close.Goals as goal

pub returns : goal.returns
returns c =
    let n = c.args.outside in
    rw (c.cut.ensures) (ap (λ es. in_scope (take n es) (drop n es)) (sym (take-map entry_of c.self.inside.start c.self.inside.log.lines.items)) ∙ ap (closed n) c.self.view_is)
