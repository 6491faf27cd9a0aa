use Rattle.std.proofs.Common.{◌≡◌, ap, sym, ◌∙◌}
use Rattle.c_parser.specs.SourceView.{label_view}
use Rattle.c_parser.specs.declared.tree.RawLabel.{RawLabel}
use Rattle.check_rules.specs.Parts.{parts_of_label}
use Rattle.check_rules.specs.Scopes.{seen}
use Rattle.check_elaborate.specs.Walks.{scope_at, items_in, found_at, with_parts}
use Rattle.check_elaborate.proofs.FoundLaws.{with_none}
use Rattle.check_elaborate.proofs.arms.chosen.Goals as goal

pub returns-in-Default-clause-noted : goal.returns-in-Default-clause-noted
returns-in-Default-clause-noted c =
    let m = c.args.context.now.model in
    let items = items_in c.args.context.now in
    let f = found_at c.args.walk.now in
    with_none m items f ∙ ap (λ (x : RawLabel). with_parts m items f (parts_of_label (seen (scope_at c.args.walk.now)) (label_view x))) (sym c.in-Default.is)
