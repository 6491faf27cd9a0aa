use Rattle.std.proofs.Common.{rules, ◌≡◌, ◌++◌, [], List, ap, ◌∙◌}
use Rattle.c_parser.specs.SourceView.{stmt_view}
use Rattle.check_rules.specs.Noting.{noted_parts}
use Rattle.check_rules.specs.Parts.{Label, parts_of_labels, labels_of}
use Rattle.check_elaborate.specs.Walks.{items_in, labels_seen}
use Rattle.check_elaborate.proofs.labels.note_labels.Goals as goal

pub returns-clause-noted : goal.returns-clause-noted
returns-clause-noted c =
    let m = c.args.context.now.model in
    let items = items_in c.args.context.now in
    let b = c.args.walk.now.best in
    let of = labels_of (stmt_view c.args.body.now) in
    let fresh : labels_seen c.new-all.result.items ≡ [] = search rules in
    let given : labels_seen c.deref.result.now ≡ labels_seen c.gather.new.all.items = search rules in
    c.in_ok-best.ensures
    ∙ ap (λ (ls : List Label). noted_parts m items b (parts_of_labels [] ls)) (given ∙ c.in_ok-gather.ensures ∙ ap (λ (ls : List Label). ls ++ of) fresh)
