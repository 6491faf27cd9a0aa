use Rattle.std.proofs.Common.{◌≡◌, ◌++◌, ◌∷◌, [], Option, refl, ap, ◌∙◌}
use Rattle.c_core.specs.declared.tree.Label.{Label as ArmLabel}
use Rattle.c_parser.specs.SourceView.{label_view}
use Rattle.check_rules.specs.Arms.{label_of}
use Rattle.check_rules.specs.Checked.{label_or_zero}
use Rattle.check_rules.specs.Noting.{noted_part}
use Rattle.check_rules.specs.Parts.{Part, ArmLabelling, parts_of_label}
use Rattle.check_rules.specs.Scopes.{seen}
use Rattle.check_elaborate.specs.Items.{kept_views}
use Rattle.check_elaborate.specs.Walks.{scope_at, items_in, bodies_in, found_at, with_parts, labelling}
use Rattle.check_elaborate.proofs.FoundLaws.{before_found}
use Rattle.check_elaborate.proofs.arms.label.Goals as goal

pub returns-clause-typed : goal.returns-clause-typed
returns-clause-typed c = c.or_zero.ensures ∙ ap label_or_zero c.in_ok-label.ensures.label

pub returns-clause-before : goal.returns-clause-before
returns-clause-before c =
    c.in_ok-push.ensures.all ∙ ap (λ (l : Option ArmLabel). c.args.before.now.all ++ l ∷ []) c.in_ok-label.ensures.label

pub returns-clause-found : goal.returns-clause-found
returns-clause-found c = c.in_ok-push.ensures.found

pub returns-clause-noted : goal.returns-clause-noted
returns-clause-noted c =
    let m = c.args.context.now.model in
    let items = items_in c.args.context.now in
    let es = seen (scope_at c.args.walk.now) in
    let l = label_view c.args.label.now in
    let label = label_of m (bodies_in c.args.context.now) es c.args.ty l in
    let b = found_at c.args.walk.now in
    let f = found_at c.chosen.new.walk in
    before_found m items b f (found_at c.note_label.new.walk) (ArmLabelling c.args.before.now.all label c.args.spot) (parts_of_label es l)
    c.in_ok-label.ensures.noted
    (c.note_label.ensures.noted
    ∙ ap (λ (x : Option ArmLabel). noted_part m items f.best (ArmLabelling c.args.before.now.all x c.args.spot)) c.in_ok-label.ensures.label)
    (ap kept_views c.note_label.ensures.kept) refl
