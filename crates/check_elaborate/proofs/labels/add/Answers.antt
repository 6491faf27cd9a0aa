use Rattle.std.proofs.Common.{rules, ◌≡◌, ◌++◌, ◌∷◌, [], List, ℕ, ap, ◌∙◌}
use Rattle.check_elaborate.specs.declared.label.Label.{Label}
use Rattle.check_elaborate.specs.Walks.{label, labels_seen}
use Rattle.check_elaborate.proofs.LabelLaws.{seen_one_more}
use Rattle.check_elaborate.proofs.labels.add.Goals as goal

pub returns : goal.returns
returns c =
    let l : Label = record { name = c.as_str.result; spot = c.args.spot } in
    let pushed : c.push.new.self.items ≡ c.args.all.now.items ++ l ∷ [] = search rules in
    ap labels_seen pushed ∙ seen_one_more c.args.all.now.items l
    ∙ ap (λ (x : List ℕ). labels_seen c.args.all.now.items ++ label x c.args.spot ∷ []) c.as_str.ensures
