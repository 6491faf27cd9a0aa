use Rattle.std.proofs.Common.{◌||◌, ◌++◌, ◌∷◌, [], List, Option, ap, sym, ◌∙◌}
use Rattle.std.specs.List.{list_any}
use Rattle.c_core.specs.declared.tree.Label.{Label as ArmLabel}
use Rattle.c_core.specs.declared.tree.Label.TheVariants.{Case, Default}
use Rattle.check_rules.specs.Codes.{same_label}
use Rattle.check_elaborate.proofs.ArmLabelLaws.{one_more}
use Rattle.check_elaborate.proofs.arm_labels.ArmLabels.push.Goals as goal

pub returns-clause-found : goal.returns-clause-found
returns-clause-found c =
    let before = c.args.self.now.all in
    let label = c.args.label in
    let all = c.in_ok-push.ensures.ok ∙ ap (λ (ls : List (Option ArmLabel)). ls ++ label ∷ []) c.in_ok-mark.ensures.all in
    record {
      constants = λ q. c.in_ok-mark.ensures.constants q ∙ ap (λ b. b || same_label (Case q) label) (c.requires.constants q)
          ∙ sym (one_more (Case q) before label) ∙ ap (list_any (same_label (Case q))) (sym all);
      default = c.in_ok-mark.ensures.default ∙ ap (λ b. b || same_label Default label) c.requires.default
          ∙ sym (one_more Default before label) ∙ ap (list_any (same_label Default)) (sym all);
    }
