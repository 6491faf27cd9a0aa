use Rattle.std.proofs.Common.{◌≡◌, ◌||◌, ◌++◌, ◌+◌, ◌∷◌, [], Bool, List, ℕ, map, drop, take, ap, sym, ◌∙◌, Option}
use Rattle.std.proofs.lemmas.List.{drop_all, drop_more, take_more}
use Rattle.std.specs.Str.{bytes_eq}
use Rattle.check_rules.specs.declared.fault.CheckCode.TheVariants as code
use Rattle.check_rules.specs.declared.fault.Refusal.{Refusal}
use Rattle.check_rules.specs.Codes.{is_among}
use Rattle.check_rules.specs.First.{refusal}
use Rattle.check_rules.specs.Noting.{noted, noted_parts}
use Rattle.check_rules.specs.Parts as part
use Rattle.check_rules.specs.Parts.{parts_of_labels}
use Rattle.check_elaborate.specs.declared.label.Label.{Label}
use Rattle.check_elaborate.specs.Walks.{items_in, label, labels_seen}
use Rattle.check_elaborate.proofs.LabelLaws.{names_seen, known_next, labels_next}
use Rattle.check_elaborate.proofs.labels.first_doubled.Goals as goal

pub loop-label-preserved : goal.loop-label-preserved
loop-label-preserved c =
    let ls = c.args.labels.now in
    let i = c.loop-label.label-index in
    let below = c.loop-label-test.true in
    record {
      known = λ w. known_next ls i _ w _ _ below (c.in_ok-add_name.ensures w) (c.loop-label.invariant.known w);
      noted = labels_next c.args.context.now.model (items_in c.args.context.now) ls i _ c.loop-label.best _ _ _ below c.noted-best.ensures
          (c.is_known-doubled.ensures ∙ c.loop-label.invariant.known _) c.loop-label.invariant.noted;
    }

pub returns : goal.returns
returns c =
    let ls = c.args.labels.now in
    let i = c.loop-label.label-index in
    ap (λ (xs : List Label). noted_parts c.args.context.now.model (items_in c.args.context.now) c.loop-label.best (parts_of_labels (names_seen (take i ls)) (labels_seen xs))) (sym (drop_all i ls c.loop-label-test.false))
    ∙ c.loop-label.invariant.noted
