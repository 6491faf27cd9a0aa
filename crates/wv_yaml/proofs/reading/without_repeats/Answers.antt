use Rattle.std.proofs.Common.{◌∙◌, refl}
use Rattle.std.proofs.lemmas.Option.{same_Some}
use Rattle.wv_yaml.proofs.RepeatLaws.{repeats_true, repeats_false}
use Rattle.wv_yaml.proofs.reading.without_repeats.Goals as goal

pub returns-then-branch : goal.returns-then-branch
returns-then-branch c = (refl, (c.args.tree, refl, repeats_true c.args.tree (same_Some _ _ c.in_ok-does_repeat.ensures ∙ c.if-branch.true)))

pub returns : goal.returns
returns c = (refl, refl, repeats_false c.args.tree (same_Some _ _ c.in_ok-does_repeat.ensures ∙ c.if-branch.false))
