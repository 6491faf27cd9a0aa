use Rattle.std.proofs.Common.{ℤ, ap, ◌∙◌}
use Rattle.std.specs.BTreeSet.{contains_by}
use Rattle.std.specs.Int.{w128}
use Rattle.std.specs.Ordering.{int_cmp}
use Rattle.std.proofs.lemmas.Int.{to_z-of_z}
use Rattle.check_elaborate.proofs.arm_labels.ArmLabels.has_constant.Goals as goal

pub returns : goal.returns
returns c =
    c.contains.ensures
    ∙ ap (λ (z : ℤ). contains_by (int_cmp z) c.args.self.now.constants) (to_z-of_z w128 c.args.constant c.ranges.constant)
    ∙ c.requires.constants c.args.constant
