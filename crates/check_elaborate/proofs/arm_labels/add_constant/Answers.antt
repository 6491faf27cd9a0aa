use Rattle.std.proofs.Common.{ℤ, true, cond, ap, ◌∙◌}
use Rattle.std.specs.Int.{w128}
use Rattle.std.specs.BTreeMap.{is_at}
use Rattle.std.specs.BTreeSet.{contains}
use Rattle.std.specs.Ordering.{int_cmp}
use Rattle.std.proofs.lemmas.Int.{to_z-of_z}
use Rattle.check_elaborate.proofs.ArmLabelLaws.{constant_put}
use Rattle.check_elaborate.proofs.arm_labels.add_constant.Goals as goal

pub returns : goal.returns
returns c q =
    let constant = c.args.constant in
    let old = contains int_cmp c.args.constants.now q in
    c.in_ok-insert.ensures.updates.0 q
    ∙ ap (λ (z : ℤ). cond (is_at (int_cmp z) q) true old) (to_z-of_z w128 constant c.ranges.constant)
    ∙ constant_put constant q old
