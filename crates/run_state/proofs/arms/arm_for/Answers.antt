use Rattle.std.proofs.Common.{rules, cond, sym, ap, ◌∙◌}
use mir.Val.{SFits}
use mir.Syntax.{w128}
use Rattle.std.proofs.lemmas.Int.{to_z-of_z}
use Rattle.c_core.specs.Typing.{is_default, labels_in}
use Rattle.c_core.specs.View.{switch_view}
use Rattle.c_meaning.specs.Run.{first_label, is_case}
use Rattle.run_state.proofs.arms.arm_for.Goals as goal

pub returns-in-Some : goal.returns-in-Some
returns-in-Some c =
    let z : SFits w128 c.args.value = search rules in
    let found = rw (to_z-of_z w128 c.args.value z) at c.in-Some.ensures in
    let ls = labels_in (switch_view c.args.arms.now) in
    found.first ∙ sym (ap (λ b. cond b (first_label (is_case c.args.value) ls) (first_label is_default ls)) found.any)
