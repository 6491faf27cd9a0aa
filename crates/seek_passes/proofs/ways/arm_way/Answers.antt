use mir.Val.{SFits}
use mir.Syntax.{w128}
use Rattle.std.proofs.Common.{rules}
use Rattle.std.proofs.lemmas.Int.{to_z-of_z}
use Rattle.c_core.specs.Typing.{labels_in}
use Rattle.c_core.specs.View.{switch_view}
use Rattle.seek_passes.proofs.Arms.{truth_of_switch, case_of_switch, default_of_switch}
use Rattle.seek_passes.proofs.ways.arm_way.Goals as goal

pub returns-in-Truth : goal.returns-in-Truth
returns-in-Truth c = λ z are none. truth_of_switch c.args.net.now c.args.way _ c.known.result (labels_in (switch_view c.args.arms.now)) c.in-Truth.is c.known.ensures z

pub returns-in-Case : goal.returns-in-Case
returns-in-Case c =
    let fits : SFits w128 c.in-Case.constant = search rules in
    let case = rw (to_z-of_z w128 c.in-Case.constant fits) at c.case_way.ensures in
    λ z are none. case_of_switch c.args.net.now c.args.way c.in-Case.constant c.case_way.result (labels_in (switch_view c.args.arms.now)) c.in-Case.is z (case z are)

pub returns-in-Default : goal.returns-in-Default
returns-in-Default c = λ z are none. default_of_switch c.args.net.now c.args.way c.args.none c.args.arms.now c.in-Default.is c.requires.none_in z none
