use mir.Val.{SFits}
use mir.Syntax.{w128}
use Rattle.std.proofs.Common.{rules, sym, ◌∙◌, arith}
use Rattle.std.proofs.lemmas.Int.{to_z-of_z}
use Rattle.circuits.proofs.Nets.{opp}
use Rattle.seek_passes.proofs.Arms.{found_way, none_more, no_way}
use Rattle.seek_passes.proofs.ways.case_way.Goals as goal

pub loop-i-preserved : goal.loop-i-preserved
loop-i-preserved c =
    let fits : SFits w128 c.args.constant = search rules in
    let told = rw (to_z-of_z w128 c.args.constant fits) at c.is_label.ensures in
    let before = rw (to_z-of_z w128 c.args.constant fits) at c.loop-i.invariant in
    rw (to_z-of_z w128 c.args.constant fits)
    (none_more c.args.arms.now c.args.constant c.loop-i.i c.index-arms-i.result c.loop-i-test.true c.index-arms-i.is (sym told ∙ c.if-is_label.false) before)

pub returns-then-is_label : goal.returns-then-is_label
returns-then-is_label c =
    let fits : SFits w128 c.args.constant = search rules in
    let told = rw (to_z-of_z w128 c.args.constant fits) at c.is_label.ensures in
    found_way c.args.net.now c.args.arms.now c.args.cases.now c.args.constant c.loop-i.i c.index-arms-i.result _ c.requires.cases_in c.requires.many c.loop-i-test.true c.index-arms-i.is (sym told ∙ c.if-is_label.true)

pub returns : goal.returns
returns c =
    let fits : SFits w128 c.args.constant = search rules in
    let before = rw (to_z-of_z w128 c.args.constant fits) at c.loop-i.invariant in
    no_way c.args.net.now c.args.arms.now c.args.cases.now c.args.constant c.loop-i.i c.not.result (omega arith) before (opp c.not.ensures c.yes.ensures)
