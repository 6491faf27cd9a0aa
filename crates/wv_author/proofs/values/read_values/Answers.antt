use mir.Syntax.{w128}
use mir.Val.{SFits}
use Rattle.std.proofs.lemmas.Int.{to_z-of_z}
use Rattle.std.proofs.Common.{rules, length, sym, ◌+◌, ◌∙◌}
use Rattle.std.proofs.lemmas.Bool.{eqb-true, eqb-false}
use Rattle.std.proofs.lemmas.List.{take_rest}
use Rattle.wv_author.proofs.ValueLines.{all_read, no_line_left, no_number_left, one_more_before, some_left}
use Rattle.wv_author.proofs.values.read_values.Goals as goal

pub returns-in_default : goal.returns-in_default
returns-in_default c =
    let some = some_left _ (eqb-false (length c.loop-text.text.now) 0 (sym c.is_empty.ensures ∙ c.loop-text-test.true)) in
    no_line_left c.args.bytes.now c.loop-text.text.now c.loop-text.values c.loop-text.invariant some c.in_default.ensures

pub returns-in_default-number_in : goal.returns-in_default-number_in
returns-in_default-number_in c =
    no_number_left c.args.bytes.now c.loop-text.text.now c.in-Some.size c.loop-text.values c.loop-text.invariant c.in-Some.ensures c.in_default-number_in.ensures

pub loop-text-preserved : goal.loop-text-preserved
loop-text-preserved c =
    let fits : SFits w128 c.in-Some-number_in.value = search rules in
    let pushed = rw (to_z-of_z w128 c.in-Some-number_in.value fits) at c.in_ok-push.ensures.ok in
    one_more_before c.args.bytes.now c.loop-text.text.now _ c.in-Some.size c.in-Some-number_in.value c.loop-text.values c.push.new.self pushed
    (take_rest c.loop-text.text.now (c.in-Some.size + 1)) c.loop-text.invariant c.in-Some.ensures c.in-Some-number_in.ensures

pub returns : goal.returns
returns c =
    all_read c.args.bytes.now c.loop-text.text.now c.loop-text.values c.loop-text.invariant
    (eqb-true (length c.loop-text.text.now) 0 (sym c.is_empty.ensures ∙ c.loop-text-test.false))
