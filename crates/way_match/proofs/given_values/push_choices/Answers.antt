use Rattle.std.proofs.Common.{◌∙◌}
use Rattle.c_core.specs.declared.number.IntType.TheVariants.{Bool}
use Rattle.way_match.proofs.ValueLaws.{choice_more}
use Rattle.way_match.proofs.given_values.push_choices.Goals as goal

pub loop-call-preserved : goal.loop-call-preserved
loop-call-preserved c =
    choice_more c.args.values.now c.args.calls.now c.loop-call.call-index (record { spot = record { line = 0; column = 0 }; ty = Bool }) c.loop-call.list c.push.new.self c.in_ok-there.there
    c.loop-call-test.true c.in_ok-push.ensures.ok c.in_ok-there.ensures
    ∙ c.loop-call.invariant
