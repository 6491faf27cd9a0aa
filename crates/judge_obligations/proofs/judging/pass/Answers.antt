use Rattle.std.proofs.Common.{◌≡◌, ◌∙◌, true, subst, sym, ap}
use Rattle.std.proofs.lemmas.Option.{same_Some}
use Rattle.c_core.specs.View.{program_view}
use Rattle.c_meaning.specs.Placing.{placed_view}
use Rattle.circuits.specs.Net.{holds}
use Rattle.bit_answers.specs.Deciding.{IsNeverTrue, inputs_of}
use Rattle.judge_obligations.specs.Deciding.{IsAskedAs}
use Rattle.judge_obligations.proofs.Verdicted.{small, inside}
use Rattle.judge_obligations.proofs.judging.pass.Goals as goal

pub ask-requires-clause-room : goal.ask-requires-clause-room
ask-requires-clause-room c = small (program_view c.args.program.now) (placed_view c.args.invariants.now) c.args.obligations.now c.requires.promised c.nodes.ensures.fine

pub ask-requires-clause-bit_in : goal.ask-requires-clause-bit_in
ask-requires-clause-bit_in c =
    inside (program_view c.args.program.now) (placed_view c.args.invariants.now) c.args.obligations.now c.requires.promised c.args.at c.failing_at-bit.result (sym c.failing_at-bit.ensures)

pub returns-in-NeverTrue-clause-passed : goal.returns-in-NeverTrue-clause-passed
returns-in-NeverTrue-clause-passed c x at =
    let o = c.args.obligations.now in
    let b = c.failing_at-bit.result in
    let never = subst (IsAskedAs o.net b) c.in-NeverTrue.is c.in_ok-ask.ensures.asked in
    subst (IsNeverTrue o.net) (same_Some b x (c.failing_at-bit.ensures ∙ at)) never

pub shown-requires-clause-on : goal.shown-requires-clause-on
shown-requires-clause-on c x at =
    let o = c.args.obligations.now in
    let b = c.failing_at-bit.result in
    let on : holds (inputs_of c.in-TrueUnder.values) o.net b ≡ true = subst (IsAskedAs o.net b) c.in-TrueUnder.is c.in_ok-ask.ensures.asked in
    ap (λ values. holds (inputs_of values) o.net x) c.as_slice.ensures ∙ ap (holds (inputs_of c.in-TrueUnder.values) o.net) (sym (same_Some b x (c.failing_at-bit.ensures ∙ at))) ∙ on

pub returns-in_ok-judged-in-TrueUnder-clause-passed : goal.returns-in_ok-judged-in-TrueUnder-clause-passed
returns-in_ok-judged-in-TrueUnder-clause-passed c = c.in_ok-judged-in-TrueUnder.ensures.other c.args.conflicts
