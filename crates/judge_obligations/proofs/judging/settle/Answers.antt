use Rattle.std.proofs.Common.{◌≡◌, ◌∙◌, true, subst, sym, ap}
use Rattle.std.proofs.lemmas.Option.{same_Some}
use Rattle.c_core.specs.View.{program_view}
use Rattle.c_meaning.specs.Placing.{placed_view}
use Rattle.circuits.specs.Net.{holds}
use Rattle.bit_answers.specs.Deciding.{IsDecidedAs, inputs_of}
use Rattle.judge_obligations.proofs.Verdicted.{small, inside, other_open}
use Rattle.judge_obligations.proofs.judging.settle.Goals as goal

pub decide_bit-requires-clause-room : goal.decide_bit-requires-clause-room
decide_bit-requires-clause-room c = small (program_view c.args.program.now) (placed_view c.args.invariants.now) c.args.obligations.now c.requires.promised c.nodes.ensures.fine

pub decide_bit-requires-clause-bit_in : goal.decide_bit-requires-clause-bit_in
decide_bit-requires-clause-bit_in c =
    inside (program_view c.args.program.now) (placed_view c.args.invariants.now) c.args.obligations.now c.requires.promised c.args.at c.failing_at-bit.result (sym c.failing_at-bit.ensures)

pub shown-requires-clause-on : goal.shown-requires-clause-on
shown-requires-clause-on c x at =
    let o = c.args.obligations.now in
    let b = c.failing_at-bit.result in
    let on : holds (inputs_of c.in-TrueUnder.values) o.net b ≡ true = subst (IsDecidedAs c.args.conflicts o.net b) c.in-TrueUnder.is c.in_ok-log.ensures in
    let same : b ≡ x = same_Some b x (c.failing_at-bit.ensures ∙ at) in
    ap (λ values. holds (inputs_of values) o.net x) c.as_slice.ensures ∙ ap (holds (inputs_of c.in-TrueUnder.values) o.net) (sym same) ∙ on

pub returns-in-Spent-clause-settled : goal.returns-in-Spent-clause-settled
returns-in-Spent-clause-settled c =
    let o = c.args.obligations.now in
    let b = c.failing_at-bit.result in
    let on = subst (IsDecidedAs c.args.conflicts o.net b) c.in-Spent.is c.in_ok-log.ensures in
    other_open (program_view c.args.program.now) (placed_view c.args.invariants.now) o c.requires.promised c.args.conflicts c.args.at b c.in-Spent.spent c.undecided.result c.requires.some
    c.requires.before c.requires.within (sym c.failing_at-bit.ensures) on c.undecided.ensures

pub returns-in_ok-judged-in-TrueUnder-clause-settled : goal.returns-in_ok-judged-in-TrueUnder-clause-settled
returns-in_ok-judged-in-TrueUnder-clause-settled c = c.in_ok-judged-in-TrueUnder.ensures.other c.args.conflicts
