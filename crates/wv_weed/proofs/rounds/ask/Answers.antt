use Rattle.std.proofs.Common.{sym, subst}
use Rattle.bit_answers.specs.Deciding.{IsDecidedAs, inputs_of}
use Rattle.wv_weed.specs.Rounds.{invariants_of, left_of, program_of}
use Rattle.wv_weed.proofs.Findings.{lost, still_open}
use Rattle.wv_weed.proofs.rounds.ask.Goals as goal

pub decide_bit-requires-clause-bit_in : goal.decide_bit-requires-clause-bit_in
decide_bit-requires-clause-bit_in c =
    let t = c.args.trial.now in
    let o = t.obligations.now in
    (c.failing_bits_tell.ensures (program_of t) (left_of t) o c.requires.trial.promised c.args.at c.args.bit
    (sym c.requires.bit)).inside

pub decide_bit-requires-clause-room : goal.decide_bit-requires-clause-room
decide_bit-requires-clause-room c =
    let t = c.args.trial.now in
    let o = t.obligations.now in
    (c.failing_bits_tell.ensures (program_of t) (left_of t) o c.requires.trial.promised c.args.at c.args.bit
    (sym c.requires.bit)).room
    c.nodes.ensures.fine

pub returns-in-NeverTrue : goal.returns-in-NeverTrue
returns-in-NeverTrue c =
    let t = c.args.trial.now in
    let shown =
    subst (IsDecidedAs t.conflicts t.obligations.now.net c.args.bit) c.in-NeverTrue.is c.in_ok-decide_bit.ensures in
    shown.never

pub returns-in-TrueUnder : goal.returns-in-TrueUnder
returns-in-TrueUnder c =
    let t = c.args.trial.now in
    let o = t.obligations.now in
    let b = c.args.bit in
    let tells = c.failing_bits_tell.ensures (program_of t) (left_of t) o c.requires.trial.promised c.args.at b
    (sym c.requires.bit) in
    let on = subst (IsDecidedAs t.conflicts o.net b) c.in-TrueUnder.is c.in_ok-decide_bit.ensures in
    lost t.conflicts (program_of t) (invariants_of t) t.left.now o c.args.at b tells c.requires.trial.left
    c.requires.trial.promised (c.failures_drop.ensures (program_of t) (invariants_of t)) c.args.place
    (inputs_of c.in-TrueUnder.field-0) c.requires.of on

pub returns : goal.returns
returns c =
    let t = c.args.trial.now in
    let o = t.obligations.now in
    let b = c.args.bit in
    let tells = c.failing_bits_tell.ensures (program_of t) (left_of t) o c.requires.trial.promised c.args.at b
    (sym c.requires.bit) in
    let spent = subst (IsDecidedAs t.conflicts o.net b) c.in-Spent.is c.in_ok-decide_bit.ensures in
    still_open t.conflicts (program_of t) (invariants_of t) t.left.now o c.args.at b tells c.requires.trial.left
    c.requires.trial.promised c.args.place c.in-Spent.spent c.requires.of c.requires.trial.some spent
