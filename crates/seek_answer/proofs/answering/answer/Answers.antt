use Rattle.std.proofs.Common.{◌≡◌, ◌∙◌, true, sym, subst, arith}
use Rattle.bit_answers.specs.Deciding.{IsDecidedAs, inputs_of}
use Rattle.c_core.specs.View.{program_view}
use Rattle.circuits.specs.Net.{holds}
use Rattle.seek_answer.proofs.Answered.{answered_found, found_some, left_open}
use Rattle.seek_answer.proofs.Told.{none_sought, small, wide}
use Rattle.seek_answer.proofs.answering.answer.Goals as goal
use Rattle.seek_answer.specs.Answering.{IsUnspent}
use Rattle.way_match.specs.View.{segments_view}

pub decide_bit-requires-clause-bit_in : goal.decide_bit-requires-clause-bit_in
decide_bit-requires-clause-bit_in c = c.requires.promised.2.reach_in

pub decide_bit-requires-clause-room : goal.decide_bit-requires-clause-room
decide_bit-requires-clause-room c =
    small (program_view c.args.program.now) (segments_view c.args.bound.now) c.args.turns c.args.reach.now c.requires.promised c.nodes.ensures.fine

pub run_under-requires : goal.run_under-requires
run_under-requires c = wide (program_view c.args.program.now) (segments_view c.args.bound.now) c.args.turns c.args.reach.now c.requires.promised

pub shown-requires : goal.shown-requires
shown-requires c =
    let p = program_view c.args.program.now in
    let ss = segments_view c.args.bound.now in
    let r = c.args.reach.now in
    let found : holds (inputs_of c.in-TrueUnder.inputs) r.net r.reach ≡ true = subst (IsDecidedAs c.args.conflicts r.net r.reach) c.in-TrueUnder.is c.in_ok-decide_bit.ensures in
    let on : holds (inputs_of c.as_slice.result.now) r.net r.reach ≡ true = subst (λ l. holds (inputs_of l) r.net r.reach ≡ true) (sym c.as_slice.ensures) found in
    found_some p ss c.args.turns r c.requires.promised c.requires.brief (c.few_steps_have_room.ensures p c.args.turns) (c.hits_exactly.ensures p ss c.args.turns)
    (c.enough_steps_show.ensures p ss c.args.turns) (inputs_of c.as_slice.result.now) on c.in_ok-watched-in-TrueUnder.watched c.in_ok-watched-in-TrueUnder.ensures

pub returns-in-NeverTrue-clause-right : goal.returns-in-NeverTrue-clause-right
returns-in-NeverTrue-clause-right c =
    let p = program_view c.args.program.now in
    let ss = segments_view c.args.bound.now in
    let r = c.args.reach.now in
    let by = subst (IsDecidedAs c.args.conflicts r.net r.reach) c.in-NeverTrue.is c.in_ok-decide_bit.ensures in
    none_sought p ss c.args.turns r c.requires.promised (c.hits_exactly.ensures p ss c.args.turns)
    (c.few_steps_have_room.ensures p c.args.turns c.requires.brief.room) by.never

pub returns-in-TrueUnder-clause-right : goal.returns-in-TrueUnder-clause-right
returns-in-TrueUnder-clause-right c =
    let p = program_view c.args.program.now in
    let ss = segments_view c.args.bound.now in
    let r = c.args.reach.now in
    let found : holds (inputs_of c.in-TrueUnder.inputs) r.net r.reach ≡ true = subst (IsDecidedAs c.args.conflicts r.net r.reach) c.in-TrueUnder.is c.in_ok-decide_bit.ensures in
    let on : holds (inputs_of c.as_slice.result.now) r.net r.reach ≡ true = subst (λ l. holds (inputs_of l) r.net r.reach ≡ true) (sym c.as_slice.ensures) found in
    answered_found p ss c.args.turns r c.requires.promised c.requires.brief (c.few_steps_have_room.ensures p c.args.turns) (c.hits_exactly.ensures p ss c.args.turns)
    (c.enough_steps_show.ensures p ss c.args.turns) (inputs_of c.as_slice.result.now) on c.in_ok-watched-in-TrueUnder.watched c.in_ok-watched-in-TrueUnder.ensures c.args.conflicts c.shown.result c.shown.ensures

pub returns-in-TrueUnder-clause-decided : goal.returns-in-TrueUnder-clause-decided
returns-in-TrueUnder-clause-decided c more = subst IsUnspent (sym c.shown.ensures.shown) tt

pub returns-clause-right : goal.returns-clause-right
returns-clause-right c =
    let r = c.args.reach.now in
    let spent = subst (IsDecidedAs c.args.conflicts r.net r.reach) c.in-Spent.is c.in_ok-decide_bit.ensures in
    left_open (program_view c.args.program.now) (segments_view c.args.bound.now) c.args.turns r c.requires.promised c.args.conflicts c.in-Spent.spent c.requires.some spent

pub returns-clause-decided : goal.returns-clause-decided
returns-clause-decided c more =
    let r = c.args.reach.now in
    let spent = subst (IsDecidedAs c.args.conflicts r.net r.reach) c.in-Spent.is c.in_ok-decide_bit.ensures in
    absurd (omega (arith, spent.bounded, more))
