use Rattle.std.proofs.Common.{subst, sym}
use Rattle.c_core.specs.View.{program_view}
use Rattle.c_meaning.specs.Placing.{placed_view}
use Rattle.judge_obligations.specs.Logged.{IsSettledAs}
use Rattle.judge_obligations.proofs.Verdicted.{small, inside}
use Rattle.judge_obligations.proofs.judging.pass_whole.Goals as goal

pub keep-requires-clause-room : goal.keep-requires-clause-room
keep-requires-clause-room c = small (program_view c.args.program.now) (placed_view c.args.invariants.now) c.args.obligations.now c.requires.promised c.nodes.ensures.fine

pub keep-requires-clause-bit_in : goal.keep-requires-clause-bit_in
keep-requires-clause-bit_in c =
    inside (program_view c.args.program.now) (placed_view c.args.invariants.now) c.args.obligations.now c.requires.promised c.args.at c.failing_at-bit.result (sym c.failing_at-bit.ensures)

pub keep-requires-clause-never : goal.keep-requires-clause-never
keep-requires-clause-never c =
    let o = c.args.obligations.now in
    let settled = subst (IsSettledAs c.args.conflicts (program_view c.args.program.now) (placed_view c.args.invariants.now) o c.args.at) c.in-Holds.is c.in_ok-settle.ensures.settled in
    (settled c.failing_at-bit.result (sym c.failing_at-bit.ensures)).never

pub returns-in-Holds-clause-passed : goal.returns-in-Holds-clause-passed
returns-in-Holds-clause-passed c b at =
    let o = c.args.obligations.now in
    let settled = subst (IsSettledAs c.args.conflicts (program_view c.args.program.now) (placed_view c.args.invariants.now) o c.args.at) c.in-Holds.is c.in_ok-settle.ensures.settled in
    (settled b at).never
