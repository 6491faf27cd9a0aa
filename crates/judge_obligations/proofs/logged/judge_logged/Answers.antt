use Rattle.std.proofs.Common.{◌≡◌, arith, length, sym, subst}
use Rattle.c_core.specs.View.{program_view}
use Rattle.c_meaning.specs.Placing.{placed_view}
use Rattle.judge_obligations.specs.Logged.{AreKept, IsSettledAs}
use Rattle.judge_obligations.proofs.Kept.{kept_none, kept_more, proved}
use Rattle.judge_obligations.proofs.logged.judge_logged.Goals as goal

pub loop-at-init : goal.loop-at-init
loop-at-init c = subst (AreKept c.args.conflicts c.args.obligations.now 0) (sym c.new-logs.ensures) (kept_none c.args.conflicts c.args.obligations.now)

pub loop-at-preserved : goal.loop-at-preserved
loop-at-preserved c =
    let o = c.args.obligations.now in
    let n = c.loop-at.at in
    let settled = subst (IsSettledAs c.args.conflicts (program_view c.args.program.now) (placed_view c.args.invariants.now) o n) c.in-Holds.is c.in_ok-log.ensures.settled in
    kept_more c.args.conflicts o n c.loop-at.logs c.push.new.self c.in-Holds.log c.in_ok-push-in-Holds.ensures.ok c.loop-at.invariant (omega arith) settled

pub returns-clause-logged : goal.returns-clause-logged
returns-clause-logged c =
    let o = c.args.obligations.now in
    let end : c.loop-at.at ≡ length o.failing = omega arith in
    proved c.args.conflicts o (program_view c.args.program.now) (placed_view c.args.invariants.now) c.loop-at.at c.loop-at.logs c.requires.promised end c.loop-at.invariant
