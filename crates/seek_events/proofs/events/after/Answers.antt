use Rattle.std.proofs.Common.{arith, false}
use Rattle.std.proofs.lemmas.List.Elements.{All-get_or}
use Rattle.seek_events.specs.Events.{IsHere}
use Rattle.seek_events.proofs.Bits.{bit_later, here_later, inside_later}
use Rattle.seek_events.proofs.Following.{so_far_end, so_far_next, so_far_none}
use Rattle.seek_events.proofs.events.after.Goals as goal

pub loop-i-init : goal.loop-i-init
loop-i-init c = rw c.new-all.ensures.items (so_far_none _ _ _ _ _ _ c.yes.ensures c.not-came.ensures)

pub segment_after-requires-clause-here_in : goal.segment_after-requires-clause-here_in
segment_after-requires-clause-here_in c = inside_later c.args.here c.loop-i.invariant.grown c.requires.here_in

pub segment_after-requires-clause-came_in : goal.segment_after-requires-clause-came_in
segment_after-requires-clause-came_in c = c.loop-i.invariant.came_in

pub segment_after-requires-clause-passing_in : goal.segment_after-requires-clause-passing_in
segment_after-requires-clause-passing_in c = here_later _ c.loop-i.invariant.grown (All-get_or (IsHere _) _ _ _ (omega arith) c.requires.passings_in)

pub segment_after-requires-clause-completed_in : goal.segment_after-requires-clause-completed_in
segment_after-requires-clause-completed_in c = bit_later c.args.completed.now c.loop-i.i (record { node = 0; negated = false }) c.loop-i.invariant.grown c.requires.completed_in (omega arith)

pub loop-i-preserved : goal.loop-i-preserved
loop-i-preserved c =
    rw c.in_ok-push.ensures.items
    (so_far_next _ _ _ _ _ _ _ _ _ _ _ _ _ _ c.in_ok-next.ensures c.loop-i.invariant c.requires.here_in c.requires.passings_in c.requires.completed_in (omega arith) c.requires.same)

pub returns : goal.returns
returns c = so_far_end _ _ _ _ _ _ _ _ _ c.loop-i.invariant (omega arith) (omega arith) c.requires.same
