use Rattle.std.proofs.Common.{arith, false}
use Rattle.std.proofs.lemmas.List.Elements.{All-get_or}
use Rattle.seek_events.specs.Events.{IsHere}
use Rattle.seek_events.proofs.Bits.{bit_later, here_later}
use Rattle.seek_events.proofs.Following.{all_end, all_next, all_none}
use Rattle.seek_events.proofs.events.completes_all.Goals as goal

pub loop-i-init : goal.loop-i-init
loop-i-init c = all_none _ _ _ _ _ c.yes.ensures c.not-came.ensures

pub completes-requires-clause-came_in : goal.completes-requires-clause-came_in
completes-requires-clause-came_in c = c.loop-i.invariant.came_in

pub completes-requires-clause-here : goal.completes-requires-clause-here
completes-requires-clause-here c = here_later _ c.loop-i.invariant.grown (All-get_or (IsHere _) _ _ _ (omega arith) c.requires.passings_in)

pub completes-requires-clause-completed_in : goal.completes-requires-clause-completed_in
completes-requires-clause-completed_in c = bit_later c.args.completed.now c.loop-i.i (record { node = 0; negated = false }) c.loop-i.invariant.grown c.requires.completed_in (omega arith)

pub loop-i-preserved : goal.loop-i-preserved
loop-i-preserved c =
    all_next _ _ _ _ _ _ _ _ _ _ _ _ c.in_ok-came.ensures c.loop-i.invariant c.requires.passings_in c.requires.completed_in (omega arith) c.requires.same

pub returns : goal.returns
returns c = all_end _ _ _ _ _ _ _ c.loop-i.invariant (omega arith) (omega arith) c.requires.same
