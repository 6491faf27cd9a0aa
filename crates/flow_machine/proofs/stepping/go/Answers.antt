use Rattle.std.proofs.Common.{refl, arith}
use Rattle.flow_laws.proofs.Reaching.{one_step, reaches_on}
use Rattle.flow_machine.specs.Views.{machine_of}
use Rattle.flow_machine.proofs.Fronting.{then_broken, saw_some}
use Rattle.flow_machine.proofs.Going.{leaves_off}
use Rattle.flow_machine.proofs.Lasting.{stacks_kept, rooms_kept}
use Rattle.flow_machine.proofs.Reserving.{lasts_there}
use Rattle.flow_machine.proofs.stepping.go.Goals as goal
use Rattle.flow_rooms.proofs.Falls.{step_falls}

pub turns-init : goal.turns-init
turns-init g c = record {
  reaches = record { count = 0; is = refl };
  order = c.requires.order;
  kept = (omega arith, omega arith, omega arith);
  rooms = (omega arith, omega arith);
}

pub returns-in-Err-clause-halts : goal.returns-in-Err-clause-halts
returns-in-Err-clause-halts g c =
    let w = g.W.Watcher.seen in
    leaves_off c.args.code.now g.W.Watcher.Seen g.W.Watcher.after c.in-Err.halt c.turns.invariant.reaches.count
    (machine_of c.args.control.now c.args.run.now (w c.args.watcher.now)) (machine_of c.turns.control c.turns.run (w c.turns.watcher))
    (machine_of c.step.new.control c.step.new.run (w c.step.new.watcher)) c.turns.invariant.reaches.is c.in-Err.ensures.steps

pub returns-in-Err-clause-front : goal.returns-in-Err-clause-front
returns-in-Err-clause-front g c =
    let w = g.W.Watcher.seen in
    let m = machine_of c.args.control.now c.args.run.now (w c.args.watcher.now) in
    let y = machine_of c.turns.control c.turns.run (w c.turns.watcher) in
    then_broken c.in-Err.halt (saw_some c.args.code.now g.W.Watcher.Seen g.W.Watcher.after c.turns.invariant.reaches.count m y (w c.step.new.watcher) c.turns.invariant.reaches.is) c.in-Err.ensures.front

pub returns-in-Err-clause-kept : goal.returns-in-Err-clause-kept
returns-in-Err-clause-kept g c = stacks_kept c.args.control.now c.turns.control c.step.new.control c.turns.invariant.kept c.step.ensures.kept

pub returns-in-Err-clause-rooms : goal.returns-in-Err-clause-rooms
returns-in-Err-clause-rooms g c = rooms_kept c.args.run.now c.turns.run c.step.new.run c.turns.invariant.rooms c.step.ensures.rooms

pub returns-in-Err-clause-lasting : goal.returns-in-Err-clause-lasting
returns-in-Err-clause-lasting g c = λ sure within.
    let w = g.W.Watcher.seen in
    let i = c.turns.invariant in
    let l = lasts_there c.args.code.now g.W.Watcher.Seen g.W.Watcher.after c.args.control.now c.turns.control c.args.run.now c.turns.run (w c.args.watcher.now) (w c.turns.watcher) i.reaches.count i.reaches.is i.kept i.rooms within in
    c.in-Err.ensures.lasting sure l.0 l.1 l.2

pub turns-smaller : goal.turns-smaller
turns-smaller g c =
    let w = g.W.Watcher.seen in
    (step_falls c.args.code.now c.requires.paced g.W.Watcher.Seen g.W.Watcher.after (machine_of c.turns.control c.turns.run (w c.turns.watcher))
    (machine_of c.step.new.control c.step.new.run (w c.step.new.watcher)) c.turns.invariant.order c.in_default.ensures.steps).1

pub turns-preserved : goal.turns-preserved
turns-preserved g c =
    let w = g.W.Watcher.seen in
    let i = c.turns.invariant in
    let m = machine_of c.turns.control c.turns.run (w c.turns.watcher) in
    let y = machine_of c.step.new.control c.step.new.run (w c.step.new.watcher) in
    record {
      reaches = reaches_on c.args.code.now g.W.Watcher.Seen g.W.Watcher.after (machine_of c.args.control.now c.args.run.now (w c.args.watcher.now)) m y i.reaches
          (one_step c.args.code.now g.W.Watcher.Seen g.W.Watcher.after m y c.in_default.ensures.steps);
      order = (step_falls c.args.code.now c.requires.paced g.W.Watcher.Seen g.W.Watcher.after m y i.order c.in_default.ensures.steps).0;
      kept = stacks_kept c.args.control.now c.turns.control c.step.new.control i.kept c.step.ensures.kept;
      rooms = rooms_kept c.args.run.now c.turns.run c.step.new.run i.rooms c.step.ensures.rooms;
    }
