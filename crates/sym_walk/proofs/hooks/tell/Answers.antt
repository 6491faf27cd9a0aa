use Rattle.seek_passes.specs.Event.{event_in}
use Rattle.sym_walk.specs.Walking.{program_of, mode_of}
use Rattle.sym_walk.specs.Hooks.{event_cost}
use Rattle.sym_walk.proofs.Hooking.{untold, sought_walk, sought_ready, seeks_told}
use Rattle.sym_walk.proofs.hooks.tell.Goals as goal

pub returns-in-Obliges : goal.returns-in-Obliges
returns-in-Obliges c =
    let w = c.args.walk.now in
    untold w c.in-Obliges.mode c.in-Obliges.is (event_cost (program_of w) (mode_of w) c.args.event.now) c.args.sym.now (event_in (program_of w) c.args.sym.now.net c.args.event.now) c.requires.ready.fits

pub follow-requires-clause-segments : goal.follow-requires-clause-segments
follow-requires-clause-segments c = sought_walk c.args.walk.now c.in-Seeks.mode c.in-Seeks.is c.requires.walk

pub follow-requires-clause-ready : goal.follow-requires-clause-ready
follow-requires-clause-ready c = sought_ready c.args.walk.now c.in-Seeks.mode c.in-Seeks.is c.requires.ready

pub returns-in_ok-follow-in-Seeks : goal.returns-in_ok-follow-in-Seeks
returns-in_ok-follow-in-Seeks c = seeks_told c.args.walk.now c.in-Seeks.mode c.in-Seeks.is c.in_ok-follow-in-Seeks.ensures
