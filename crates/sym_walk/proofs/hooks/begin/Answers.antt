use Rattle.sym_walk.proofs.Hooking.{obliged_walk, obliged_room, obliged_begins, sought_walk, begin_ready, seeks_begins}
use Rattle.sym_walk.proofs.hooks.begin.Goals as goal

pub test_all-requires-clause-obliged : goal.test_all-requires-clause-obliged
test_all-requires-clause-obliged c = obliged_walk c.args.walk.now c.in-Obliges.mode c.in-Obliges.is c.requires.walk

pub test_all-requires-clause-room : goal.test_all-requires-clause-room
test_all-requires-clause-room c = obliged_room c.args.walk.now c.in-Obliges.mode c.in-Obliges.is c.args.spot c.args.sym.now c.requires.room

pub returns-in_ok-test_all-in-Obliges : goal.returns-in_ok-test_all-in-Obliges
returns-in_ok-test_all-in-Obliges c = obliged_begins c.args.walk.now c.in-Obliges.mode c.in-Obliges.is c.args.spot c.args.sym.now c.test_all.new.sym c.in_ok-test_all-in-Obliges.ensures

pub follow-requires-clause-segments : goal.follow-requires-clause-segments
follow-requires-clause-segments c = sought_walk c.args.walk.now c.in-Seeks.mode c.in-Seeks.is c.requires.walk

pub follow-requires-clause-ready : goal.follow-requires-clause-ready
follow-requires-clause-ready c = begin_ready c.args.walk.now c.in-Seeks.mode c.in-Seeks.is c.args.spot c.requires.fits c.requires.room

pub returns-in_ok-follow-in-Seeks : goal.returns-in_ok-follow-in-Seeks
returns-in_ok-follow-in-Seeks c = seeks_begins c.args.walk.now c.in-Seeks.mode c.in-Seeks.is c.args.spot c.in_ok-follow-in-Seeks.ensures
