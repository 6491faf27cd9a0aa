use Rattle.sym_walk.specs.Walking.{program_of, mode_of}
use Rattle.sym_walk.proofs.Hooking.{value_told}
use Rattle.sym_walk.proofs.hooks.tell_value.Goals as goal

pub tell-requires-clause-ready : goal.tell-requires-clause-ready
tell-requires-clause-ready c = record { fits = c.requires.fits; event = record { bits_in = c.requires.bits_in; gave_in = c.yes-gave.ensures.inside }; room = c.requires.room }

pub returns : goal.returns
returns c = value_told (program_of c.args.walk.now) (mode_of c.args.walk.now) c.args.close c.args.ty c.args.bits.now.bits c.yes-gave.result c.yes-gave.ensures c.in_ok-tell.ensures
