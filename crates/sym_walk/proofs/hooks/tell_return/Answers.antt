use Rattle.sym_walk.specs.Walking.{program_of, mode_of}
use Rattle.sym_walk.proofs.Hooking.{return_told}
use Rattle.sym_walk.proofs.hooks.tell_return.Goals as goal

pub tell-requires-clause-ready : goal.tell-requires-clause-ready
tell-requires-clause-ready c = record { fits = c.requires.fits; event = record { bits_in = c.requires.bits_in; gave_in = c.given-gave.ensures.inside }; room = c.requires.room }

pub returns : goal.returns
returns c =
    return_told (program_of c.args.walk.now) (mode_of c.args.walk.now) c.args.close c.args.gives c.args.ty c.args.bits.now.bits c.args.gave c.given-gave.result c.given-gave.ensures c.in_ok-tell.ensures
