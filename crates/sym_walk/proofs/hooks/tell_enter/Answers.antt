use Rattle.sym_walk.proofs.hooks.tell_enter.Goals as goal

pub tell-requires-clause-ready : goal.tell-requires-clause-ready
tell-requires-clause-ready c = record { fits = c.requires.fits; event = tt; room = c.requires.room }

pub returns : goal.returns
returns c = c.in_ok-tell.ensures
