use Rattle.sym_walk.proofs.hooks.tell_branch.Goals as goal

pub tell-requires-clause-ready : goal.tell-requires-clause-ready
tell-requires-clause-ready c = record { fits = c.requires.fits; event = c.requires.truth_in; room = c.requires.room }

pub returns : goal.returns
returns c = c.in_ok-tell.ensures
