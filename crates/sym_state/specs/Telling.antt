-- What an event other than that of a statement does to a state.
use Rattle.std.specs.Prelude.{cond}
use Rattle.c_meaning.specs.declared.run.Event.{Event}
use Rattle.sym_meaning.specs.Mode.{Mode}
use Rattle.sym_state.specs.Standing.{Stand}

-- a run that is here gives an event
abbrev pub telling : Mode → Event → Stand → Stand
telling W e s = record s { completed = cond s.live (W.next e s.cells s.completed) s.completed }
