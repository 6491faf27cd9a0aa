-- Tests of bits and of invariants: a run goes on where the test holds, and else ends.
use Rattle.std.specs.Prelude.{Bool, cond}
use Rattle.c_core.specs.Tree.{Program}
use Rattle.c_meaning.specs.Acts.{Res, Go, Stop}
use Rattle.c_meaning.specs.Duties.{Placed}
use Rattle.c_meaning.specs.Havoc.{Stopped}
use Rattle.sym_meaning.specs.Mode.{JudgedState}
use Rattle.c_meaning.specs.Value as value
use Rattle.circuits.specs.declared.net.Bit.{Bit}
use Rattle.circuits.specs.Net.{holds}
use Rattle.sym_state.specs.declared.state.Sym.{Sym}
use Rattle.sym_state.specs.Following.{Deed}

-- a run goes on where this holds, and else ends so
abbrev pub going_if : Bool → Stopped → JudgedState → Res Stopped JudgedState (Unit {0})
going_if t e s = cond t (Go tt s) (Stop e s)

-- a bit of the state
abbrev pub tested : Sym → Bit → Stopped → Deed (Unit {0})
tested old test e v s = going_if (holds v old.net test) e s

-- an invariant over the cells
abbrev pub invariant_tested : Program → Placed → Stopped → JudgedState → Res Stopped JudgedState (Unit {0})
invariant_tested p x e s = going_if (value.holds p x.test s.cells) e s
