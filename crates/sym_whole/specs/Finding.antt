-- For every list of values some inputs of a state's net make its runs draw from that list.
use Rattle.std.specs.Prelude.{ℕ, Bool, ℤ, List}
use Rattle.c_core.specs.Tree.{Program}
use Rattle.sym_state.specs.declared.state.Sym.{Sym}
use Rattle.sym_state.specs.Standing.{stand}
use Rattle.sym_state.specs.Following.{Taken}

-- under these inputs the run's draws take their values from the front of the list; past its end a draw is 0
abbrev pub IsFound : Program → Sym → List ℤ → Type 0
IsFound p s w = (v : ℕ → Bool) × (rest : List ℤ) × Taken p.model (stand p v s).draws w rest
