-- The state from which each havoc run sets out: the cells of static objects, and an empty net.
use Rattle.std.specs.Prelude.{◌≡◌, ℕ, zero, suc, Bool, true, false, List, [], ◌∷◌, ◌++◌, length, replicate}
use Rattle.c_core.specs.Tree.{Program}
use Rattle.c_meaning.specs.declared.run.Duty.{Duty}
use Rattle.c_meaning.specs.Cells.{Cell}
use Rattle.c_meaning.specs.Run.{first_cells}
use Rattle.circuits.specs.Net.{count_ands, count_inputs}
use Rattle.sym_state.specs.declared.state.Sym.{Sym}
use Rattle.sym_state.specs.Standing.{Stand, IsState}
use Rattle.sym_whole.specs.Deciding.{IsStart}

-- more cells
abbrev pub with_more : List Cell → Stand → Stand
with_more cs s = record s { cells = s.cells ++ cs }

-- which numbers of segments are completed before all events, of this many: none of them
abbrev pub at_start : ℕ → List Bool
at_start zero = []
at_start (suc n) = true ∷ replicate n false

-- before a program of this many duties, with this many segments to follow
pub record IsFirst (p : Program) (count segments : ℕ) (s : Sym) : Type 0 where
  pub fits : IsState p s
  pub start : (ds : List Duty) → length ds ≡ count → IsStart ds p (first_cells p) (at_start segments) s
  pub no_gates : count_ands s.net ≡ 0
  pub no_inputs : count_inputs s.net ≡ 0
  pub one_node : length s.net ≡ 1
