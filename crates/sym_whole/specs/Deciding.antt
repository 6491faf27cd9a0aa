-- What a state after a whole program says of its havoc runs: its failing bits tell at which obligation a run ends, and its sites what
-- it draws.
use Rattle.std.specs.Prelude.{◌≡◌, ◌↔◌, ℕ, ◌+◌, ◌≤◌, Bool, true, ℤ, List, [], length, Some, slice_get}
use Rattle.c_core.specs.Tree.{Program}
use Rattle.c_meaning.specs.declared.run.Duty.{Duty}
use Rattle.c_meaning.specs.declared.run.HavocEnd.TheVariants.{Failed}
use Rattle.c_meaning.specs.declared.run.HavocRun.{HavocRun}
use Rattle.c_meaning.specs.Acts.{Res, Flow}
use Rattle.c_meaning.specs.Cells.{Cell}
use Rattle.c_meaning.specs.Havoc.{Stopped, havoc_run}
use Rattle.sym_meaning.specs.Mode.{JudgedState}
use Rattle.sym_meaning.specs.Obliging.{as_havoc}
use Rattle.c_meaning.specs.Replay.{values_of}
use Rattle.circuits.specs.declared.net.Bit.{Bit}
use Rattle.circuits.specs.Net.{holds, count_ands, count_inputs}
use Rattle.sym_state.specs.declared.state.Sym.{Sym}
use Rattle.sym_state.specs.Standing.{stand, draws_at, IsHere}

-- a run that draws from a list, from these cells, with these segments completed
abbrev pub started : List Cell → List Bool → List ℤ → JudgedState
started cells before w = record { cells = cells; values = w; draws = []; completed = before }

-- a state from which each run sets out with these cells and these segments completed
pub record IsStart (ds : List Duty) (p : Program) (start : List Cell) (before : List Bool) (s : Sym) : Type 0 where
  pub here : (v : ℕ → Bool) → IsHere (length ds) (stand p v s)
  pub cells : (v : ℕ → Bool) → (stand p v s).cells ≡ start
  pub draws : (v : ℕ → Bool) → (stand p v s).draws ≡ []
  pub completed : (v : ℕ → Bool) → (stand p v s).completed ≡ before

-- under inputs a state tells of this run: what it draws, and that it ends at an obligation, which are numbered from 1, exactly where
-- the obligation's failing bit is true
pub record Tells (p : Program) (s : Sym) (v : ℕ → Bool) (h : HavocRun) : Type 0 where
  pub draws : h.draws ≡ draws_at p v s.net s.sites.items
  pub ends : (i : ℕ) (b : Bit) → slice_get s.failing.items i ≡ Some b → (holds v s.net b ≡ true) ↔ (h.end ≡ Failed (i + 1))

-- there is a failing bit for each obligation; under all inputs it tells of the run on the values of the sites that are live there; and of each list's run it tells under some inputs
pub record Decides (ds : List Duty) (p : Program) (start : List Cell) (before : List Bool) (s : Sym) (run : JudgedState → Res Stopped JudgedState Flow) : Type 0 where
  pub many : length s.failing.items ≡ length ds
  pub each : (v : ℕ → Bool) → Tells p s v (havoc_run ds (as_havoc (run (started start before (values_of (draws_at p v s.net s.sites.items))))))
  pub all : (w : List ℤ) → (v : ℕ → Bool) × Tells p s v (havoc_run ds (as_havoc (run (started start before w))))

-- a state's net has at most this many and-nodes and inputs more than another's
pub record IsLarger (ands inputs : ℕ) (old new : Sym) : Type 0 where
  pub gates : count_ands new.net ≤ count_ands old.net + ands
  pub feeds : count_inputs new.net ≤ count_inputs old.net + inputs
