-- What the laws say of judged runs in the mode of runs that seek.
use Rattle.std.specs.Prelude.{◌≡◌, ◌↔◌, ℕ, suc, ℤ, Bool, true, List, []}
use Rattle.c_core.specs.Tree.{Program}
use Rattle.c_meaning.specs.Acts.{Res, Go, Stop, Flow}
use Rattle.c_meaning.specs.Exec.{run_main}
use Rattle.c_meaning.specs.Havoc.{Stopped, Passes, Fails}
use Rattle.c_meaning.specs.Run.{first_cells}
use Rattle.way_match.specs.Points.{BoundSegment}
use Rattle.seek_meaning.specs.Progress.{none_completed}
use Rattle.seek_meaning.specs.Seeking.{SeekEnd, Hits, Misses, SeekState, seeking, SeekRun, hits}
use Rattle.sym_meaning.specs.Mode.{JudgedState}
use Rattle.sym_meaning.specs.Judged.{judged_in}
use Rattle.seek_mode.specs.SeekingMode.{the_hit, seeking_mode}

-- a hit is the failing of the one duty, and a miss passes
abbrev pub end_judged : SeekEnd → Stopped
end_judged Hits = Fails the_hit
end_judged Misses = Passes

abbrev pub state_judged : SeekState → JudgedState
state_judged s = record { cells = s.cells; values = s.values; draws = s.draws; completed = s.completed }

-- a run that seeks, as a judged run
abbrev pub as_judged : {A : Type 0} → Res SeekEnd SeekState A → Res Stopped JudgedState A
as_judged (Go a s) = Go a (state_judged s)
as_judged (Stop e s) = Stop (end_judged e) (state_judged s)

-- the run that seeks on values that are taken in turn, with calls at most n deep and these segments completed before
-- all events
abbrev pub sought_in : Program → List BoundSegment → ℕ → ℕ → List ℤ → List Bool → Res SeekEnd SeekState Flow
sought_in p ss k n w before =
    run_main p (seeking p ss k) n true (record { cells = first_cells p; values = w; draws = []; completed = before })

-- in this mode the judged run is the run that seeks
abbrev pub IsSoughtRun : Program → List BoundSegment → ℕ → ℕ → List ℤ → List Bool → Type 0
IsSoughtRun p ss k n w before =
    judged_in p (seeking_mode p ss k) n w before ≡ as_judged (sought_in p ss k n w before)

-- the judged run that a search asks: main isn't one of the k calls, and before all events no segment is completed
abbrev pub judged_to_seek : Program → List BoundSegment → ℕ → List ℤ → Res Stopped JudgedState Flow
judged_to_seek p ss k w = judged_in p (seeking_mode p ss k) (suc k) w (none_completed ss)

-- the run that seeks hits exactly where the judged run fails the one duty
abbrev pub HitsWhereItFails : Program → List BoundSegment → ℕ → List ℤ → Type 0
HitsWhereItFails p ss k w = (hits (SeekRun p ss k w) ≡ true)
    ↔ ((s : JudgedState) × (judged_to_seek p ss k w ≡ Stop (Fails the_hit) s))
