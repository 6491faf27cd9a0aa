-- The mode of runs that seek. There is one duty, the hit: a violation fails it where its event completes all segments.
-- Every other event may complete some, on each arrival at a loop its body is begun k times at most, and no invariants
-- are tested.
use Rattle.std.specs.Prelude.{ℕ, zero, suc, true, false, [], ◌∷◌, List, None}
use Rattle.c_core.specs.Tree.{Program}
use Rattle.c_core.specs.declared.number.Spot.{Spot}
use Rattle.c_meaning.specs.declared.run.Duty.{Duty}
use Rattle.c_meaning.specs.declared.run.DutyKind.TheVariants.{Property as PropertyKind}
use Rattle.c_meaning.specs.declared.run.Event.TheVariants.{At}
use Rattle.c_meaning.specs.Acts.{Flow, Go, bind, turned}
use Rattle.c_meaning.specs.Duties.{duty}
use Rattle.c_meaning.specs.Havoc.{Passes}
use Rattle.way_match.specs.Points.{BoundSegment}
use Rattle.seek_meaning.specs.Progress.{completed_after, completes_all}
use Rattle.sym_meaning.specs.Mode.{Act, Turn, Mode}
use Rattle.sym_meaning.specs.Judged.{stop}
use Rattle.seek_mode.specs.SeekingScale.{sought}

-- no obligation of a program: lines and columns of a text are counted from 1
abbrev pub the_hit : Duty
the_hit = duty (record { line = 0; column = 0 }) PropertyKind None

-- a statement about to be done: its event, with the cells of this moment
abbrev pub here : Program → List BoundSegment → Spot → Act (Unit {0})
here p ss spot = λ s. Go tt (record s { completed = completed_after p ss (At spot) s.cells s.completed })

-- the turns of a loop, of which r may begin the body; the one after them may still be its last test
abbrev pub turns : ℕ → Turn → Act Flow
turns zero turn = λ s. bind (turn false s) (turned (stop Passes))
turns (suc r) turn = λ s. bind (turn true s) (turned (turns r turn))

-- ss: the segments of the witness; k: the bound
abbrev pub seeking_mode : Program → List BoundSegment → ℕ → Mode
seeking_mode p ss k = record {
  duties = the_hit ∷ [];
  scale = sought p ss k;
  duty_at = λ at. the_hit;
  counts = completes_all p ss;
  here = here p ss;
  next = completed_after p ss;
  loop = λ spot l turn. turns k turn;
}
