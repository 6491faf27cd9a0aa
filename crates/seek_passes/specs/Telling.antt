-- What an event does to symbolic runs that are judged in a mode that follows the segments of a witness.
use Rattle.std.specs.Prelude.{◌≡◌, Bool, List, length, Option}
use Rattle.c_core.specs.Tree.{Program}
use Rattle.c_core.specs.declared.number.Spot.{Spot}
use Rattle.c_meaning.specs.Cells.{Cell}
use Rattle.c_meaning.specs.declared.run.Event.{Event as RunEvent}
use Rattle.c_meaning.specs.declared.run.Event.TheVariants.{Fail}
use Rattle.circuits.specs.declared.net.Bit.{Bit}
use Rattle.circuits.specs.Net.{Means}
use Rattle.seek_meaning.specs.Progress.{completed_after, completes_all}
use Rattle.sym_meaning.specs.Mode.{Mode}
use Rattle.sym_state.specs.declared.state.Sym.{Sym}
use Rattle.sym_state.specs.Standing.{stand, Turned}
use Rattle.sym_state.specs.Telling.{telling}
use Rattle.way_match.specs.Points.{BoundSegment}
use Rattle.seek_passes.specs.declared.event.SymEvent.{SymEvent}
use Rattle.seek_passes.specs.Event.{event_in}
use Rattle.seek_passes.specs.Charges.{told_weight}

-- the mode keeps which numbers of segments are completed, and a violation counts where it completes them all
pub record FollowsSegments (p : Program) (ss : List BoundSegment) (W : Mode) : Type 0 where
  pub next : (e : RunEvent) (cells : List Cell) (completed : List Bool)
      → W.next e cells completed ≡ completed_after p ss e cells completed
  pub counts : (e : RunEvent) (cells : List Cell) (completed : List Bool)
      → W.counts e cells completed ≡ completes_all p ss e cells completed

-- an event is told
pub record Tells (p : Program) (ss : List BoundSegment) (e : SymEvent) (old new : Sym) : Type 0 where
  pub told : (W : Mode) → FollowsSegments p ss W
      → Turned p (told_weight p e ss) 0 old new (λ v. telling W (event_in p old.net e v))
  -- as many bits as before
  pub level : length new.completed.items ≡ length old.completed.items

-- a bit that says at which violations of a full expression the run fails
abbrev pub Counts : Program → List BoundSegment → Spot → Spot → Option Spot → Sym → Bit → Type 0
Counts p ss statement full call s r =
    (W : Mode) → FollowsSegments p ss W
    → Means s.net r (λ v. W.counts (Fail statement full call) (stand p v s).cells (stand p v s).completed)
