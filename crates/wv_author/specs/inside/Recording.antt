-- What is kept of a run's events, and why a run gives no segments.
use Rattle.std.specs.Prelude.{ℕ, List, [], ◌∷◌, ◌++◌, Bool, true, false, Option, Some, None, Result, Ok, Err}
use Rattle.c_core.specs.View.{program_view}
use Rattle.c_core.specs.declared.number.Spot.{Spot}
use Rattle.c_core.specs.declared.program.Program.{Program}
use Rattle.c_meaning.specs.Cells.{Cell}
use Rattle.c_meaning.specs.declared.run.End.{End}
use Rattle.c_meaning.specs.declared.run.End.TheVariants.{Ended, Undefined, Violated, Spent, Deep}
use Rattle.c_meaning.specs.declared.run.Event.{Event}
use Rattle.author_runs.specs.Returning.{CameBack, back_by, violated_in}
use Rattle.wv_schema.specs.declared.witness.Segment.{Segment}
use Rattle.wv_author.specs.Authored.{returning}
use Rattle.wv_author.specs.declared.authoring.AuthorFault.{AuthorFault}
use Rattle.wv_author.specs.declared.authoring.AuthorFault.TheVariants.{NotViolated, CellValue}
use Rattle.wv_author.specs.declared.recording.Returned.{Returned}

-- the program, the inputs that came back, the statement of the last violation
pub record Recorded : Type 0 where
  pub program : Program
  pub returned : List Returned
  pub statement : Option Spot

-- what is kept of an input that comes back
abbrev pub kept_of : CameBack → Returned
kept_of b = record { close = b.close; value = b.value }

-- the same where there is one
abbrev pub kept_if : Option CameBack → List Returned
kept_if None = []
kept_if (Some b) = kept_of b ∷ []

-- what an event adds
abbrev pub after_event : Event → List Cell → Recorded → Recorded
after_event e cells s = record {
  program = s.program;
  returned = s.returned ++ kept_if (back_by (program_view s.program) e);
  statement = violated_in e s.statement;
}

-- the segment of an input that came back
abbrev pub segment_of : List ℕ → Returned → Segment
segment_of file r = returning file r.value r.close

-- the property is violated
abbrev pub is_violated : End → Bool
is_violated Ended = false
is_violated (Undefined spot) = false
is_violated (Violated spot) = true
is_violated Spent = false
is_violated Deep = false

-- refused where a cell drew something else than 0
abbrev pub unless_free : Option Spot → Result (Unit {0}) AuthorFault
unless_free None = Ok tt
unless_free (Some spot) = Err (CellValue spot)

-- why a run that ended so, with the first such cell there, gives no segments
abbrev pub fixed_by : Bool → End → Option Spot → Result (Unit {0}) AuthorFault
fixed_by false e free = Err (NotViolated e)
fixed_by true e free = unless_free free
