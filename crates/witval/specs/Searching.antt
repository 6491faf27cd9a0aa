-- What a program and a violation sequence about it ask for where values for its open inputs are wanted.
use Rattle.std.specs.Prelude.{◌≡◌, ℕ, List}
use Rattle.c_core.specs.Tree as t
use Rattle.c_core.specs.View.{program_view}
use Rattle.c_core.specs.declared.program.Program.{Program}
use Rattle.seek_answer.specs.declared.answering.Sought.{Sought}
use Rattle.seek_answer.specs.declared.answering.Sought.TheVariants as sought
use Rattle.way_bind.specs.Binding.{Binds}
use Rattle.way_match.specs.Points.{BoundSegment}
use Rattle.way_match.specs.View.{segments_view}
use Rattle.wv_schema.specs.declared.witness.Witness.{Witness}
use Rattle.wv_seek.specs.Seeking.{SearchAnswers}
use Rattle.witval.specs.Refusals.{IsBindRefusal, IsSearchRefusal}
use Rattle.witval.specs.Stages.{◌>>=◌, answered, itself, refusing}
use Rattle.witval.specs.declared.output.Output.{Output}
use Rattle.witval.specs.declared.output.Output.TheVariants.{Searched}
use Rattle.witval.specs.declared.output.Searched.TheVariants as searched

-- the output for what a search came to: the values with the event of each segment; the bound within which there are none; or the
-- budget that was spent
abbrev pub TellsSought : ℕ → ℕ → Sought → Output → Type 0
TellsSought turns conflicts (sought.Found draws positions) output = output ≡ Searched (searched.Found draws positions)
TellsSought turns conflicts sought.Nothing output = output ≡ Searched (searched.NoneWithin turns)
TellsSought turns conflicts (sought.Spent at) output = output ≡ Searched (searched.Spent conflicts)

-- the output for the segments of a violation sequence, bound to the program
abbrev pub SeeksOnSegments : ℕ → ℕ → t.Program → List BoundSegment → Output → Type 0
SeeksOnSegments turns conflicts p ss = do
  found ← answered (SearchAnswers conflicts p ss turns) itself (refusing IsSearchRefusal)
  TellsSought turns conflicts found

-- the output for a program and a violation sequence about it, with a bound on turns and calls and a budget of conflicts
abbrev pub SeeksValues : ℕ → ℕ → Witness → Program → Output → Type 0
SeeksValues turns conflicts witness program = do
  segments ← answered (Binds (program_view program) witness) segments_view (refusing IsBindRefusal)
  SeeksOnSegments turns conflicts (program_view program) segments
