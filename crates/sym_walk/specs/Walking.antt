-- What a walk reads, as contracts see it.
use Rattle.std.specs.Prelude.{List}
use Rattle.std.specs.List.{All}
use Rattle.c_core.specs.Tree.{Program}
use Rattle.c_core.specs.View.{program_view}
use Rattle.seek_mode.specs.SeekingMode.{seeking_mode}
use Rattle.seek_passes.specs.Passing.{IsSegment}
use Rattle.sym_invariants.specs.Obliged as obliged
use Rattle.sym_invariants.specs.declared.obliged.Obliged.{Obliged}
use Rattle.sym_invariants.specs.declared.obliged.Obliging.{Obliging}
use Rattle.sym_meaning.specs.Mode.{Mode}
use Rattle.way_match.specs.Points.{BoundSegment}
use Rattle.way_match.specs.View.{each_segment_view}
use Rattle.sym_walk.specs.declared.walk.Judging.{Judging}
use Rattle.sym_walk.specs.declared.walk.Judging.TheVariants.{Obliges, Seeks}
use Rattle.sym_walk.specs.declared.walk.Seeking.{Seeking}
use Rattle.sym_walk.specs.declared.walk.Walk.{Walk}

abbrev pub program_of : Walk → Program
program_of w = program_view w.program.now

-- the program with its obligations
abbrev pub obliged_by : Walk → Obliging → Obliged
obliged_by w mode = record { alloc = w.alloc; program = w.program; mode = mode }

-- the segments of the witness
abbrev pub segments_of : Seeking → List BoundSegment
segments_of mode = each_segment_view mode.segments.now

-- what is judged
abbrev pub mode_by : Walk → Judging → Mode
mode_by w (Obliges mode) = obliged.mode_of (obliged_by w mode)
mode_by w (Seeks mode) = seeking_mode (program_of w) (segments_of mode) mode.turns

abbrev pub mode_of : Walk → Mode
mode_of w = mode_by w w.mode

-- obligations are the program's, and waypoints can be told
abbrev pub IsJudging : Walk → Judging → Type 0
IsJudging w (Obliges mode) = obliged.IsObliged (obliged_by w mode)
IsJudging w (Seeks mode) = All (IsSegment (program_of w)) (segments_of mode)

abbrev pub IsWalk : Walk → Type 0
IsWalk w = IsJudging w w.mode
