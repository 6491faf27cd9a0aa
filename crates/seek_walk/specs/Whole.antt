-- What the state after main's body says of all runs that seek.
use Rattle.std.specs.Prelude.{suc, ◌≤◌, ℕ, [], ◌∷◌, List, true}
use Rattle.c_core.specs.Tree.{Program}
use Rattle.c_meaning.specs.Exec.{run_main}
use Rattle.c_meaning.specs.Run.{first_cells}
use Rattle.circuits.specs.Net.{IsNet, count_ands, count_inputs}
use Rattle.seek_meaning.specs.Progress.{none_completed}
use Rattle.seek_mode.specs.SeekingMode.{the_hit, seeking_mode}
use Rattle.seek_weight.specs.SeekWeight.{SeekWeight, SeekBits}
use Rattle.sym_meaning.specs.Judged.{judged}
use Rattle.sym_state.specs.Standing.{IsState}
use Rattle.sym_state.specs.declared.state.Sym.{Sym}
use Rattle.sym_weight.specs.Weight.{most_weight}
use Rattle.sym_whole.specs.Deciding.{Decides}
use Rattle.way_match.specs.Points.{BoundSegment}

-- the runs within the bound aren't too heavy
abbrev pub IsLightToSeek : Program → List BoundSegment → ℕ → Type 0
IsLightToSeek p ss k = SeekWeight p ss k ≤ most_weight

-- the state tells of each run that seeks, and its net is no larger than what the runs weigh and the bits that they draw
pub record IsWholeSought (p : Program) (ss : List BoundSegment) (k : ℕ) (s : Sym) : Type 0 where
  pub fits : IsState p s
  pub fine : IsNet s.net
  pub decides : Decides (the_hit ∷ []) p (first_cells p) (none_completed ss) s
      (run_main p (judged p (seeking_mode p ss k)) (suc k) true)
  pub gates : count_ands s.net ≤ SeekWeight p ss k
  pub feeds : count_inputs s.net ≤ SeekBits p k
