-- What the walk of a whole program says in the mode of runs that seek.
use Rattle.std.proofs.Common.{◌≡◌, ◌≤◌, ℕ, suc, List, [], ◌∷◌, length, refl, true, ap, ◌∙◌, subst, arith}
use Rattle.c_core.specs.Tree.{Program}
use Rattle.c_meaning.specs.Exec.{run_main}
use Rattle.c_meaning.specs.Run.{first_cells}
use Rattle.seek_meaning.specs.Progress.{none_completed}
use Rattle.seek_mode.specs.SeekingMode.{the_hit, seeking_mode}
use Rattle.seek_mode.specs.SeekingScale.{CostsAtMost}
use Rattle.seek_weight.specs.SeekWeight.{SeekWeight, SeekBits}
use Rattle.seek_walk.specs.Whole.{IsLightToSeek, IsWholeSought}
use Rattle.sym_eval.specs.Whole.{weight_of_main, bits_of_main, IsLight, IsWhole}
use Rattle.sym_meaning.specs.Judged.{judged}
use Rattle.sym_state.specs.declared.state.Sym.{Sym}
use Rattle.sym_whole.specs.Deciding.{Decides}
use Rattle.sym_whole.specs.Starting.{at_start}
use Rattle.way_match.specs.Points.{BoundSegment}
use Rattle.way_match.specs.View.{each_segment_view}
use Rattle.way_match.specs.declared.point.BoundSegment as rust

none_before : (ss : List BoundSegment) → at_start (length ss) ≡ none_completed ss
none_before [] = refl
none_before (s ∷ ss) = refl

pub as_many : (xs : List rust.BoundSegment) → length (each_segment_view xs) ≡ length xs
as_many [] = refl
as_many (x ∷ xs) = ap suc (as_many xs)

-- main's body costs no more than it weighs
module _ (p : Program) (ss : List BoundSegment) (k : ℕ) (cost : CostsAtMost p ss k k p.main) where
  main_costs : weight_of_main p (seeking_mode p ss k) k ≤ SeekWeight p ss k
  main_costs = cost.nodes

  main_draws : bits_of_main p (seeking_mode p ss k) k ≤ SeekBits p k
  main_draws = cost.bits

  pub light_enough : SeekBits p k ≤ SeekWeight p ss k → IsLightToSeek p ss k → IsLight p (seeking_mode p ss k) k
  light_enough drawn light = omega (arith, main_costs, main_draws, drawn, light)

  pub is_whole_sought : {n : ℕ} {s : Sym} → n ≡ length ss → IsWhole p (seeking_mode p ss k) k (at_start n) s → IsWholeSought p ss k s
  is_whole_sought {n} {s} many h = record {
    fits = h.fits;
    fine = h.fine;
    decides = subst (λ before. Decides (the_hit ∷ []) p (first_cells p) before s (run_main p (judged p (seeking_mode p ss k)) (suc k) true)) (ap at_start many ∙ none_before ss) h.decides;
    gates = omega (arith, h.gates, main_costs);
    feeds = omega (arith, h.feeds, main_draws);
  }
