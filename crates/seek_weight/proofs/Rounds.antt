-- What functions come to in a walk, one after the other.
use Rattle.std.proofs.Common.{◌≡◌, ℕ, zero, suc, List, [], ◌∷◌, map, slice_get, refl, ap, ◌∙◌}
use Rattle.c_core.specs.Tree.{Function, Program}
use Rattle.way_match.specs.Points.{BoundSegment}
use Rattle.sym_weight.specs.Tally.{capped}
use Rattle.seek_weight.specs.SeekWeight.{weights, function_of, count_in}
use Rattle.seek_weight.specs.declared.walk.Walk.{Walk}
use Rattle.seek_weight.specs.inside.Weighing.{AreTotals, beneath, comes_to, in_walk, program_in, segments_in, total_at}

each_total : (w : Walk) (fs : List Function) (f : ℕ) → total_at (map (comes_to w) fs) f ≡ capped (in_walk function_of w (slice_get fs f))
each_total w [] f = refl
each_total w (g ∷ fs) zero = refl
each_total w (g ∷ fs) (suc f) = each_total w fs f

counted_there : (p : Program) (ss : List BoundSegment) (k n f : ℕ) → function_of p (weights p ss) k (beneath p ss k n) (slice_get p.functions f) ≡ count_in p (weights p ss) k n f
counted_there p ss k zero f = refl
counted_there p ss k (suc n) f = refl

-- all of them are what functions come to with calls as deep as in the walk
pub are_totals : (w : Walk) (totals : List ℕ) → totals ≡ map (comes_to w) (program_in w).functions → AreTotals (program_in w) (segments_in w) w.turns w.depth totals
are_totals w totals e f =
    ap (λ ts. total_at ts f) e ∙ each_total w (program_in w).functions f ∙ ap capped (counted_there (program_in w) (segments_in w) w.turns w.depth f)
