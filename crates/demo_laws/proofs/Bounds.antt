-- The bounds that a number gives: as many as a demo has loops, each from 1 to 100.
use Rattle.std.proofs.Common.{◌≡◌, ℕ, zero, suc, ◌∙◌, List, [], ◌∷◌, ◌++◌, length, refl, arith, length-append}
use Rattle.std.specs.List.{AllByRecursion}
use Rattle.wv_author.specs.Sequence.{bounds, bound, loop_count, sequence}
use Rattle.demo_laws.specs.Bounds.{IsBound, AreBounds}

joined : (xs ys : List ℕ) → AllByRecursion IsBound xs → AllByRecursion IsBound ys → AllByRecursion IsBound (xs ++ ys)
joined [] ys h k = k
joined (x ∷ xs) ys h k = (h.0, joined xs ys h.1 k)

bound_fits : (s : ℕ) → IsBound (bound s)
bound_fits s = record { some = omega arith; few = omega arith }

each_fits : (n k : ℕ) → AllByRecursion IsBound (bounds n k)
unfolding bounds
each_fits n zero = tt
each_fits n (suc k) = joined (bounds n k) (bound (sequence n (suc k)) ∷ []) (each_fits n k) (bound_fits (sequence n (suc k)), tt)

pub bounds_count : (n k : ℕ) → length (bounds n k) ≡ k
unfolding bounds
bounds_count n zero = refl
bounds_count n (suc k) = let few = bounds_count n k in length-append (bounds n k) (bound (sequence n (suc k)) ∷ []) ∙ omega (arith, few)

pub bounds_fit : (n : ℕ) → AreBounds (bounds n loop_count)
bounds_fit n = let count : length (bounds n loop_count) ≡ 40 = bounds_count n loop_count in record { each = each_fits n loop_count; few = omega (arith, count) }
