-- One more number of the sequence, and one more bound.
use Rattle.std.proofs.Common.{◌≡◌, ℕ, ◌+◌, [], ◌∷◌, ◌++◌, refl, add-one}
use Rattle.wv_author.specs.Sequence.{next, sequence, bound, bounds}

pub sequence_none : (n : ℕ) → sequence n 0 ≡ n
unfolding sequence
sequence_none n = refl

pub sequence_more : (n k : ℕ) → sequence n (k + 1) ≡ next (sequence n k)
unfolding sequence
sequence_more n k = rw add-one

pub bounds_none : (n : ℕ) → bounds n 0 ≡ []
unfolding bounds
bounds_none n = refl

pub bounds_more : (n k : ℕ) → bounds n (k + 1) ≡ bounds n k ++ bound (sequence n (k + 1)) ∷ []
unfolding bounds
bounds_more n k = rw add-one
