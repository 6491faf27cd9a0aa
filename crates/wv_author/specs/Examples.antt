-- The sequence of two numbers, computed.
use Rattle.std.specs.Prelude.{◌≡◌, [], ◌∷◌, refl}
use Rattle.wv_author.specs.Sequence.{sequence, bounds}

first_bounds_of_0 : bounds 0 2 ≡ 1 ∷ 69 ∷ []
unfolding sequence bounds
first_bounds_of_0 = refl

first_bound_of_7 : bounds 7 1 ≡ 65 ∷ []
unfolding sequence bounds
first_bound_of_7 = refl
