-- The CR at a line's end.
use Rattle.std.proofs.Common.{◌≡◌, ℕ, List, [], ◌∷◌, ◌++◌, refl, ap}
use Rattle.yaml_lines.specs.Lines.{without_return}

pub return_off : (xs : List ℕ) → without_return (xs ++ 13 ∷ []) ≡ xs
return_off [] = refl
return_off (x ∷ []) = refl
return_off (x ∷ y ∷ xs) = ap (λ zs. x ∷ zs) (return_off (y ∷ xs))
