-- What a search for a loop keeps over two lists of statements, one after the other.
use Rattle.std.proofs.Common.{◌≡◌, refl, List, [], ◌∷◌, ◌++◌, Option}
use Rattle.c_core.specs.Tree.{Form, Stm}
use Rattle.c_core.specs.declared.number.Spot.{Spot}
use Rattle.c_calls.specs.Loops.{first_loop, or_loop_at}

pub first_loop_both : (spot : Spot) (found : Option Form) (xs ys : List Stm) → first_loop spot found (xs ++ ys) ≡ first_loop spot (first_loop spot found xs) ys
first_loop_both spot found [] ys = refl
first_loop_both spot found (s ∷ xs) ys = first_loop_both spot (or_loop_at spot found s) xs ys
