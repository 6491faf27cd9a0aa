-- The declaration that brings the sum of all cells over the limit is the one that is refused.
use Rattle.std.specs.Prelude.{◌≡◌, refl, true, false, [], ◌∷◌, codes, map}
use Rattle.c_core.specs.declared.number.DataModel.TheVariants.{Ilp32}
use Rattle.c_core.specs.declared.number.IntType.TheVariants.{Int}
use Rattle.c_core.specs.declared.tree.Object.{Object}
use Rattle.c_parser.specs.Tree.{Param}
use Rattle.check_rules.specs.Scopes.{scope}
use Rattle.check_rules.specs.Parts.{parts_of_parameters}
use Rattle.check_rules.specs.Codes.{crowded}

abbrev many : Object
many = record { name = codes "a"; ty = Int; cells = 99999; columns = 1; dims = 1; fixed = true; spot = record { line = 1; column = 5 } }

abbrev first : Param
first = record { spot = record { line = 2; column = 5 }; name = codes "x"; ty = Int }

abbrev second : Param
second = record { spot = record { line = 2; column = 8 }; name = codes "y"; ty = Int }

abbrev third : Param
third = record { spot = record { line = 2; column = 11 }; name = codes "z"; ty = Int }

cells_0 : map (crowded Ilp32 []) (parts_of_parameters (scope [] [] (many ∷ [])) (first ∷ second ∷ third ∷ [])) ≡ false ∷ true ∷ false ∷ []
cells_0 = refl
