-- The products among expressions, one list after another.
use Rattle.std.proofs.Common.{◌≡◌, List, [], ◌∷◌, ◌++◌, refl, sym, ap, ◌∙◌}
use Rattle.std.proofs.lemmas.Grind.{flat_map-append}
use Rattle.std.specs.List.{flat_map}
use Rattle.c_core.specs.Tree.{Exp, Program}
use Rattle.c_core.specs.Parts.{exps_of, fulls_of_program}
use Rattle.c_core.specs.declared.number.Spot.{Spot}
use Rattle.view_products.specs.Products.{own_product, products_among, products_in, products_of_program}
use Rattle.way_places.specs.Sought.{each_in_functions}
use Rattle.way_places.proofs.SoughtLaws.{in_functions}

-- of two lists
pub among_both : (xs ys : List Exp) → products_among (xs ++ ys) ≡ products_among xs ++ products_among ys
among_both xs ys = flat_map-append own_product xs ys

-- what is taken from full expressions one by one is what stands in all of them
in_fulls : (es : List Exp) → flat_map products_in es ≡ products_among (flat_map exps_of es)
in_fulls [] = refl
in_fulls (e ∷ es) = ap (λ l. products_in e ++ l) (in_fulls es) ∙ sym (among_both (exps_of e) (flat_map exps_of es))

pub in_program : (p : Program) → each_in_functions products_in p.functions ≡ products_of_program p
in_program p = in_functions products_in p.functions ∙ in_fulls (fulls_of_program p)
