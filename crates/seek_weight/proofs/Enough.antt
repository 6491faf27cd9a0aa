-- Within the weight, steps and cells are few.
use Rattle.std.proofs.Common.{◌≡◌, ◌≤◌, ℕ, zero, suc, ℤ, Bool, true, false, cond, List, [], ◌∷◌, length, length-append, leb-true, refl, ap, arith}
use Rattle.std.proofs.lemmas.List.Sums.{sum_by-cons}
use Rattle.std.specs.List.{sum_by}
use Rattle.c_core.specs.Program.{IsProgram, most_declared_cells}
use Rattle.c_core.specs.Tree.{Program}
use Rattle.c_core.specs.declared.tree.Object.{Object}
use Rattle.c_core.specs.declared.tree.Start.{Start}
use Rattle.c_meaning.specs.Cells.{Cell, cells_from}
use Rattle.c_meaning.specs.Run.{start_values, static_cells, first_cells}

length_from : (o i n : ℕ) (vs : List ℤ) → length (cells_from o i n vs) ≡ n
length_from o i zero vs = refl
length_from o i (suc n) [] = ap suc (length_from o (suc i) n [])
length_from o i (suc n) (v ∷ vs) = ap suc (length_from o (suc i) n vs)

-- the cells of static storage are among all that are declared
few_static : (starts : List Start) (o : ℕ) (xs : List Object) → length (static_cells starts o xs) ≤ sum_by (λ x. x.cells) xs
few_static starts o [] = omega arith
few_static starts o (x ∷ xs) =
    let first : List Cell = cond x.fixed (cells_from o 0 x.cells (start_values o starts)) [] in
    let e = length-append first (static_cells starts (suc o) xs) in
    let r = few_static starts (suc o) xs in
    let c = sum_by-cons (λ (y : Object). y.cells) x xs in
    let l = at_most x.fixed in
    omega (arith, e, r, c, l)
  where
    at_most : (fixed : Bool) → length (cond fixed (cells_from o 0 x.cells (start_values o starts)) []) ≤ x.cells
    at_most true = let e = length_from o 0 x.cells (start_values o starts) in omega (arith, e)
    at_most false = omega arith

pub few_first_cells : (p : Program) → IsProgram p → length (first_cells p) ≤ most_declared_cells
few_first_cells p checked =
    let declared = leb-true (sum_by (λ (x : Object). x.cells) p.objects) most_declared_cells checked.cells in
    let static = few_static p.starts 0 p.objects in
    omega (arith, declared, static)
