-- A program beside the examples of c_meaning: an inner loop that is left by `break`.
use Rattle.std.specs.Prelude.{ℕ, true, [], ◌∷◌, Some, None}
use Rattle.c_core.specs.Tree.{Exp, NoExp, MoreExp, Assign, Index, Break, Program}
use Rattle.c_core.specs.declared.number.IntType.TheVariants.{Int}
use Rattle.c_core.specs.declared.number.Property.TheVariants.{UnreachCall}
use Rattle.c_core.specs.declared.number.BinOp.TheVariants.{Lt, Ne}
use Rattle.c_core.specs.declared.tree.Object.{Object}
use Rattle.c_meaning.specs.Examples.{at, exp, number, object, operation, statement, only, declaration, block, if_then, while_do, reach_error, return_number, change_by_one, local, function, program}

abbrev pub element : ℕ → ℕ → ℕ → Exp → Exp
element l c o i = exp Int l c (Index o (MoreExp i NoExp))

-- two elements of `int`, at file scope
abbrev pub elements : ℕ → ℕ → Object
elements l c = record { name = []; ty = Int; cells = 2; columns = 1; dims = 1; fixed = true; spot = at l c }

--  1|void reach_error() { }
--  2|int a[2];
--  3|int main() {
--  4|  int i = 0;
--  5|  while (i < 2) {
--  6|    while (1) {
--  7|      a[i] = i;
--  8|      break;
--  9|    }
-- 10|    i = i + 1;
-- 11|  }
-- 12|  if (a[1] != 1) {
-- 13|    reach_error();
-- 14|  }
-- 15|  return 0;
-- 16|}
abbrev pub fill_in_loops : Program
fill_in_loops = program UnreachCall (elements 2 5 ∷ local 4 7 ∷ []) [] (
    function (Some Int) [] (block 3 12 (
    declaration 4 3 7 1 (number 4 11 0) ∷
    while_do 5 3 (operation 5 10 Lt (object 5 10 1) (number 5 14 2)) (block 5 17 (
    while_do 6 5 (number 6 12 1) (block 6 15 (
    only 7 7 (exp Int 7 7 (Assign None (element 7 7 0 (object 7 9 1)) (object 7 14 1))) ∷
    statement 8 7 Break ∷ [])) ∷
    change_by_one 10 5 1 9 13 ∷ [])) ∷
    if_then 12 3 (operation 12 7 Ne (element 12 7 0 (number 12 9 1)) (number 12 15 1)) (block 12 18 (reach_error 13 5 17 ∷ [])) ∷
    return_number 15 3 10 0 ∷ [])) ∷ []) 0
