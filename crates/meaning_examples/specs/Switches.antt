-- Programs beside the examples of c_meaning: with a `switch`, and with an array of two dimensions.
use Rattle.std.specs.Prelude.{ℕ, ◌+◌, pos, false, List, [], ◌∷◌, None}
use Rattle.c_core.specs.Tree.{Exp, NoExp, MoreExp, Assign, Index, Rows, NoName, MoreName, Declare, Break, Continue, Switch, Stm, Stms, NoStm, MoreCase, Program}
use Rattle.c_core.specs.View.{joined}
use Rattle.c_core.specs.declared.number.IntType.TheVariants.{Int}
use Rattle.c_core.specs.declared.number.Property.TheVariants.{UnreachCall}
use Rattle.c_core.specs.declared.number.BinOp.TheVariants.{Add, Lt, Eq}
use Rattle.c_core.specs.declared.tree.Label.{Label}
use Rattle.c_core.specs.declared.tree.Label.TheVariants.{Case, Default}
use Rattle.c_core.specs.declared.tree.Object.{Object}
use Rattle.c_meaning.specs.Examples.{at, exp, number, object, operation, statement, statements, only, declaration, block, if_then, while_do, reach_error, return_number, change_by_one, int_input, local, main_alone}

-- an arm with these statements, and the arms after it
abbrev pub arm : ℕ → ℕ → Label → List Stm → Stms → Stms
arm l c label body rest = MoreCase (at l c) label (joined (statements body) rest)

--  1|void reach_error() { }
--  2|int __VERIFIER_nondet_int();
--  3|int main() {
--  4|  int x = __VERIFIER_nondet_int();
--  5|  int y = 0;
--  6|  switch (x) {
--  7|    case 1: y = y + 1;
--  8|    case 2: y = y + 1; break;
--  9|    default: y = 5;
-- 10|  }
-- 11|  if (y == 2) {
-- 12|    reach_error();
-- 13|  }
-- 14|  return 0;
-- 15|}
abbrev pub fall_through : Program
fall_through = main_alone UnreachCall (local 4 7 ∷ local 5 7 ∷ []) (block 3 12 (
    declaration 4 3 7 0 (int_input 4 11 33) ∷
    declaration 5 3 7 1 (number 5 11 0) ∷
    statement 6 3 (Switch (object 6 11 0) (
    arm 7 5 (Case (pos 1)) (change_by_one 7 13 1 17 21 ∷ []) (
    arm 8 5 (Case (pos 2)) (change_by_one 8 13 1 17 21 ∷ statement 8 24 Break ∷ []) (
    arm 9 5 Default (only 9 14 (exp Int 9 14 (Assign None (object 9 14 1) (number 9 18 5))) ∷ []) NoStm)))) ∷
    if_then 11 3 (operation 11 7 Eq (object 11 7 1) (number 11 12 2)) (block 11 15 (reach_error 12 5 17 ∷ [])) ∷
    return_number 14 3 10 0 ∷ []))

--  1|int main() {
--  2|  int i = 0;
--  3|  while (i < 3) {
--  4|    switch (i) {
--  5|      case 0: i = i + 1; continue;
--  6|      case 1: break;
--  7|    }
--  8|    i = i + 1;
--  9|  }
-- 10|  return 0;
-- 11|}
abbrev pub switch_in_loop : Program
switch_in_loop = main_alone UnreachCall (local 2 7 ∷ []) (block 1 12 (
    declaration 2 3 7 0 (number 2 11 0) ∷
    while_do 3 3 (operation 3 10 Lt (object 3 10 0) (number 3 14 3)) (block 3 17 (
    statement 4 5 (Switch (object 4 13 0) (
    arm 5 7 (Case (pos 0)) (change_by_one 5 15 0 19 23 ∷ statement 5 26 Continue ∷ []) (
    arm 6 7 (Case (pos 1)) (statement 6 15 Break ∷ []) NoStm))) ∷
    change_by_one 8 5 0 9 13 ∷ [])) ∷
    return_number 10 3 10 0 ∷ []))

-- two rows of three columns of `int`
abbrev pub table : ℕ → ℕ → Object
table l c = record { name = []; ty = Int; cells = 6; columns = 3; dims = 2; fixed = false; spot = at l c }

-- `a[i][j]` of object 0, with the columns of its indexes
abbrev pub in_table : ℕ → ℕ → ℕ → ℕ → Exp
in_table l c i j = exp Int l c (Index 0 (MoreExp (number l (c + 2) i) (MoreExp (number l (c + 5) j) NoExp)))

-- 1|void reach_error() { }
-- 2|int main() {
-- 3|  int a[2][3] = {{1}, {2, 3}};
-- 4|  a[i][j] = 7;
-- 5|  if (a[0][1] + a[1][1] == 3) {
-- 6|    reach_error();
-- 7|  }
-- 8|  return 0;
-- 9|}
abbrev pub rows_and_columns : ℕ → ℕ → Program
rows_and_columns i j = main_alone UnreachCall (table 3 7 ∷ []) (block 2 12 (
    statement 3 3 (Declare (MoreName (at 3 7) 0 (Rows (MoreExp (number 3 19 1) NoExp ∷ MoreExp (number 3 24 2) (MoreExp (number 3 27 3) NoExp) ∷ [])) NoName)) ∷
    only 4 3 (exp Int 4 3 (Assign None (in_table 4 3 i j) (number 4 13 7))) ∷
    if_then 5 3 (operation 5 7 Eq (operation 5 7 Add (in_table 5 7 0 1) (in_table 5 17 1 1)) (number 5 28 3)) (block 5 31 (reach_error 6 5 17 ∷ [])) ∷
    return_number 8 3 10 0 ∷ []))
