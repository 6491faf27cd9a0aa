-- Programs beside the examples of c_meaning: loops that are left and tested in each way, calls within calls, values left open.
use Rattle.std.specs.Prelude.{ℕ, pos, [], ◌∷◌, Some, None}
use Rattle.c_core.specs.Tree.{Expr, Choose, Assign, Absent, NoName, MoreName, NoFirst, FirstNames, Declare, For, DoWhile, Break, Continue, Switch, NoStm, Stm, Program}
use Rattle.c_core.specs.declared.number.IntType.TheVariants.{Int}
use Rattle.c_core.specs.declared.number.Property.TheVariants.{UnreachCall, NoOverflow}
use Rattle.c_core.specs.declared.number.BinOp.TheVariants.{Add, Lt, Gt, Eq}
use Rattle.c_core.specs.declared.tree.Callee.TheVariants.{Defined, ReachError, Abort}
use Rattle.c_core.specs.declared.tree.Label.TheVariants.{Case}
use Rattle.c_meaning.specs.Examples.{at, exp, number, object, operation, call, int_input, statement, only, declared, declaration, block, if_then, while_do, reach_error, return_number, change_by_one, local, function, program, main_alone}
use Rattle.meaning_examples.specs.Switches.{arm}

--  1|void reach_error() { }
--  2|int main() {
--  3|  int i = 0;
--  4|  while (1) {
--  5|    i = i + 1;
--  6|    if (i == 2) {
--  7|      break;
--  8|    }
--  9|  }
-- 10|  reach_error();
-- 11|  return 0;
-- 12|}
abbrev pub leave_early : Program
leave_early = main_alone UnreachCall (local 3 7 ∷ []) (block 2 12 (
    declaration 3 3 7 0 (number 3 11 0) ∷
    while_do 4 3 (number 4 10 1) (block 4 13 (
    change_by_one 5 5 0 9 13 ∷
    if_then 6 5 (operation 6 9 Eq (object 6 9 0) (number 6 14 2)) (block 6 17 (statement 7 7 Break ∷ [])) ∷ [])) ∷
    reach_error 10 3 15 ∷
    return_number 11 3 10 0 ∷ []))

-- 1|void reach_error() { }
-- 2|int main() {
-- 3|  int i = 0;
-- 4|  do {
-- 5|    i = i + 1;
-- 6|  } while (i < 2);
-- 7|  reach_error();
-- 8|  return 0;
-- 9|}
abbrev pub do_twice : Program
do_twice = main_alone UnreachCall (local 3 7 ∷ []) (block 2 12 (
    declaration 3 3 7 0 (number 3 11 0) ∷
    statement 4 3 (DoWhile (block 4 6 (change_by_one 5 5 0 9 13 ∷ [])) (operation 6 12 Lt (object 6 12 0) (number 6 16 2))) ∷
    reach_error 7 3 15 ∷
    return_number 8 3 10 0 ∷ []))

-- 1|void reach_error() { }
-- 2|int main() {
-- 3|  for (int i = 0; i < 2; i = i + 1) {
-- 4|    for (int j = 0; j < 2; j = j + 1) { }
-- 5|  }
-- 6|  reach_error();
-- 7|  return 0;
-- 8|}
abbrev pub loop_in_loop : Program
loop_in_loop = main_alone UnreachCall (local 3 12 ∷ local 4 14 ∷ []) (block 2 12 (
    counting 3 3 12 0 19 23 26 (block 3 38 (counting 4 5 14 1 21 25 28 (block 4 40 []) ∷ [])) ∷
    reach_error 6 3 15 ∷
    return_number 7 3 10 0 ∷ []))
  where
    -- `for (int i = 0; i < 2; i = i + 1)`, with the columns of the name, the test, its 2 and the step
    counting : ℕ → ℕ → ℕ → ℕ → ℕ → ℕ → ℕ → Stm → Stm
    counting l c name o test two step body = statement l c (For (FirstNames (declared l name o (number l name 0) NoName)) (Some (operation l test Lt (object l test o) (number l two 2)))
        (Some (exp Int l step (Assign None (object l step o) (operation l step Add (object l step o) (number l step 1))))) body)

-- 1|void reach_error() { }
-- 2|int main() {
-- 3|  int i = 0;
-- 4|  for (;;) {
-- 5|    i = i + 1;
-- 6|    if (i == 2) {
-- 7|      reach_error();
-- 8|    }
-- 9|  }
-- 10|}
abbrev pub without_test : Program
without_test = main_alone UnreachCall (local 3 7 ∷ []) (block 2 12 (
    declaration 3 3 7 0 (number 3 11 0) ∷
    statement 4 3 (For NoFirst None None (block 4 12 (
    change_by_one 5 5 0 9 13 ∷
    if_then 6 5 (operation 6 9 Eq (object 6 9 0) (number 6 14 2)) (block 6 17 (reach_error 7 7 19 ∷ [])) ∷ []))) ∷ []))

-- 1|int main() {
-- 2|  int x = 2147483646;
-- 3|  while (x + 1 > 0) {
-- 4|    x = x + 1;
-- 5|  }
-- 6|  return 0;
-- 7|}
abbrev pub overflow_in_test : Program
overflow_in_test = main_alone NoOverflow (local 2 7 ∷ []) (block 1 12 (
    declaration 2 3 7 0 (number 2 11 2147483646) ∷
    while_do 3 3 (operation 3 10 Gt (operation 3 10 Add (object 3 10 0) (number 3 14 1)) (number 3 18 0)) (block 3 21 (change_by_one 4 5 0 9 13 ∷ [])) ∷
    return_number 6 3 10 0 ∷ []))

--  1|void reach_error() { }
--  2|int main() {
--  3|  int i = 0;
--  4|  while (i < 3) {
--  5|    switch (i) {
--  6|      case 0: i = i + 1; continue;
--  7|      case 1: break;
--  8|    }
--  9|    i = i + 1;
-- 10|  }
-- 11|  reach_error();
-- 12|  return 0;
-- 13|}
abbrev pub error_after_switches : Program
error_after_switches = main_alone UnreachCall (local 3 7 ∷ []) (block 2 12 (
    declaration 3 3 7 0 (number 3 11 0) ∷
    while_do 4 3 (operation 4 10 Lt (object 4 10 0) (number 4 14 3)) (block 4 17 (
    statement 5 5 (Switch (object 5 13 0) (
    arm 6 7 (Case (pos 0)) (change_by_one 6 15 0 19 23 ∷ statement 6 26 Continue ∷ []) (
    arm 7 7 (Case (pos 1)) (statement 7 15 Break ∷ []) NoStm))) ∷
    change_by_one 9 5 0 9 13 ∷ [])) ∷
    reach_error 11 3 15 ∷
    return_number 12 3 10 0 ∷ []))

-- 1|void reach_error() { }
-- 2|void f() { }
-- 3|void g() { f(); }
-- 4|int main() {
-- 5|  g();
-- 6|  g();
-- 7|  reach_error();
-- 8|  return 0;
-- 9|}
abbrev pub call_in_call : Program
call_in_call = program UnreachCall [] [] (
    function None [] (block 2 10 []) ∷
    function None [] (block 3 10 (only 3 12 (call 3 12 None (Defined 0) 14) ∷ [])) ∷
    function (Some Int) [] (block 4 12 (
    only 5 3 (call 5 3 None (Defined 1) 5) ∷
    only 6 3 (call 6 3 None (Defined 1) 5) ∷
    reach_error 7 3 15 ∷
    return_number 8 3 10 0 ∷ [])) ∷ []) 2

-- 1|void reach_error() { }
-- 2|int f() { }
-- 3|int main() {
-- 4|  f();
-- 5|  reach_error();
-- 6|  return 0;
-- 7|}
abbrev pub no_value_given : Program
no_value_given = program UnreachCall [] [] (
    function (Some Int) [] (block 2 9 []) ∷
    function (Some Int) [] (block 3 12 (
    only 4 3 (call 4 3 (Some Int) (Defined 0) 5) ∷
    reach_error 5 3 15 ∷
    return_number 6 3 10 0 ∷ [])) ∷ []) 1

-- 1|void reach_error() { }
-- 2|int main() {
-- 3|  int x;
-- 4|  if (x == 7) {
-- 5|    reach_error();
-- 6|  }
-- 7|  return 0;
-- 8|}
abbrev pub open_cell : Program
open_cell = main_alone UnreachCall (local 3 7 ∷ []) (block 2 12 (
    statement 3 3 (Declare (MoreName (at 3 7) 0 Absent NoName)) ∷
    if_then 4 3 (operation 4 7 Eq (object 4 7 0) (number 4 12 7)) (block 4 15 (reach_error 5 5 17 ∷ [])) ∷
    return_number 7 3 10 0 ∷ []))

-- 1|void reach_error() { }
-- 2|int __VERIFIER_nondet_int();
-- 3|int main() {
-- 4|  __VERIFIER_nondet_int() ? reach_error() : abort();
-- 5|  return 0;
-- 6|}
abbrev pub error_or_abort : Program
error_or_abort = main_alone UnreachCall [] (block 3 12 (
    only 4 3 (Expr (at 4 3) None (Choose (at 4 27) (int_input 4 3 25) (call 4 29 None ReachError 41) (call 4 45 None Abort 51))) ∷
    return_number 5 3 10 0 ∷ []))
