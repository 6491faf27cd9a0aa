-- What small programs weigh and draw, and how long their chains of calls are. Each sum is counted by hand beside it.
use Rattle.std.specs.Prelude.{◌≡◌, ℕ, zero, suc, ◌<◌, pos, true, false, List, [], ◌∷◌, None, Some}
use Rattle.c_core.specs.Tree.{Exp, Expr, Binary, Index, Assign, Step, NoExp, MoreExp, Absent, Rows, Names, NoName, MoreName, Declare, Break, Return, Switch, NoStm, MoreStm, MoreCase, Program}
use Rattle.c_core.specs.declared.number.IntType.TheVariants.{Int}
use Rattle.c_core.specs.declared.number.Property.TheVariants.{UnreachCall}
use Rattle.c_core.specs.declared.number.BinOp.TheVariants.{Add, Mul, Lt, Le, Eq}
use Rattle.c_core.specs.declared.number.StepOp.TheVariants.{PostInc}
use Rattle.c_core.specs.declared.tree.Callee.TheVariants.{Defined}
use Rattle.c_core.specs.declared.tree.Label.TheVariants.{Case, Default}
use Rattle.c_core.specs.Tree.{Logic, Var}
use Rattle.c_core.specs.declared.number.IntType.TheVariants.{UInt}
use Rattle.c_meaning.specs.Duties.{Placed}
use Rattle.c_meaning.specs.Examples.{at, exp, number, object, operation, call, statement, only, declaration, block, return_number, local, function, program, main_alone, add_to_input, count_down, count_to_ten, count_calls, step_char}
use Rattle.sym_weight.specs.Weight.{Weight, Bits, Chain, most_weight}

abbrev pub loop_invariant : ℕ → ℕ → Exp → List Placed
loop_invariant l c e = record { at_loop = true; spot = at l c; test = e } ∷ []

abbrev pub location_invariant : ℕ → ℕ → Exp → List Placed
location_invariant l c e = record { at_loop = false; spot = at l c; test = e } ∷ []

-- of count_to_ten: `0 <= x && x <= 10`, `x < 10`
abbrev pub in_bounds : Exp
in_bounds = exp Int 1 1 (Logic true (operation 1 1 Le (number 1 1 0) (object 1 6 0)) (operation 1 11 Le (object 1 11 0) (number 1 16 10)))

abbrev pub below_ten : Exp
below_ten = operation 1 1 Lt (object 1 1 0) (number 1 5 10)

-- of count_calls: `g == 0`
abbrev pub nothing_counted : Exp
nothing_counted = operation 1 1 Eq (object 1 1 0) (number 1 6 0)

-- of count_down: `x + y == n`
abbrev pub sum_kept : Exp
sum_kept = operation 1 1 Eq (exp UInt 1 1 (Binary Add (exp UInt 1 1 (Var 2)) (exp UInt 1 5 (Var 3)))) (exp UInt 1 10 (Var 1))

-- 1|int main() {
-- 2|  int a[4];
-- 3|  a[1] = 2;
-- 4|  a[0]++;
-- 5|  a[2] += 3;
-- 6|  return a[2];
-- 7|}
abbrev pub element : ℕ → ℕ → ℕ → Exp
element l c i = exp Int l c (Index 0 (MoreExp (number l c i) NoExp))

abbrev pub use_array : Program
use_array = main_alone UnreachCall (record { name = []; ty = Int; cells = 4; columns = 1; dims = 1; fixed = false; spot = at 2 7 } ∷ []) (block 1 12 (
    statement 2 3 (Declare (MoreName (at 2 7) 0 Absent NoName)) ∷
    only 3 3 (exp Int 3 3 (Assign None (element 3 3 1) (number 3 10 2))) ∷
    only 4 3 (exp Int 4 3 (Step PostInc (element 4 3 0))) ∷
    only 5 3 (exp Int 5 3 (Assign (Some Add) (element 5 3 2) (number 5 11 3))) ∷
    statement 6 3 (Return (Some (element 6 10 2))) ∷ []))

-- 1|int main() {
-- 2|  int a[2][3] = { { 1 }, { 2, 3 } };
-- 3|  a[1][2] = 7;
-- 4|}
abbrev pub use_rows : Program
use_rows = main_alone UnreachCall (record { name = []; ty = Int; cells = 6; columns = 3; dims = 2; fixed = false; spot = at 2 7 } ∷ []) (block 1 12 (
    statement 2 3 (Declare (MoreName (at 2 7) 0 (Rows (MoreExp (number 2 21 1) NoExp ∷ MoreExp (number 2 28 2) (MoreExp (number 2 31 3) NoExp) ∷ [])) NoName)) ∷
    only 3 3 (exp Int 3 3 (Assign None (exp Int 3 3 (Index 0 (MoreExp (number 3 5 1) (MoreExp (number 3 8 2) NoExp)))) (number 3 13 7))) ∷ []))

-- 1|int main() {
-- 2|  int x = 3;
-- 3|  switch (x) {
-- 4|    case 1: x = 5;
-- 5|    case 2: break;
-- 6|    default: x = 5;
-- 7|  }
-- 8|}
abbrev pub use_switch : Program
use_switch = main_alone UnreachCall (local 2 7 ∷ []) (block 1 12 (
    declaration 2 3 7 0 (number 2 11 3) ∷
    statement 3 3 (Switch (object 3 11 0) (
    MoreCase (at 4 5) (Case (pos 1)) (MoreStm (only 4 13 (exp Int 4 13 (Assign None (object 4 13 0) (number 4 17 5))))
    (MoreCase (at 5 5) (Case (pos 2)) (MoreStm (statement 5 13 Break)
    (MoreCase (at 6 5) Default (MoreStm (only 6 14 (exp Int 6 14 (Assign None (object 6 14 0) (number 6 18 5)))) NoStm))))))) ∷ []))

-- 1|void f() { }
-- 2|void g() { f(); }
-- 3|int main() {
-- 4|  f();
-- 5|  f();
-- 6|  return 0;
-- 7|}
abbrev pub call_twice : Program
call_twice = program UnreachCall [] [] (
    function None [] (block 1 10 []) ∷
    function None [] (block 2 10 (only 2 12 (call 2 12 None (Defined 0) 14) ∷ [])) ∷
    function (Some Int) [] (block 3 12 (
    only 4 3 (call 4 3 None (Defined 0) 5) ∷
    only 5 3 (call 5 3 None (Defined 0) 5) ∷
    return_number 6 3 10 0 ∷ [])) ∷ []) 2

-- a product of n factors `x` and one more
abbrev pub product : ℕ → Exp
product zero = object 3 3 0
product (suc n) = operation 3 3 Mul (product n) (object 3 3 0)

-- 1|int main() {
-- 2|  int x = 3;
-- 3|  x * x * .. * x;
-- 4|}
abbrev pub multiply : ℕ → Program
multiply n = main_alone UnreachCall (local 2 7 ∷ []) (block 1 12 (declaration 2 3 7 0 (number 2 11 3) ∷ only 3 3 (product n) ∷ []))

pub record ExampleWeights : Type 0 where
  -- body 64; declaration 64 + 32 + 16 + (32 + 32); step 64 + 16 + 16 + 8 + 640 + 32 + 32; return 64 + 16 + 128
  pub step_of_a_char : Weight step_char [] ≡ 1256
  -- body 64; declaration 64 + 128 + 16 + 64 + 128; sum 64 + 16 + 512 + 16 + 16; return 208
  pub an_input : Weight (add_to_input UnreachCall) [] ≡ 1296
  pub bits_of_an_input : Bits (add_to_input UnreachCall) ≡ 32
  -- body 64; declaration 336; loop 64 + 128 + (560 + 32) + 64 + (64 + 16 + 128 + 16 + 560); `if` 64 + 592 + 64 + 144; return 208
  pub a_loop : Weight (count_to_ten UnreachCall) [] ≡ 3104
  pub bits_of_a_loop : Bits (count_to_ten UnreachCall) ≡ 32
  -- three times 64 + (16 + 64 + 560 + 560) + 32 more
  pub a_loop_invariant : Weight (count_to_ten UnreachCall) (loop_invariant 4 3 in_bounds) ≡ 6992
  -- 64 + 560 + 32 more at a statement, and nothing at a place where none is
  pub a_location_invariant : Weight (count_to_ten UnreachCall) (location_invariant 5 5 below_ten) ≡ 3760
  pub no_place : Weight (count_to_ten UnreachCall) (location_invariant 5 6 below_ten) ≡ 3104
  -- `h` 64 + 784; `f` 64 + 64 + 80 + 848; main 64 + 336 + (64 + 3 * 656 + 256 + 592 + 64 + (64 + 80 + 1056) + 784) + 864 + 208
  pub calls : Weight count_calls (loop_invariant 7 3 nothing_counted) ≡ 6400
  pub bits_of_statics : Bits count_calls ≡ 64
  pub a_chain : Chain count_calls ≡ 2
  -- the assertion 64 + 640 + 64; main 64 + 400 + 640 + (64 + 3 * 1200 + 256 + 624 + 64 + 864 + 864) + (64 + 80 + 560 + 128 + 768)
  pub an_argument : Weight count_down (loop_invariant 17 3 sum_kept) ≡ 9040
  pub bits_of_two : Bits count_down ≡ 96
  -- an element 4 * 144 + 256 = 832: declaration 64 + 512; 64 + 16 + 832 + 16 + 16 + 16; 64 + 16 + 640 + 1664 + 16 + 16; 64 + 16 + 512 + 1664 + 16 + 16 + 16; 64 + 16 + 832 + 16 + 128
  pub an_array : Weight use_array [] ≡ 7376
  pub bits_of_an_array : Bits use_array ≡ 128
  -- an element 6 * 144 + 512 = 1376; declaration 64 + 768 + 3 * (16 + 128); 64 + 16 + 1376 + 16 + 16 + 16 + 16
  pub two_dimensions : Weight use_rows [] ≡ 2848
  pub bits_of_two_dimensions : Bits use_rows ≡ 0
  -- body 64; declaration 64 + 128 + 16 + 128; switch 64 + 16 + 2 * (512 + 64); 64 + 16 + 128 + 16 + 16, `break` 64, and the same once more
  pub a_switch : Weight use_switch [] ≡ 2176
  -- each call 64 + 80 + 64, and nothing for a function that is not called
  pub two_calls : Weight call_twice [] ≡ 688
  pub one_deep : Chain call_twice ≡ 1
  -- 464 + 62 * (16 + 32 * 1024) + 63 * 16
  pub too_heavy : Weight (multiply 62) [] ≡ 2034080
  pub not_too_heavy : Weight (multiply 60) [] ≡ 1968480
