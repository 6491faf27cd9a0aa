-- One program for each way in which a part of the invariant holds or fails.
use Rattle.std.specs.Prelude.{◌≡◌, ℕ, ◌+◌, pos, Bool, true, false, List, [], ◌∷◌, Some, None}
use Rattle.c_core.specs.Tree as t
use Rattle.c_core.specs.Parts.{spot_of}
use Rattle.c_core.specs.Program.{objects_fit, cells_fit, objects_rise, names_in_place, starts_fit, starts_differ, has_main, params_fit, types_fit, names_known, owned_once, names_in_reach, blocks_fit, jumps_fit, places_rise}
use Rattle.c_core.specs.declared.number.Spot.{Spot}
use Rattle.c_core.specs.declared.number.IntType.{IntType}
use Rattle.c_core.specs.declared.number.IntType.TheVariants.{Int, UInt, Char, UChar}
use Rattle.c_core.specs.declared.number.DataModel.TheVariants.{Ilp32}
use Rattle.c_core.specs.declared.number.Property.TheVariants.{UnreachCall}
use Rattle.c_core.specs.declared.number.BinOp.TheVariants as b
use Rattle.c_core.specs.declared.number.UnOp.TheVariants as u
use Rattle.c_core.specs.declared.number.StepOp.TheVariants as s
use Rattle.c_core.specs.declared.tree.Callee.TheVariants as c
use Rattle.c_core.specs.declared.tree.Label.{Label}
use Rattle.c_core.specs.declared.tree.Label.TheVariants as l
use Rattle.c_core.specs.declared.tree.Object.{Object}
use Rattle.c_core.specs.declared.tree.Start.{Start}

abbrev pub at : ℕ → ℕ → Spot
at l c = record { line = l; column = c }

-- type, dimensions, cells, columns, fixed, column on line 2
abbrev pub shaped : IntType → ℕ → ℕ → ℕ → Bool → ℕ → Object
shaped ty dims cells columns fixed c = record { name = []; ty = ty; cells = cells; columns = columns; dims = dims; fixed = fixed; spot = at 2 c }

-- of one dimension at most
abbrev pub object : IntType → ℕ → ℕ → Bool → ℕ → Object
object ty dims cells fixed c = shaped ty dims cells 1 fixed c

-- `int x`, `int a[3]`, `static unsigned char g`
abbrev pub the_objects : List Object
the_objects = object Int 0 1 false 7 ∷ object Int 1 3 false 10 ∷ object UChar 0 1 true 13 ∷ []

-- `int main` with these parameters
abbrev pub main_with : List ℕ → t.Stm → t.Program
main_with params b = record {
  model = Ilp32;
  property = UnreachCall;
  objects = the_objects;
  starts = [];
  functions = record { result = Some Int; params = params; body = b } ∷ [];
  main = 0;
}

abbrev pub main_of : t.Stms → t.Program
main_of b = main_with [] (t.Stmt (at 1 12) (t.Block b))

abbrev pub with_objects : List Object → t.Program
with_objects os = record (main_of t.NoStm) { objects = os }

abbrev pub with_starts : List Start → t.Program
with_starts ss = record (main_of t.NoStm) { starts = ss }

-- `main` of one statement, and of two
abbrev pub one : t.Stm → t.Program
one s = main_of (t.MoreStm s t.NoStm)

abbrev pub two : t.Stm → t.Stm → t.Program
two s s' = main_of (t.MoreStm s (t.MoreStm s' t.NoStm))

-- expressions at columns of line 3
abbrev pub int : ℕ → t.Node → t.Exp
int c n = t.Expr (at 3 c) (Some Int) n

abbrev pub number : ℕ → ℕ → t.Exp
number c v = int c (t.Const (pos v))

abbrev pub unsigned : ℕ → ℕ → t.Exp
unsigned c v = t.Expr (at 3 c) (Some UInt) (t.Const (pos v))

abbrev pub x : ℕ → t.Exp
x c = int c (t.Var 0)

abbrev pub plus : ℕ → t.Exp → t.Exp → t.Exp
plus c e e' = int c (t.Binary b.Add e e')

-- `abort()`
abbrev pub void : ℕ → t.Exp
void n = t.Expr (at 3 n) None (t.Call c.Abort t.NoExp (at 3 (n + 6)))

-- `e;`
abbrev pub line : t.Exp → t.Stm
line e = t.Stmt (spot_of e) (t.Do e)

-- `int x;`
abbrev pub int_x : t.Stm
int_x = t.Stmt (at 2 3) (t.Declare (t.MoreName (at 2 7) 0 t.Absent t.NoName))

abbrev pub block : t.Stm → t.Stm
block s = t.Stmt (at 2 1) (t.Block (t.MoreStm s t.NoStm))

-- `int m[2][3]`, and a statement
abbrev pub with_table : t.Stm → t.Program
with_table s = record (one s) { objects = shaped Int 2 6 3 false 7 ∷ [] }

-- an element of object 0
abbrev pub element : t.Exps → t.Stm
element is = line (int 3 (t.Index 0 is))

-- the declaration of object 0 with an initializer
abbrev pub declared : t.Init → t.Stm
declared i = t.Stmt (at 2 3) (t.Declare (t.MoreName (at 2 7) 0 i t.NoName))

abbrev pub numbers : List ℕ → t.Exps
numbers [] = t.NoExp
numbers (n ∷ ns) = t.MoreExp (number 12 n) (numbers ns)

-- `switch (x)`, and an arm at a column
abbrev pub switch : t.Stms → t.Stm
switch b = t.Stmt (at 3 3) (t.Switch (x 11) b)

abbrev pub arm : ℕ → Label → t.Stms → t.Stms
arm c label b = t.MoreCase (at 3 c) label b

-- how each part judges them
pub record JudgedPrograms : Type 0 where
  pub a_scalar_and_an_array : objects_fit (main_of t.NoStm) ≡ true
  pub array_without_cell : objects_fit (with_objects (object Int 1 0 false 7 ∷ [])) ≡ false
  pub scalar_of_two_cells : objects_fit (with_objects (object Int 0 2 false 7 ∷ [])) ≡ false
  pub a_table : objects_fit (with_objects (shaped Int 2 6 3 false 7 ∷ [])) ≡ true
  pub no_whole_rows : objects_fit (with_objects (shaped Int 2 7 3 false 7 ∷ [])) ≡ false
  pub columns_of_a_list : objects_fit (with_objects (shaped Int 1 6 3 false 7 ∷ [])) ≡ false
  pub no_column : objects_fit (with_objects (shaped Int 2 6 0 false 7 ∷ [])) ≡ false
  pub three_dimensions : objects_fit (with_objects (shaped Int 3 6 3 false 7 ∷ [])) ≡ false
  pub all_cells : cells_fit (with_objects (object Int 1 99999 false 7 ∷ object Int 0 1 false 9 ∷ [])) ≡ true
  pub too_many_cells : cells_fit (with_objects (object Int 1 100000 false 7 ∷ object Int 0 1 false 9 ∷ [])) ≡ false
  pub in_order_of_declarations : objects_rise (main_of t.NoStm) ≡ true
  pub numbered_otherwise : objects_rise (with_objects (object Int 0 1 false 9 ∷ object Int 0 1 false 7 ∷ [])) ≡ false
  pub start_of_255 : starts_fit (with_starts (record { object = 2; values = (pos 255 ∷ []) } ∷ [])) ≡ true
  pub start_of_256 : starts_fit (with_starts (record { object = 2; values = (pos 256 ∷ []) } ∷ [])) ≡ false
  pub start_of_two_values : starts_fit (with_starts (record { object = 2; values = (pos 1 ∷ pos 2 ∷ []) } ∷ [])) ≡ false
  pub start_of_automatic : starts_fit (with_starts (record { object = 0; values = (pos 1 ∷ []) } ∷ [])) ≡ false
  pub start_of_unknown : starts_fit (with_starts (record { object = 9; values = [] } ∷ [])) ≡ false
  pub two_starts : starts_differ (with_starts (record { object = 2; values = (pos 1 ∷ []) } ∷ record { object = 2; values = (pos 2 ∷ []) } ∷ [])) ≡ false
  pub main : has_main (main_of t.NoStm) ≡ true
  pub no_main : has_main (record (main_of t.NoStm) { main = 1 }) ≡ false
  pub main_with_parameter : has_main (main_with (0 ∷ []) (t.Stmt (at 1 12) (t.Block t.NoStm))) ≡ false
  pub scalar_parameter : params_fit (main_with (0 ∷ []) (t.Stmt (at 1 12) (t.Block t.NoStm))) ≡ true
  pub array_parameter : params_fit (main_with (1 ∷ []) (t.Stmt (at 1 12) (t.Block t.NoStm))) ≡ false
  pub unknown_parameter : params_fit (main_with (9 ∷ []) (t.Stmt (at 1 12) (t.Block t.NoStm))) ≡ false
  pub parameter_in_reach : names_in_reach (main_with (0 ∷ []) (t.Stmt (at 1 12) (t.Block (t.MoreStm (line (x 3)) t.NoStm)))) ≡ true
  pub parameter_declared_too : owned_once (main_with (0 ∷ 1 ∷ []) (t.Stmt (at 1 12) (t.Block (t.MoreStm int_x t.NoStm)))) ≡ false
  pub body_without_block : blocks_fit (main_with [] (t.Stmt (at 1 12) t.Empty)) ≡ false
  pub adds : types_fit (one (line (plus 3 (x 3) (number 7 1)))) ≡ true
  pub void_operand : types_fit (one (line (plus 3 (x 3) (void 7)))) ≡ false
  pub sum_typed_unsigned : types_fit (one (line (t.Expr (at 3 3) (Some UInt) (t.Binary b.Add (x 3) (number 7 1))))) ≡ false
  pub sum_with_unsigned : types_fit (one (line (t.Expr (at 3 3) (Some UInt) (t.Binary b.Add (x 3) (unsigned 7 1))))) ≡ true
  pub comparison_with_unsigned : types_fit (one (line (int 3 (t.Binary b.Lt (x 3) (unsigned 7 1))))) ≡ true
  pub shift_by_unsigned : types_fit (one (line (int 3 (t.Binary b.Shl (x 3) (unsigned 8 1))))) ≡ true
  pub greatest_constant : types_fit (one (line (number 3 2147483647))) ≡ true
  pub constant_too_large : types_fit (one (line (number 3 2147483648))) ≡ false
  pub constant_of_char : types_fit (one (line (t.Expr (at 3 3) (Some Char) (t.Const (pos 1))))) ≡ false
  pub void_constant : types_fit (one (line (t.Expr (at 3 3) None (t.Const (pos 1))))) ≡ false
  pub an_element : types_fit (one (line (int 3 (t.Index 1 (t.MoreExp (number 5 1) t.NoExp))))) ≡ true
  pub array_without_index : types_fit (one (line (int 3 (t.Var 1)))) ≡ false
  pub index_on_scalar : types_fit (one (line (int 3 (t.Index 0 (t.MoreExp (number 5 1) t.NoExp))))) ≡ false
  pub void_index : types_fit (one (line (int 3 (t.Index 1 (t.MoreExp (void 5) t.NoExp))))) ≡ false
  pub unknown_object : types_fit (one (line (int 3 (t.Var 9)))) ≡ false
  pub object_of_other_type : types_fit (one (line (t.Expr (at 3 3) (Some UInt) (t.Var 0)))) ≡ false
  pub negation_promotes : types_fit (one (line (int 3 (t.Unary u.Neg (t.Expr (at 3 4) (Some Char) (t.Cast (x 10))))))) ≡ true
  pub negation_typed_char : types_fit (one (line (t.Expr (at 3 3) (Some Char) (t.Unary u.Neg (t.Expr (at 3 4) (Some Char) (t.Cast (x 10))))))) ≡ false
  pub not_of_unsigned : types_fit (one (line (int 3 (t.Unary u.Not (unsigned 4 1))))) ≡ true
  pub cast_to_void : types_fit (one (line (t.Expr (at 3 3) None (t.Cast (void 9))))) ≡ true
  pub cast_of_void : types_fit (one (line (int 3 (t.Cast (void 9))))) ≡ false
  pub step : types_fit (one (line (int 3 (t.Step s.PostInc (x 3))))) ≡ true
  pub step_of_constant : types_fit (one (line (int 3 (t.Step s.PostInc (number 3 1))))) ≡ false
  pub logic : types_fit (one (line (int 3 (t.Logic true (x 3) (number 8 1))))) ≡ true
  pub logic_of_void : types_fit (one (line (int 3 (t.Logic true (x 3) (void 8))))) ≡ false
  pub void_arms : types_fit (one (line (t.Expr (at 3 3) None (t.Choose (at 3 5) (x 3) (void 7) (void 17))))) ≡ true
  pub one_void_arm : types_fit (one (line (int 3 (t.Choose (at 3 5) (x 3) (void 7) (number 17 1))))) ≡ false
  pub comma_behind_void : types_fit (one (line (int 3 (t.Comma (void 3) (x 12))))) ≡ true
  pub assigns_element : types_fit (one (line (int 3 (t.Assign None (int 3 (t.Index 1 (t.MoreExp (number 5 1) t.NoExp))) (number 10 1))))) ≡ true
  pub assigns_sum : types_fit (one (line (int 3 (t.Assign None (plus 3 (x 3) (number 7 1)) (number 11 1))))) ≡ false
  pub assigns_void : types_fit (one (line (int 3 (t.Assign None (x 3) (void 7))))) ≡ false
  pub exit_with_status : types_fit (one (line (t.Expr (at 3 3) None (t.Call c.Exit (t.MoreExp (number 8 1) t.NoExp) (at 3 9))))) ≡ true
  pub exit_without_status : types_fit (one (line (t.Expr (at 3 3) None (t.Call c.Exit t.NoExp (at 3 8))))) ≡ false
  pub abort_with_status : types_fit (one (line (t.Expr (at 3 3) None (t.Call c.Abort (t.MoreExp (number 9 1) t.NoExp) (at 3 10))))) ≡ false
  pub input : types_fit (one (line (t.Expr (at 3 3) (Some UInt) (t.Call (c.Input UInt) t.NoExp (at 3 27))))) ≡ true
  pub input_of_other_type : types_fit (one (line (t.Expr (at 3 3) (Some Int) (t.Call (c.Input UInt) t.NoExp (at 3 27))))) ≡ false
  pub call_of_main : types_fit (one (line (t.Expr (at 3 3) (Some Int) (t.Call (c.Defined 0) t.NoExp (at 3 8))))) ≡ true
  pub call_with_too_many : types_fit (one (line (t.Expr (at 3 3) (Some Int) (t.Call (c.Defined 0) (t.MoreExp (number 8 1) t.NoExp) (at 3 9))))) ≡ false
  pub call_of_unknown : types_fit (one (line (t.Expr (at 3 3) (Some Int) (t.Call (c.Defined 1) t.NoExp (at 3 8))))) ≡ false
  pub return_without_value : types_fit (one (t.Stmt (at 3 3) (t.Return None))) ≡ false
  pub return_of_void : types_fit (one (t.Stmt (at 3 3) (t.Return (Some (void 10))))) ≡ false
  pub void_test : types_fit (one (t.Stmt (at 3 3) (t.While (void 10) (t.Stmt (at 3 19) t.Empty)))) ≡ false
  pub endless_for : types_fit (one (t.Stmt (at 3 3) (t.For t.NoFirst None None (t.Stmt (at 3 12) t.Empty)))) ≡ true
  pub void_test_of_for : types_fit (one (t.Stmt (at 3 3) (t.For t.NoFirst (Some (void 9)) None (t.Stmt (at 3 19) t.Empty)))) ≡ false
  pub list_for_array : types_fit (one (t.Stmt (at 2 3) (t.Declare (t.MoreName (at 2 10) 1 (t.Many (t.MoreExp (number 12 1) (t.MoreExp (number 14 2) (t.MoreExp (number 16 3) t.NoExp)))) t.NoName)))) ≡ true
  pub list_too_long : types_fit (one (t.Stmt (at 2 3) (t.Declare (t.MoreName (at 2 10) 1 (t.Many (t.MoreExp (number 12 1) (t.MoreExp (number 14 2) (t.MoreExp (number 16 3) (t.MoreExp (number 18 4) t.NoExp))))) t.NoName)))) ≡ false
  pub list_for_scalar : types_fit (one (t.Stmt (at 2 3) (t.Declare (t.MoreName (at 2 7) 0 (t.Many (t.MoreExp (number 12 1) t.NoExp)) t.NoName)))) ≡ false
  pub value_for_array : types_fit (one (t.Stmt (at 2 3) (t.Declare (t.MoreName (at 2 10) 1 (t.One (number 14 1)) t.NoName)))) ≡ false
  pub names_declared : names_in_reach (two int_x (line (x 3))) ≡ true
  pub names_fixed : names_in_reach (one (line (int 3 (t.Var 2)))) ≡ true
  pub names_undeclared : names_in_reach (two (line (x 3)) int_x) ≡ false
  pub names_behind_block : names_in_reach (two (block int_x) (line (x 3))) ≡ false
  pub names_in_inner_block : names_in_reach (two int_x (block (line (x 3)))) ≡ true
  pub names_itself : names_in_reach (one (t.Stmt (at 2 3) (t.Declare (t.MoreName (at 2 7) 0 (t.One (x 11)) t.NoName)))) ≡ false
  pub names_in_next_initializer : names_in_reach (one (t.Stmt (at 2 3) (t.Declare (t.MoreName (at 2 7) 0 t.Absent (t.MoreName (at 2 10) 1 (t.Many (t.MoreExp (x 19) t.NoExp)) t.NoName))))) ≡ true
  pub names_in_for : names_in_reach (one (t.Stmt (at 3 3) (t.For (t.FirstNames (t.MoreName (at 3 12) 0 t.Absent t.NoName)) (Some (x 15)) None (line (x 20))))) ≡ true
  pub names_behind_for : names_in_reach (two (t.Stmt (at 3 3) (t.For (t.FirstNames (t.MoreName (at 3 12) 0 t.Absent t.NoName)) None None (t.Stmt (at 3 15) t.Empty))) (line (x 20))) ≡ false
  pub each_declared : owned_once (one (t.Stmt (at 2 3) (t.Declare (t.MoreName (at 2 7) 0 t.Absent (t.MoreName (at 2 10) 1 t.Absent t.NoName))))) ≡ true
  pub one_not_declared : owned_once (one int_x) ≡ false
  pub declared_twice : owned_once (two (t.Stmt (at 2 3) (t.Declare (t.MoreName (at 2 7) 0 t.Absent (t.MoreName (at 2 10) 1 t.Absent t.NoName)))) int_x) ≡ false
  pub fixed_declared : owned_once (one (t.Stmt (at 2 3) (t.Declare (t.MoreName (at 2 7) 0 t.Absent (t.MoreName (at 2 10) 1 t.Absent (t.MoreName (at 2 13) 2 t.Absent t.NoName)))))) ≡ false
  pub declares_known : names_known (one int_x) ≡ true
  pub declares_unknown : names_known (one (t.Stmt (at 2 3) (t.Declare (t.MoreName (at 2 7) 9 t.Absent t.NoName)))) ≡ false
  pub declared_there : names_in_place (one int_x) ≡ true
  pub declared_elsewhere : names_in_place (one (t.Stmt (at 2 3) (t.Declare (t.MoreName (at 2 8) 0 t.Absent t.NoName)))) ≡ false
  pub declaration_in_arm : blocks_fit (one (t.Stmt (at 3 3) (t.If (number 7 1) int_x t.NoElse))) ≡ false
  pub declaration_in_else : blocks_fit (one (t.Stmt (at 3 3) (t.If (number 7 1) (t.Stmt (at 3 10) t.Empty) (t.OrElse int_x)))) ≡ false
  pub declaration_in_loop : blocks_fit (one (t.Stmt (at 3 3) (t.While (number 7 1) int_x))) ≡ false
  pub declaration_in_do : blocks_fit (one (t.Stmt (at 3 3) (t.DoWhile int_x (number 17 1)))) ≡ false
  pub declaration_in_for : blocks_fit (one (t.Stmt (at 3 3) (t.For t.NoFirst None None int_x))) ≡ false
  pub declaration_behind_label : blocks_fit (one (t.Stmt (at 3 3) (t.Label int_x))) ≡ false
  pub declaration_in_block : blocks_fit (one (t.Stmt (at 3 3) (t.If (number 7 1) (block int_x) t.NoElse))) ≡ true
  pub break_outside : jumps_fit (one (t.Stmt (at 3 3) t.Break)) ≡ false
  pub continue_in_arm : jumps_fit (one (t.Stmt (at 3 3) (t.If (number 7 1) (t.Stmt (at 3 10) t.Continue) t.NoElse))) ≡ false
  pub break_in_loop : jumps_fit (one (t.Stmt (at 3 3) (t.DoWhile (t.Stmt (at 3 6) (t.If (number 10 1) (t.Stmt (at 3 13) t.Break) t.NoElse)) (number 29 1)))) ≡ true
  pub break_behind_loop : jumps_fit (two (t.Stmt (at 3 3) (t.While (number 10 1) (t.Stmt (at 3 13) t.Empty))) (t.Stmt (at 3 20) t.Break)) ≡ false
  pub one_behind_another : places_rise (two (line (x 3)) (line (x 6))) ≡ true
  pub two_at_one_place : places_rise (two (line (x 3)) (line (x 3))) ≡ false
  pub sum_at_its_left : places_rise (one (line (plus 3 (x 3) (number 7 1)))) ≡ true
  pub sum_in_parentheses : places_rise (one (line (plus 3 (x 4) (number 8 1)))) ≡ true
  pub operands_turned_round : places_rise (one (line (plus 3 (x 7) (number 3 1)))) ≡ false
  pub sum_behind_its_left : places_rise (one (line (plus 4 (x 3) (number 7 1)))) ≡ false
  pub call_closed_before : places_rise (one (line (t.Expr (at 3 3) (Some Int) (t.Call (c.Defined 0) t.NoExp (at 3 3))))) ≡ false
  pub mark_behind_arm : places_rise (one (line (int 3 (t.Choose (at 3 9) (x 3) (number 7 1) (number 11 1))))) ≡ false
  pub prefix_at_its_target : places_rise (one (line (int 3 (t.Step s.PreInc (x 3))))) ≡ false
  pub postfix_at_its_target : places_rise (one (line (int 3 (t.Step s.PostInc (x 3))))) ≡ true
  pub two_indexes : types_fit (with_table (element (numbers (1 ∷ 2 ∷ [])))) ≡ true
  pub one_index_of_two : types_fit (with_table (element (numbers (1 ∷ [])))) ≡ false
  pub three_indexes : types_fit (with_table (element (numbers (1 ∷ 2 ∷ 0 ∷ [])))) ≡ false
  pub two_indexes_on_a_list : types_fit (one (line (int 3 (t.Index 1 (numbers (1 ∷ 2 ∷ [])))))) ≡ false
  pub two_rows : types_fit (with_table (declared (t.Rows (numbers (1 ∷ []) ∷ numbers (1 ∷ 2 ∷ 3 ∷ []) ∷ [])))) ≡ true
  pub three_rows_of_two : types_fit (with_table (declared (t.Rows (numbers (1 ∷ []) ∷ numbers (2 ∷ []) ∷ numbers (3 ∷ []) ∷ [])))) ≡ false
  pub row_too_long : types_fit (with_table (declared (t.Rows (numbers (1 ∷ 2 ∷ 3 ∷ 4 ∷ []) ∷ [])))) ≡ false
  pub rows_for_a_list : types_fit (one (t.Stmt (at 2 3) (t.Declare (t.MoreName (at 2 10) 1 (t.Rows (numbers (1 ∷ []) ∷ [])) t.NoName)))) ≡ false
  pub list_for_a_table : types_fit (with_table (declared (t.Many (numbers (1 ∷ 2 ∷ 3 ∷ 4 ∷ 5 ∷ 6 ∷ []))))) ≡ true
  pub list_too_long_for_a_table : types_fit (with_table (declared (t.Many (numbers (1 ∷ 2 ∷ 3 ∷ 4 ∷ 5 ∷ 6 ∷ 7 ∷ []))))) ≡ false
  pub labels_of_a_switch : types_fit (one (switch (arm 16 (l.Case (pos 2147483647)) (arm 24 l.Default t.NoStm)))) ≡ true
  pub constant_too_great : types_fit (one (switch (arm 16 (l.Case (pos 2147483648)) t.NoStm))) ≡ false
  pub two_defaults : types_fit (one (switch (arm 16 l.Default (arm 26 l.Default t.NoStm)))) ≡ false
  pub void_test_of_switch : types_fit (one (t.Stmt (at 3 3) (t.Switch (void 11) t.NoStm))) ≡ false
  pub declaration_in_an_arm : blocks_fit (one (switch (arm 16 l.Default (t.MoreStm int_x t.NoStm)))) ≡ false
  pub block_in_an_arm : blocks_fit (one (switch (arm 16 l.Default (t.MoreStm (block int_x) t.NoStm)))) ≡ true
  pub break_in_an_arm : jumps_fit (one (switch (arm 16 l.Default (t.MoreStm (t.Stmt (at 3 25) t.Break) t.NoStm)))) ≡ true
  pub continue_in_an_arm : jumps_fit (one (switch (arm 16 l.Default (t.MoreStm (t.Stmt (at 3 25) t.Continue) t.NoStm)))) ≡ false
  pub continue_in_a_loop_of_it : jumps_fit (one (t.Stmt (at 3 1) (t.While (number 2 1) (switch (arm 16 l.Default (t.MoreStm (t.Stmt (at 3 25) t.Continue) t.NoStm)))))) ≡ true
  pub arms_in_order : places_rise (one (switch (arm 16 (l.Case (pos 1)) (t.MoreStm (line (x 24)) (arm 27 l.Default t.NoStm))))) ≡ true
