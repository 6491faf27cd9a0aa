-- Words that name nothing, and names that are declared again. Each is a small source, and its first refusal with its column.
use Rattle.std.specs.Prelude.{◌≡◌, refl, codes}
use Rattle.c_core.specs.declared.number.DataModel.TheVariants.{Ilp32}
use Rattle.c_parser.specs.ReadExpressions.{level, within}
use Rattle.c_parser.specs.ReadStatements.{rows_within, header_within, statement_level, braced_within, armed_within}
use Rattle.rule_examples.specs.Deciding.{checked}

example_0 : checked Ilp32 (codes "int main() { x; }") ≡ codes "name 14"
unfolding level within rows_within header_within statement_level braced_within armed_within
example_0 = refl

example_1 : checked Ilp32 (codes "int main() { f(); }") ≡ codes "name 14"
unfolding level within rows_within header_within statement_level braced_within armed_within
example_1 = refl

example_2 : checked Ilp32 (codes "int main() { a[0]; }") ≡ codes "name 14"
unfolding level within rows_within header_within statement_level braced_within armed_within
example_2 = refl

example_3 : checked Ilp32 (codes "int main() { { int x = 1; } x; }") ≡ codes "name 29"
unfolding level within rows_within header_within statement_level braced_within armed_within
example_3 = refl

example_4 : checked Ilp32 (codes "int main() { for (int i = 0; i < 3; i++) ; i; }") ≡ codes "name 44"
unfolding level within rows_within header_within statement_level braced_within armed_within
example_4 = refl

example_5 : checked Ilp32 (codes "int main() { for (int i = 0; i < 3; i++) i; }") ≡ codes "program"
unfolding level within rows_within header_within statement_level braced_within armed_within
example_5 = refl

example_6 : checked Ilp32 (codes "int main() { x = 1; int x; }") ≡ codes "name 14"
unfolding level within rows_within header_within statement_level braced_within armed_within
example_6 = refl

example_7 : checked Ilp32 (codes "int main() { int x; x = 1; }") ≡ codes "program"
unfolding level within rows_within header_within statement_level braced_within armed_within
example_7 = refl

example_8 : checked Ilp32 (codes "int f() { return g; } int g; int main() { }") ≡ codes "name 18"
unfolding level within rows_within header_within statement_level braced_within armed_within
example_8 = refl

example_9 : checked Ilp32 (codes "int main() { f(); } void f() { }") ≡ codes "name 14"
unfolding level within rows_within header_within statement_level braced_within armed_within
example_9 = refl

example_10 : checked Ilp32 (codes "void f(); int main() { f(); } void f() { }") ≡ codes "program"
unfolding level within rows_within header_within statement_level braced_within armed_within
example_10 = refl

example_11 : checked Ilp32 (codes "int main() { (zz) = 1; }") ≡ codes "name 15"
unfolding level within rows_within header_within statement_level braced_within armed_within
example_11 = refl

example_12 : checked Ilp32 (codes "int main() { int x; (x + y) * 2; }") ≡ codes "name 26"
unfolding level within rows_within header_within statement_level braced_within armed_within
example_12 = refl

example_13 : checked Ilp32 (codes "int main() { int x; (x + y) = zz; }") ≡ codes "typing 21"
unfolding level within rows_within header_within statement_level braced_within armed_within
example_13 = refl

example_14 : checked Ilp32 (codes "int x; int main() { int x; x = 1; { int x; x = 2; } }") ≡ codes "program"
unfolding level within rows_within header_within statement_level braced_within armed_within
example_14 = refl

example_15 : checked Ilp32 (codes "int f(int x) { return x; } int x; int main() { return f(x); }") ≡ codes "program"
unfolding level within rows_within header_within statement_level braced_within armed_within
example_15 = refl

example_16 : checked Ilp32 (codes "int f(int x) { return x; } int main() { return x; }") ≡ codes "name 48"
unfolding level within rows_within header_within statement_level braced_within armed_within
example_16 = refl

example_17 : checked Ilp32 (codes "int main() { int a[n]; }") ≡ codes "size 18"
unfolding level within rows_within header_within statement_level braced_within armed_within
example_17 = refl

example_18 : checked Ilp32 (codes "int x; int x; int main() { }") ≡ codes "again 12"
unfolding level within rows_within header_within statement_level braced_within armed_within
example_18 = refl

example_19 : checked Ilp32 (codes "extern int x; int x; int main() { }") ≡ codes "again 19"
unfolding level within rows_within header_within statement_level braced_within armed_within
example_19 = refl

example_20 : checked Ilp32 (codes "int main() { int x; int x; }") ≡ codes "again 25"
unfolding level within rows_within header_within statement_level braced_within armed_within
example_20 = refl

example_21 : checked Ilp32 (codes "int main() { int x; { int y; int y; } }") ≡ codes "again 34"
unfolding level within rows_within header_within statement_level braced_within armed_within
example_21 = refl

example_22 : checked Ilp32 (codes "int main() { int x; { int x; } { int x; } }") ≡ codes "program"
unfolding level within rows_within header_within statement_level braced_within armed_within
example_22 = refl

example_23 : checked Ilp32 (codes "int f(int a, int a) { } int main() { }") ≡ codes "again 18"
unfolding level within rows_within header_within statement_level braced_within armed_within
example_23 = refl

example_24 : checked Ilp32 (codes "int f(int a) { int a; } int main() { }") ≡ codes "again 20"
unfolding level within rows_within header_within statement_level braced_within armed_within
example_24 = refl

example_25 : checked Ilp32 (codes "int f(int a) { { int a; } } int main() { }") ≡ codes "program"
unfolding level within rows_within header_within statement_level braced_within armed_within
example_25 = refl

example_26 : checked Ilp32 (codes "int f(); int f; int main() { }") ≡ codes "again 14"
unfolding level within rows_within header_within statement_level braced_within armed_within
example_26 = refl

example_27 : checked Ilp32 (codes "int f; int f(); int main() { }") ≡ codes "again 12"
unfolding level within rows_within header_within statement_level braced_within armed_within
example_27 = refl

example_28 : checked Ilp32 (codes "int f(int); int f(int a) { return a; } int f(int); int main() { }") ≡ codes "program"
unfolding level within rows_within header_within statement_level braced_within armed_within
example_28 = refl

example_29 : checked Ilp32 (codes "int f(int); int f(long); int main() { }") ≡ codes "again 17"
unfolding level within rows_within header_within statement_level braced_within armed_within
example_29 = refl

example_30 : checked Ilp32 (codes "int f(); long f(); int main() { }") ≡ codes "again 15"
unfolding level within rows_within header_within statement_level braced_within armed_within
example_30 = refl

example_31 : checked Ilp32 (codes "int f(); int f(int); int f(); int main() { }") ≡ codes "program"
unfolding level within rows_within header_within statement_level braced_within armed_within
example_31 = refl

example_32 : checked Ilp32 (codes "int f(); int f(int); int f(); int f(long a) { } int main() { }") ≡ codes "again 35"
unfolding level within rows_within header_within statement_level braced_within armed_within
example_32 = refl

example_33 : checked Ilp32 (codes "int f() { } int f() { } int main() { }") ≡ codes "again 17"
unfolding level within rows_within header_within statement_level braced_within armed_within
example_33 = refl

example_34 : checked Ilp32 (codes "int f() { } int f(int); int main() { }") ≡ codes "again 17"
unfolding level within rows_within header_within statement_level braced_within armed_within
example_34 = refl

example_35 : checked Ilp32 (codes "int f() { } int f(void); int main() { }") ≡ codes "program"
unfolding level within rows_within header_within statement_level braced_within armed_within
example_35 = refl

example_36 : checked Ilp32 (codes "void abort() { } int main() { }") ≡ codes "again 06"
unfolding level within rows_within header_within statement_level braced_within armed_within
example_36 = refl

example_37 : checked Ilp32 (codes "int abort(); int main() { }") ≡ codes "again 05"
unfolding level within rows_within header_within statement_level braced_within armed_within
example_37 = refl

example_38 : checked Ilp32 (codes "extern void abort(void); int main() { abort(); }") ≡ codes "program"
unfolding level within rows_within header_within statement_level braced_within armed_within
example_38 = refl

example_39 : checked Ilp32 (codes "long __VERIFIER_nondet_int(); int main() { }") ≡ codes "again 06"
unfolding level within rows_within header_within statement_level braced_within armed_within
example_39 = refl

example_40 : checked Ilp32 (codes "int __VERIFIER_nondet_int(int); int __VERIFIER_nondet_int(); int main() { }") ≡ codes "program"
unfolding level within rows_within header_within statement_level braced_within armed_within
example_40 = refl

example_41 : checked Ilp32 (codes "int exit(int); int main() { }") ≡ codes "again 05"
unfolding level within rows_within header_within statement_level braced_within armed_within
example_41 = refl

example_42 : checked Ilp32 (codes "void reach_error() { } void reach_error(int); int main() { reach_error(); }") ≡ codes "program"
unfolding level within rows_within header_within statement_level braced_within armed_within
example_42 = refl

example_43 : checked Ilp32 (codes "int main() { a: ; a: ; }") ≡ codes "again 19"
unfolding level within rows_within header_within statement_level braced_within armed_within
example_43 = refl

example_44 : checked Ilp32 (codes "void f() { a: ; } int main() { a: ; }") ≡ codes "program"
unfolding level within rows_within header_within statement_level braced_within armed_within
example_44 = refl

example_45 : checked Ilp32 (codes "int main() { a: { while (1) a: ; } }") ≡ codes "again 29"
unfolding level within rows_within header_within statement_level braced_within armed_within
example_45 = refl

example_46 : checked Ilp32 (codes "int main() { int a; a: a = 1; }") ≡ codes "program"
unfolding level within rows_within header_within statement_level braced_within armed_within
example_46 = refl

example_47 : checked Ilp32 (codes "int g(const char *); int g; int main() { g = 1; }") ≡ codes "program"
unfolding level within rows_within header_within statement_level braced_within armed_within
example_47 = refl

example_48 : checked Ilp32 (codes "int g; int g(const char *); int main() { g = 1; }") ≡ codes "program"
unfolding level within rows_within header_within statement_level braced_within armed_within
example_48 = refl

example_49 : checked Ilp32 (codes "int g(const char *); int g; int g; int main() { }") ≡ codes "again 33"
unfolding level within rows_within header_within statement_level braced_within armed_within
example_49 = refl

example_50 : checked Ilp32 (codes "int main() { } int main() { }") ≡ codes "again 20"
unfolding level within rows_within header_within statement_level braced_within armed_within
example_50 = refl

example_51 : checked Ilp32 (codes "int x, x; int main() { }") ≡ codes "again 08"
unfolding level within rows_within header_within statement_level braced_within armed_within
example_51 = refl

example_52 : checked Ilp32 (codes "int main() { for (int i = 0, i = 1; ; ) ; }") ≡ codes "again 30"
unfolding level within rows_within header_within statement_level braced_within armed_within
example_52 = refl

example_53 : checked Ilp32 (codes "int main() { for (int i = 0; ; ) { int i; i = 1; } }") ≡ codes "program"
unfolding level within rows_within header_within statement_level braced_within armed_within
example_53 = refl
