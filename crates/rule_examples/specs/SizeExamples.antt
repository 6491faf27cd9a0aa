-- Sizes of arrays, calls without a body, the function main, cells. Each is a small source, and its first refusal with its column.
use Rattle.std.specs.Prelude.{◌≡◌, refl, codes}
use Rattle.c_core.specs.declared.number.DataModel.TheVariants.{Ilp32}
use Rattle.c_parser.specs.ReadExpressions.{level, within}
use Rattle.c_parser.specs.ReadStatements.{rows_within, header_within, statement_level, braced_within, armed_within}
use Rattle.c_core.specs.Types.{wrapped, signed_of, residue}
use Rattle.rule_examples.specs.Deciding.{checked}

example_0 : checked Ilp32 (codes "int main() { int a[0]; }") ≡ codes "size 18"
unfolding level within rows_within header_within statement_level braced_within armed_within wrapped signed_of residue
example_0 = refl

example_1 : checked Ilp32 (codes "int main() { int a[1]; int b[1024]; }") ≡ codes "program"
unfolding level within rows_within header_within statement_level braced_within armed_within wrapped signed_of residue
example_1 = refl

example_2 : checked Ilp32 (codes "int main() { int a[1025]; }") ≡ codes "size 18"
unfolding level within rows_within header_within statement_level braced_within armed_within wrapped signed_of residue
example_2 = refl

example_3 : checked Ilp32 (codes "int main() { int a[-1]; }") ≡ codes "size 18"
unfolding level within rows_within header_within statement_level braced_within armed_within wrapped signed_of residue
example_3 = refl

example_4 : checked Ilp32 (codes "int main() { int n = 3; int a[n]; }") ≡ codes "size 29"
unfolding level within rows_within header_within statement_level braced_within armed_within wrapped signed_of residue
example_4 = refl

example_5 : checked Ilp32 (codes "int main() { int a[2 * 3 + 1]; int b[1 ? 2 : 3]; int c[(1, 2)]; }") ≡ codes "program"
unfolding level within rows_within header_within statement_level braced_within armed_within wrapped signed_of residue
example_5 = refl

example_6 : checked Ilp32 (codes "int main() { int a[1 / 0]; }") ≡ codes "size 18"
unfolding level within rows_within header_within statement_level braced_within armed_within wrapped signed_of residue
example_6 = refl

example_7 : checked Ilp32 (codes "int main() { int a[2147483647 + 1]; }") ≡ codes "size 18"
unfolding level within rows_within header_within statement_level braced_within armed_within wrapped signed_of residue
example_7 = refl

example_8 : checked Ilp32 (codes "int main() { int a[2] = { 1, 2, 3 }; }") ≡ codes "size 18"
unfolding level within rows_within header_within statement_level braced_within armed_within wrapped signed_of residue
example_8 = refl

example_9 : checked Ilp32 (codes "int main() { int a[2] = { 1, 2, }; }") ≡ codes "program"
unfolding level within rows_within header_within statement_level braced_within armed_within wrapped signed_of residue
example_9 = refl

example_10 : checked Ilp32 (codes "int a[1300]; int main() { }") ≡ codes "size 05"
unfolding level within rows_within header_within statement_level braced_within armed_within wrapped signed_of residue
example_10 = refl

example_11 : checked Ilp32 (codes "int main() { int a[n()]; }") ≡ codes "size 18"
unfolding level within rows_within header_within statement_level braced_within armed_within wrapped signed_of residue
example_11 = refl

example_12 : checked Ilp32 (codes "int main() { int a[0] = 1; }") ≡ codes "typing 18"
unfolding level within rows_within header_within statement_level braced_within armed_within wrapped signed_of residue
example_12 = refl

example_13 : checked Ilp32 (codes "int main() { int a; int a[0] = 1; }") ≡ codes "again 25"
unfolding level within rows_within header_within statement_level braced_within armed_within wrapped signed_of residue
example_13 = refl

example_14 : checked Ilp32 (codes "int f(); int main() { f(); }") ≡ codes "body 23"
unfolding level within rows_within header_within statement_level braced_within armed_within wrapped signed_of residue
example_14 = refl

example_15 : checked Ilp32 (codes "int f(int); int main() { 1 + f(2); }") ≡ codes "body 30"
unfolding level within rows_within header_within statement_level braced_within armed_within wrapped signed_of residue
example_15 = refl

example_16 : checked Ilp32 (codes "int f(const char *); int main() { f(1, 2); }") ≡ codes "body 35"
unfolding level within rows_within header_within statement_level braced_within armed_within wrapped signed_of residue
example_16 = refl

example_17 : checked Ilp32 (codes "int f() { } int f(const char *); int main() { f(); }") ≡ codes "body 47"
unfolding level within rows_within header_within statement_level braced_within armed_within wrapped signed_of residue
example_17 = refl

example_18 : checked Ilp32 (codes "int f() { } int main() { f(); } int f(const char *);") ≡ codes "body 26"
unfolding level within rows_within header_within statement_level braced_within armed_within wrapped signed_of residue
example_18 = refl

example_19 : checked Ilp32 (codes "void abort(const char *); int main() { abort(); }") ≡ codes "body 40"
unfolding level within rows_within header_within statement_level braced_within armed_within wrapped signed_of residue
example_19 = refl

example_20 : checked Ilp32 (codes "int main() { f(); } int f(const char *);") ≡ codes "name 14"
unfolding level within rows_within header_within statement_level braced_within armed_within wrapped signed_of residue
example_20 = refl

example_21 : checked Ilp32 (codes "int f(int); int main() { f(); }") ≡ codes "typing 26"
unfolding level within rows_within header_within statement_level braced_within armed_within wrapped signed_of residue
example_21 = refl

example_22 : checked Ilp32 (codes "int f(); int main() { f(3); }") ≡ codes "body 23"
unfolding level within rows_within header_within statement_level braced_within armed_within wrapped signed_of residue
example_22 = refl

example_23 : checked Ilp32 (codes "int f(); int main() { (f()); }") ≡ codes "body 23"
unfolding level within rows_within header_within statement_level braced_within armed_within wrapped signed_of residue
example_23 = refl

example_24 : checked Ilp32 (codes "int f(); int main() { }") ≡ codes "program"
unfolding level within rows_within header_within statement_level braced_within armed_within wrapped signed_of residue
example_24 = refl

example_25 : checked Ilp32 (codes "int f(const char *); int main() { }") ≡ codes "program"
unfolding level within rows_within header_within statement_level braced_within armed_within wrapped signed_of residue
example_25 = refl

example_26 : checked Ilp32 (codes "") ≡ codes "main 01"
unfolding level within rows_within header_within statement_level braced_within armed_within wrapped signed_of residue
example_26 = refl

example_27 : checked Ilp32 (codes "int x;") ≡ codes "main 01"
unfolding level within rows_within header_within statement_level braced_within armed_within wrapped signed_of residue
example_27 = refl

example_28 : checked Ilp32 (codes "int main();") ≡ codes "main 01"
unfolding level within rows_within header_within statement_level braced_within armed_within wrapped signed_of residue
example_28 = refl

example_29 : checked Ilp32 (codes "int main;") ≡ codes "main 01"
unfolding level within rows_within header_within statement_level braced_within armed_within wrapped signed_of residue
example_29 = refl

example_30 : checked Ilp32 (codes "int main(int a) { }") ≡ codes "main 05"
unfolding level within rows_within header_within statement_level braced_within armed_within wrapped signed_of residue
example_30 = refl

example_31 : checked Ilp32 (codes "long main() { }") ≡ codes "main 06"
unfolding level within rows_within header_within statement_level braced_within armed_within wrapped signed_of residue
example_31 = refl

example_32 : checked Ilp32 (codes "void main() { }") ≡ codes "program"
unfolding level within rows_within header_within statement_level braced_within armed_within wrapped signed_of residue
example_32 = refl

example_33 : checked Ilp32 (codes "int main(void) { }") ≡ codes "program"
unfolding level within rows_within header_within statement_level braced_within armed_within wrapped signed_of residue
example_33 = refl

example_34 : checked Ilp32 (codes "int main(const char *);") ≡ codes "main 01"
unfolding level within rows_within header_within statement_level braced_within armed_within wrapped signed_of residue
example_34 = refl

example_35 : checked Ilp32 (codes "int main(int a) { x; }") ≡ codes "name 19"
unfolding level within rows_within header_within statement_level braced_within armed_within wrapped signed_of residue
example_35 = refl

example_36 : checked Ilp32 (codes "int f() { return; } int main(int a) { }") ≡ codes "typing 11"
unfolding level within rows_within header_within statement_level braced_within armed_within wrapped signed_of residue
example_36 = refl
