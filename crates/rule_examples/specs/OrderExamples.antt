-- Operands between which C has no order. Each is a small source, and its first refusal with its column.
use Rattle.std.specs.Prelude.{◌≡◌, refl, codes}
use Rattle.c_core.specs.declared.number.DataModel.TheVariants.{Ilp32}
use Rattle.c_parser.specs.ReadExpressions.{level, within}
use Rattle.c_parser.specs.ReadStatements.{rows_within, header_within, statement_level, braced_within, armed_within}
use Rattle.rule_examples.specs.Deciding.{checked}

example_0 : checked Ilp32 (codes "int main() { int x; x = x++; }") ≡ codes "order 21"
unfolding level within rows_within header_within statement_level braced_within armed_within
example_0 = refl

example_1 : checked Ilp32 (codes "int main() { int x; x = ++x; }") ≡ codes "order 21"
unfolding level within rows_within header_within statement_level braced_within armed_within
example_1 = refl

example_2 : checked Ilp32 (codes "int main() { int x; x++ + x; }") ≡ codes "order 21"
unfolding level within rows_within header_within statement_level braced_within armed_within
example_2 = refl

example_3 : checked Ilp32 (codes "int main() { int x; x + x++; }") ≡ codes "order 21"
unfolding level within rows_within header_within statement_level braced_within armed_within
example_3 = refl

example_4 : checked Ilp32 (codes "int main() { int x; x++ + x++; }") ≡ codes "order 21"
unfolding level within rows_within header_within statement_level braced_within armed_within
example_4 = refl

example_5 : checked Ilp32 (codes "int main() { int x, y; x++ + y++; }") ≡ codes "program"
unfolding level within rows_within header_within statement_level braced_within armed_within
example_5 = refl

example_6 : checked Ilp32 (codes "int main() { int x; x = x + 1; x += x; }") ≡ codes "program"
unfolding level within rows_within header_within statement_level braced_within armed_within
example_6 = refl

example_7 : checked Ilp32 (codes "int main() { int x; 1 + (x++ + x); }") ≡ codes "order 25"
unfolding level within rows_within header_within statement_level braced_within armed_within
example_7 = refl

example_8 : checked Ilp32 (codes "int main() { int x; (x++ + x); }") ≡ codes "order 21"
unfolding level within rows_within header_within statement_level braced_within armed_within
example_8 = refl

example_9 : checked Ilp32 (codes "int main() { int x; (x = 1) + x; }") ≡ codes "order 21"
unfolding level within rows_within header_within statement_level braced_within armed_within
example_9 = refl

example_10 : checked Ilp32 (codes "int main() { int x; x = (x = 1); }") ≡ codes "order 21"
unfolding level within rows_within header_within statement_level braced_within armed_within
example_10 = refl

example_11 : checked Ilp32 (codes "int main() { int x; x = (x = 1) + 2; }") ≡ codes "order 21"
unfolding level within rows_within header_within statement_level braced_within armed_within
example_11 = refl

example_12 : checked Ilp32 (codes "int main() { int x, y; x = (y = 1); }") ≡ codes "program"
unfolding level within rows_within header_within statement_level braced_within armed_within
example_12 = refl

example_13 : checked Ilp32 (codes "int main() { int x; x++ && x++; x++ || x; x++, x; x ? x++ : x--; x = 1, x; }") ≡ codes "program"
unfolding level within rows_within header_within statement_level braced_within armed_within
example_13 = refl

example_14 : checked Ilp32 (codes "int main() { int a[3]; int i; a[i] = i++; }") ≡ codes "order 31"
unfolding level within rows_within header_within statement_level braced_within armed_within
example_14 = refl

example_15 : checked Ilp32 (codes "int main() { int a[3]; int i; a[i++] = i; }") ≡ codes "order 31"
unfolding level within rows_within header_within statement_level braced_within armed_within
example_15 = refl

example_16 : checked Ilp32 (codes "int main() { int a[3]; int i; a[i++] = 1; a[i] = a[i]; a[i] = i; }") ≡ codes "program"
unfolding level within rows_within header_within statement_level braced_within armed_within
example_16 = refl

example_17 : checked Ilp32 (codes "int main() { int a[3]; int i; i = a[i++] + i; }") ≡ codes "order 31"
unfolding level within rows_within header_within statement_level braced_within armed_within
example_17 = refl

example_18 : checked Ilp32 (codes "int main() { int a[3]; a[0] = a[1]++; }") ≡ codes "order 24"
unfolding level within rows_within header_within statement_level braced_within armed_within
example_18 = refl

example_19 : checked Ilp32 (codes "int main() { int a[3]; a[a[0]++] = 1; }") ≡ codes "order 24"
unfolding level within rows_within header_within statement_level braced_within armed_within
example_19 = refl

example_20 : checked Ilp32 (codes "int main() { int a[3]; a[a[0]++]++; }") ≡ codes "order 24"
unfolding level within rows_within header_within statement_level braced_within armed_within
example_20 = refl

example_21 : checked Ilp32 (codes "int main() { int a[3]; ++a[a[0]++]; }") ≡ codes "order 24"
unfolding level within rows_within header_within statement_level braced_within armed_within
example_21 = refl

example_22 : checked Ilp32 (codes "int main() { int a[3]; a[a[0]] = 1; a[a[0]]++; }") ≡ codes "program"
unfolding level within rows_within header_within statement_level braced_within armed_within
example_22 = refl

example_23 : checked Ilp32 (codes "int f(int a, int b) { } int main() { int x; f(x, x++); }") ≡ codes "order 45"
unfolding level within rows_within header_within statement_level braced_within armed_within
example_23 = refl

example_24 : checked Ilp32 (codes "int f(int a, int b, int c) { } int main() { int x; f(x++, 1, x); }") ≡ codes "order 52"
unfolding level within rows_within header_within statement_level braced_within armed_within
example_24 = refl

example_25 : checked Ilp32 (codes "int f(int a, int b) { } int main() { int x, y; f(x++, y); }") ≡ codes "program"
unfolding level within rows_within header_within statement_level braced_within armed_within
example_25 = refl

example_26 : checked Ilp32 (codes "int f() { } int main() { f() + f(); }") ≡ codes "order 26"
unfolding level within rows_within header_within statement_level braced_within armed_within
example_26 = refl

example_27 : checked Ilp32 (codes "int f(int a, int b) { } int g() { } int main() { f(g(), g()); }") ≡ codes "order 50"
unfolding level within rows_within header_within statement_level braced_within armed_within
example_27 = refl

example_28 : checked Ilp32 (codes "int f() { } int main() { f() + 1; f() && f(); f(), f(); -f(); }") ≡ codes "program"
unfolding level within rows_within header_within statement_level braced_within armed_within
example_28 = refl

example_29 : checked Ilp32 (codes "int f(int a) { } int main() { f(f(1)); }") ≡ codes "program"
unfolding level within rows_within header_within statement_level braced_within armed_within
example_29 = refl

example_30 : checked Ilp32 (codes "int main() { __VERIFIER_nondet_int() + __VERIFIER_nondet_int(); }") ≡ codes "program"
unfolding level within rows_within header_within statement_level braced_within armed_within
example_30 = refl

example_31 : checked Ilp32 (codes "int g; int f() { g = 1; } int main() { g + f(); }") ≡ codes "order 40"
unfolding level within rows_within header_within statement_level braced_within armed_within
example_31 = refl

example_32 : checked Ilp32 (codes "int g; int f() { g++; } int main() { f() + g; }") ≡ codes "order 38"
unfolding level within rows_within header_within statement_level braced_within armed_within
example_32 = refl

example_33 : checked Ilp32 (codes "int g; int f() { return g; } int main() { g + f(); }") ≡ codes "program"
unfolding level within rows_within header_within statement_level braced_within armed_within
example_33 = refl

example_34 : checked Ilp32 (codes "int g; int f() { return g; } int main() { f() + g++; }") ≡ codes "order 43"
unfolding level within rows_within header_within statement_level braced_within armed_within
example_34 = refl

example_35 : checked Ilp32 (codes "int g; int h() { g = 1; } int f() { h(); } int main() { g + f(); }") ≡ codes "order 57"
unfolding level within rows_within header_within statement_level braced_within armed_within
example_35 = refl

example_36 : checked Ilp32 (codes "int g; int f() { g = 1; } int main() { g = f(); g ^= f(); }") ≡ codes "program"
unfolding level within rows_within header_within statement_level braced_within armed_within
example_36 = refl

example_37 : checked Ilp32 (codes "int a[3]; int f() { a[0] = 1; } int main() { a[f()] = 1; }") ≡ codes "order 46"
unfolding level within rows_within header_within statement_level braced_within armed_within
example_37 = refl

example_38 : checked Ilp32 (codes "int a[3]; int f() { a[0] = 1; } int main() { a[f()]++; }") ≡ codes "order 46"
unfolding level within rows_within header_within statement_level braced_within armed_within
example_38 = refl

example_39 : checked Ilp32 (codes "int a[3]; int f() { return a[0]; } int main() { a[f()] = 1; }") ≡ codes "program"
unfolding level within rows_within header_within statement_level braced_within armed_within
example_39 = refl

example_40 : checked Ilp32 (codes "int f(int n) { n--; return n * f(n); } int main() { }") ≡ codes "program"
unfolding level within rows_within header_within statement_level braced_within armed_within
example_40 = refl

example_41 : checked Ilp32 (codes "int g; int f(int n) { g--; return g * f(n); } int main() { }") ≡ codes "order 35"
unfolding level within rows_within header_within statement_level braced_within armed_within
example_41 = refl

example_42 : checked Ilp32 (codes "int main() { int x = x; }") ≡ codes "order 22"
unfolding level within rows_within header_within statement_level braced_within armed_within
example_42 = refl

example_43 : checked Ilp32 (codes "int main() { int x = (x = 1); }") ≡ codes "order 22"
unfolding level within rows_within header_within statement_level braced_within armed_within
example_43 = refl

example_44 : checked Ilp32 (codes "int main() { int x = 1 + x; }") ≡ codes "order 22"
unfolding level within rows_within header_within statement_level braced_within armed_within
example_44 = refl

example_45 : checked Ilp32 (codes "int main() { int a[3] = { 1, a[0] }; }") ≡ codes "order 30"
unfolding level within rows_within header_within statement_level braced_within armed_within
example_45 = refl

example_46 : checked Ilp32 (codes "int main() { int x = 1, y = x; }") ≡ codes "program"
unfolding level within rows_within header_within statement_level braced_within armed_within
example_46 = refl

example_47 : checked Ilp32 (codes "int x; int main() { int y = x; { int z = y; } }") ≡ codes "program"
unfolding level within rows_within header_within statement_level braced_within armed_within
example_47 = refl

example_48 : checked Ilp32 (codes "int x; int main() { int x = x; }") ≡ codes "order 29"
unfolding level within rows_within header_within statement_level braced_within armed_within
example_48 = refl

example_49 : checked Ilp32 (codes "int x = x; int main() { }") ≡ codes "typing 09"
unfolding level within rows_within header_within statement_level braced_within armed_within
example_49 = refl

example_50 : checked Ilp32 (codes "int main() { int x; x = 1 + (x++ * x); }") ≡ codes "order 21"
unfolding level within rows_within header_within statement_level braced_within armed_within
example_50 = refl

example_51 : checked Ilp32 (codes "int main() { int x; x = x++; y; }") ≡ codes "order 21"
unfolding level within rows_within header_within statement_level braced_within armed_within
example_51 = refl

example_52 : checked Ilp32 (codes "int main() { int x; y; x = x++; }") ≡ codes "name 21"
unfolding level within rows_within header_within statement_level braced_within armed_within
example_52 = refl

example_53 : checked Ilp32 (codes "int main() { int x; x() + x++ + x; }") ≡ codes "typing 21"
unfolding level within rows_within header_within statement_level braced_within armed_within
example_53 = refl

example_54 : checked Ilp32 (codes "int f() { } int g() { } int main() { (f() = g()); }") ≡ codes "order 38"
unfolding level within rows_within header_within statement_level braced_within armed_within
example_54 = refl

example_55 : checked Ilp32 (codes "int f() { } int g() { } int main() { f() = g(); }") ≡ codes "typing 38"
unfolding level within rows_within header_within statement_level braced_within armed_within
example_55 = refl

example_56 : checked Ilp32 (codes "int g; int f() { g = 1; } int main() { (f() = g); }") ≡ codes "order 40"
unfolding level within rows_within header_within statement_level braced_within armed_within
example_56 = refl

example_57 : checked Ilp32 (codes "int f() { } int main() { int x; x = f(); (f() = 1); }") ≡ codes "typing 43"
unfolding level within rows_within header_within statement_level braced_within armed_within
example_57 = refl
