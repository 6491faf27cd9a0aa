-- More small sources and their first refusals, each with its column.
use Rattle.std.specs.Prelude.{◌≡◌, refl, codes}
use Rattle.c_core.specs.Types.{wrapped, signed_of, residue}
use Rattle.c_core.specs.declared.number.DataModel.TheVariants.{Ilp32}
use Rattle.c_parser.specs.ReadExpressions.{level, within}
use Rattle.c_parser.specs.ReadStatements.{rows_within, header_within, statement_level, braced_within, armed_within}
use Rattle.rule_examples.specs.Deciding.{checked}

example_0 : checked Ilp32 (codes "int main() { return 1, 2; }") ≡ codes "program"
unfolding level within rows_within header_within statement_level braced_within armed_within wrapped signed_of residue
example_0 = refl

example_1 : checked Ilp32 (codes "void main() { return 0; }") ≡ codes "typing 15"
unfolding level within rows_within header_within statement_level braced_within armed_within wrapped signed_of residue
example_1 = refl

example_2 : checked Ilp32 (codes "int main() { 9223372036854775808ll; }") ≡ codes "typing 14"
unfolding level within rows_within header_within statement_level braced_within armed_within wrapped signed_of residue
example_2 = refl

example_3 : checked Ilp32 (codes "int main() { 0x8000000000000000ll; 01777777777777777777777; 2147483648l; }") ≡ codes "program"
unfolding level within rows_within header_within statement_level braced_within armed_within wrapped signed_of residue
example_3 = refl

example_4 : checked Ilp32 (codes "int main() { int x; (x++) = x; }") ≡ codes "typing 21"
unfolding level within rows_within header_within statement_level braced_within armed_within wrapped signed_of residue
example_4 = refl

example_5 : checked Ilp32 (codes "int main() { int a[2]; a = a[0]++; }") ≡ codes "typing 24"
unfolding level within rows_within header_within statement_level braced_within armed_within wrapped signed_of residue
example_5 = refl

example_6 : checked Ilp32 (codes "void v() { } int main() { int x; v() + x++ + x; }") ≡ codes "typing 34"
unfolding level within rows_within header_within statement_level braced_within armed_within wrapped signed_of residue
example_6 = refl

example_7 : checked Ilp32 (codes "void v() { } int main() { int x; x++ + x + v(); }") ≡ codes "order 34"
unfolding level within rows_within header_within statement_level braced_within armed_within wrapped signed_of residue
example_7 = refl

example_8 : checked Ilp32 (codes "int f(); int main() { int x; f(x++, x); }") ≡ codes "order 30"
unfolding level within rows_within header_within statement_level braced_within armed_within wrapped signed_of residue
example_8 = refl

example_9 : checked Ilp32 (codes "int f(int); int main() { int x; f(x++, x); }") ≡ codes "typing 33"
unfolding level within rows_within header_within statement_level braced_within armed_within wrapped signed_of residue
example_9 = refl

example_10 : checked Ilp32 (codes "_Bool main() { }") ≡ codes "main 07"
unfolding level within rows_within header_within statement_level braced_within armed_within wrapped signed_of residue
example_10 = refl

example_11 : checked Ilp32 (codes "signed main() { }") ≡ codes "program"
unfolding level within rows_within header_within statement_level braced_within armed_within wrapped signed_of residue
example_11 = refl

example_12 : checked Ilp32 (codes "unsigned int main() { }") ≡ codes "main 14"
unfolding level within rows_within header_within statement_level braced_within armed_within wrapped signed_of residue
example_12 = refl

example_13 : checked Ilp32 (codes "void main(int a) { }") ≡ codes "main 06"
unfolding level within rows_within header_within statement_level braced_within armed_within wrapped signed_of residue
example_13 = refl

example_14 : checked Ilp32 (codes "int f(); int main(int a) { f(); }") ≡ codes "body 28"
unfolding level within rows_within header_within statement_level braced_within armed_within wrapped signed_of residue
example_14 = refl

example_15 : checked Ilp32 (codes "int main() { int x, y; (x = 1) + (y = 2); }") ≡ codes "program"
unfolding level within rows_within header_within statement_level braced_within armed_within wrapped signed_of residue
example_15 = refl

example_16 : checked Ilp32 (codes "int main() { int x; (x, 1) + x++; }") ≡ codes "order 21"
unfolding level within rows_within header_within statement_level braced_within armed_within wrapped signed_of residue
example_16 = refl

example_17 : checked Ilp32 (codes "int main() { int i; int a[3]; a[i = 1] = 2; a[i = 1] = i; }") ≡ codes "order 45"
unfolding level within rows_within header_within statement_level braced_within armed_within wrapped signed_of residue
example_17 = refl

example_18 : checked Ilp32 (codes "int main() { int i; int a[3]; i = a[i = 1]; }") ≡ codes "order 31"
unfolding level within rows_within header_within statement_level braced_within armed_within wrapped signed_of residue
example_18 = refl

example_19 : checked Ilp32 (codes "int main() { int i; int a[3]; i = a[i]; a[i] += i; a[i] += i--; }") ≡ codes "order 52"
unfolding level within rows_within header_within statement_level braced_within armed_within wrapped signed_of residue
example_19 = refl

example_20 : checked Ilp32 (codes "int main() { int x; x += x; x += x++; }") ≡ codes "order 29"
unfolding level within rows_within header_within statement_level braced_within armed_within wrapped signed_of residue
example_20 = refl

example_21 : checked Ilp32 (codes "int g; int f() { g = 1; } int main() { g += f(); }") ≡ codes "program"
unfolding level within rows_within header_within statement_level braced_within armed_within wrapped signed_of residue
example_21 = refl

example_22 : checked Ilp32 (codes "int g; int f() { g = 1; } int main() { int a[3]; a[g] = f(); }") ≡ codes "order 50"
unfolding level within rows_within header_within statement_level braced_within armed_within wrapped signed_of residue
example_22 = refl

example_23 : checked Ilp32 (codes "int a[3]; int f() { a[1] = 2; } int main() { a[0] = f(); a[0] += f(); a[a[0]] = f(); }") ≡ codes "order 71"
unfolding level within rows_within header_within statement_level braced_within armed_within wrapped signed_of residue
example_23 = refl

example_24 : checked Ilp32 (codes "int g; int f(int x) { g = x; } int main() { f(g); f(g++); f(1) + g++; }") ≡ codes "order 59"
unfolding level within rows_within header_within statement_level braced_within armed_within wrapped signed_of residue
example_24 = refl

example_25 : checked Ilp32 (codes "int g; int f(int x) { g = x; } int main() { f(g) + g; }") ≡ codes "order 45"
unfolding level within rows_within header_within statement_level braced_within armed_within wrapped signed_of residue
example_25 = refl

example_26 : checked Ilp32 (codes "int g; int f(int x) { return g; } int main() { f(g) + g; }") ≡ codes "program"
unfolding level within rows_within header_within statement_level braced_within armed_within wrapped signed_of residue
example_26 = refl

example_27 : checked Ilp32 (codes "int g; int f(int x) { return g; } int main() { f(g++) + g; }") ≡ codes "order 48"
unfolding level within rows_within header_within statement_level braced_within armed_within wrapped signed_of residue
example_27 = refl

example_28 : checked Ilp32 (codes "int g; int f() { int g; g = 1; } int main() { g + f(); }") ≡ codes "program"
unfolding level within rows_within header_within statement_level braced_within armed_within wrapped signed_of residue
example_28 = refl

example_29 : checked Ilp32 (codes "int g; int f(); int h() { f(); } int f() { g = 1; h(); } int main() { h() + g; }") ≡ codes "order 71"
unfolding level within rows_within header_within statement_level braced_within armed_within wrapped signed_of residue
example_29 = refl

example_30 : checked Ilp32 (codes "int g; int f() { int x = g++; } int main() { g + f(); }") ≡ codes "order 46"
unfolding level within rows_within header_within statement_level braced_within armed_within wrapped signed_of residue
example_30 = refl

example_31 : checked Ilp32 (codes "int g; int f() { for (g = 0; ; ) ; } int main() { f() + g; }") ≡ codes "order 51"
unfolding level within rows_within header_within statement_level braced_within armed_within wrapped signed_of residue
example_31 = refl

example_32 : checked Ilp32 (codes "int f(int n) { return f(n) + f(n); } int main() { }") ≡ codes "order 23"
unfolding level within rows_within header_within statement_level braced_within armed_within wrapped signed_of residue
example_32 = refl

example_33 : checked Ilp32 (codes "int f(int n) { int x = 1; return x + f(x); } int main() { }") ≡ codes "program"
unfolding level within rows_within header_within statement_level braced_within armed_within wrapped signed_of residue
example_33 = refl

example_34 : checked Ilp32 (codes "int f(int n) { return n++ + f(1); } int main() { }") ≡ codes "program"
unfolding level within rows_within header_within statement_level braced_within armed_within wrapped signed_of residue
example_34 = refl

example_35 : checked Ilp32 (codes "int f(int n) { n = f(n++); } int main() { }") ≡ codes "order 16"
unfolding level within rows_within header_within statement_level braced_within armed_within wrapped signed_of residue
example_35 = refl

example_36 : checked Ilp32 (codes "int f(int a) { } int main() { int x; x = f(x = 1); }") ≡ codes "order 38"
unfolding level within rows_within header_within statement_level braced_within armed_within wrapped signed_of residue
example_36 = refl

example_37 : checked Ilp32 (codes "int main() { int x; x = y(x = 1); }") ≡ codes "order 21"
unfolding level within rows_within header_within statement_level braced_within armed_within wrapped signed_of residue
example_37 = refl

example_38 : checked Ilp32 (codes "int main() { int x; int y = x++, z = x++ + x; }") ≡ codes "order 38"
unfolding level within rows_within header_within statement_level braced_within armed_within wrapped signed_of residue
example_38 = refl

example_39 : checked Ilp32 (codes "int main() { int x = (1, x); }") ≡ codes "order 22"
unfolding level within rows_within header_within statement_level braced_within armed_within wrapped signed_of residue
example_39 = refl

example_40 : checked Ilp32 (codes "int main() { int a[2] = { a[0], a[1] }; }") ≡ codes "order 27"
unfolding level within rows_within header_within statement_level braced_within armed_within wrapped signed_of residue
example_40 = refl

example_41 : checked Ilp32 (codes "int main() { int x = 1 ? 2 : x; }") ≡ codes "order 22"
unfolding level within rows_within header_within statement_level braced_within armed_within wrapped signed_of residue
example_41 = refl

example_42 : checked Ilp32 (codes "int main() { for (int i = i; ; ) ; }") ≡ codes "order 27"
unfolding level within rows_within header_within statement_level braced_within armed_within wrapped signed_of residue
example_42 = refl

example_43 : checked Ilp32 (codes "int main() { int x; { int x = x; } }") ≡ codes "order 31"
unfolding level within rows_within header_within statement_level braced_within armed_within wrapped signed_of residue
example_43 = refl

example_44 : checked Ilp32 (codes "int main() { int x = 1 + y; }") ≡ codes "name 26"
unfolding level within rows_within header_within statement_level braced_within armed_within wrapped signed_of residue
example_44 = refl

example_45 : checked Ilp32 (codes "int main() { int x; x++ + (y, x); }") ≡ codes "order 21"
unfolding level within rows_within header_within statement_level braced_within armed_within wrapped signed_of residue
example_45 = refl

example_46 : checked Ilp32 (codes "int main() { int x; y + (x++ + x); }") ≡ codes "name 21"
unfolding level within rows_within header_within statement_level braced_within armed_within wrapped signed_of residue
example_46 = refl

example_47 : checked Ilp32 (codes "int main() { int x; x + (y = x++); }") ≡ codes "order 21"
unfolding level within rows_within header_within statement_level braced_within armed_within wrapped signed_of residue
example_47 = refl

example_48 : checked Ilp32 (codes "int main() { int x; yy[x++] = x; }") ≡ codes "name 21"
unfolding level within rows_within header_within statement_level braced_within armed_within wrapped signed_of residue
example_48 = refl

example_49 : checked Ilp32 (codes "int main() { int x, y; x = y = x++; }") ≡ codes "order 24"
unfolding level within rows_within header_within statement_level braced_within armed_within wrapped signed_of residue
example_49 = refl

example_50 : checked Ilp32 (codes "int main() { int x, y; y = (x = x++); }") ≡ codes "order 28"
unfolding level within rows_within header_within statement_level braced_within armed_within wrapped signed_of residue
example_50 = refl

example_51 : checked Ilp32 (codes "int f() { } int main() { int a[3]; a[f()] = f(); }") ≡ codes "order 36"
unfolding level within rows_within header_within statement_level braced_within armed_within wrapped signed_of residue
example_51 = refl

example_52 : checked Ilp32 (codes "int f() { } int main() { int a[3]; a[f()] = 1; a[f()]++; int x = f(); x = f(); f() + __VERIFIER_nondet_int(); }") ≡ codes "program"
unfolding level within rows_within header_within statement_level braced_within armed_within wrapped signed_of residue
example_52 = refl

example_53 : checked Ilp32 (codes "int f() { } int main() { (1 && f()) + (f(), 1); }") ≡ codes "order 26"
unfolding level within rows_within header_within statement_level braced_within armed_within wrapped signed_of residue
example_53 = refl

example_54 : checked Ilp32 (codes "int f(); int main() { f() + f(); }") ≡ codes "body 23"
unfolding level within rows_within header_within statement_level braced_within armed_within wrapped signed_of residue
example_54 = refl

example_55 : checked Ilp32 (codes "int main() { int x; int a[2] = { x++, x }; int b[2] = { x, x++ }; }") ≡ codes "program"
unfolding level within rows_within header_within statement_level braced_within armed_within wrapped signed_of residue
example_55 = refl

example_56 : checked Ilp32 (codes "int main() { int a[3], x; x = a[a[0]++]; a[x] = x; }") ≡ codes "program"
unfolding level within rows_within header_within statement_level braced_within armed_within wrapped signed_of residue
example_56 = refl

example_57 : checked Ilp32 (codes "int main() { int a[3], x; ++a[a[0] = 1]; }") ≡ codes "order 27"
unfolding level within rows_within header_within statement_level braced_within armed_within wrapped signed_of residue
example_57 = refl

example_58 : checked Ilp32 (codes "int main() { int x; ; 1 + 2 * (x - (x = 1)); }") ≡ codes "order 31"
unfolding level within rows_within header_within statement_level braced_within armed_within wrapped signed_of residue
example_58 = refl

example_59 : checked Ilp32 (codes "int __VERIFIER_nondet_int() { return 0; } int main() { }") ≡ codes "again 05"
unfolding level within rows_within header_within statement_level braced_within armed_within wrapped signed_of residue
example_59 = refl

example_60 : checked Ilp32 (codes "int main() { int reach_error = 0; reach_error++; }") ≡ codes "program"
unfolding level within rows_within header_within statement_level braced_within armed_within wrapped signed_of residue
example_60 = refl

example_61 : checked Ilp32 (codes "void exit(void); int main() { exit(1); }") ≡ codes "program"
unfolding level within rows_within header_within statement_level braced_within armed_within wrapped signed_of residue
example_61 = refl

example_62 : checked Ilp32 (codes "int f() { } int main() { int f = f(); }") ≡ codes "typing 34"
unfolding level within rows_within header_within statement_level braced_within armed_within wrapped signed_of residue
example_62 = refl

example_63 : checked Ilp32 (codes "void v() { return zz; } int main() { }") ≡ codes "typing 12"
unfolding level within rows_within header_within statement_level braced_within armed_within wrapped signed_of residue
example_63 = refl

example_64 : checked Ilp32 (codes "void v() { } int main() { 1 ? v() : zz; }") ≡ codes "typing 27"
unfolding level within rows_within header_within statement_level braced_within armed_within wrapped signed_of residue
example_64 = refl

example_65 : checked Ilp32 (codes "int main() { a: { int x; } x; }") ≡ codes "name 28"
unfolding level within rows_within header_within statement_level braced_within armed_within wrapped signed_of residue
example_65 = refl

example_66 : checked Ilp32 (codes "int main() { int x; x = (x = 1, 2); }") ≡ codes "order 21"
unfolding level within rows_within header_within statement_level braced_within armed_within wrapped signed_of residue
example_66 = refl

example_67 : checked Ilp32 (codes "int main() { int x; x = x++ && 1; }") ≡ codes "order 21"
unfolding level within rows_within header_within statement_level braced_within armed_within wrapped signed_of residue
example_67 = refl

example_68 : checked Ilp32 (codes "void v() { } int main() { exit(v()); }") ≡ codes "typing 32"
unfolding level within rows_within header_within statement_level braced_within armed_within wrapped signed_of residue
example_68 = refl

example_69 : checked Ilp32 (codes "int main() { int x = 1, y[x]; }") ≡ codes "size 25"
unfolding level within rows_within header_within statement_level braced_within armed_within wrapped signed_of residue
example_69 = refl

example_70 : checked Ilp32 (codes "int g(const char *); int main() { 1 + g(); }") ≡ codes "body 39"
unfolding level within rows_within header_within statement_level braced_within armed_within wrapped signed_of residue
example_70 = refl

example_71 : checked Ilp32 (codes "int g(const char *); int x = g(); int main() { }") ≡ codes "typing 30"
unfolding level within rows_within header_within statement_level braced_within armed_within wrapped signed_of residue
example_71 = refl

example_72 : checked Ilp32 (codes "int x = 0 - 9223372036854775808; int main() { }") ≡ codes "typing 13"
unfolding level within rows_within header_within statement_level braced_within armed_within wrapped signed_of residue
example_72 = refl

example_73 : checked Ilp32 (codes "int main() { (zz[0]) = 1; }") ≡ codes "name 15"
unfolding level within rows_within header_within statement_level braced_within armed_within wrapped signed_of residue
example_73 = refl

example_74 : checked Ilp32 (codes "int main() { 1 + (zz()); }") ≡ codes "name 19"
unfolding level within rows_within header_within statement_level braced_within armed_within wrapped signed_of residue
example_74 = refl

example_75 : checked Ilp32 (codes "int f(); void f() { } int main() { }") ≡ codes "again 15"
unfolding level within rows_within header_within statement_level braced_within armed_within wrapped signed_of residue
example_75 = refl

example_76 : checked Ilp32 (codes "int f(char); int f(signed char); int main() { }") ≡ codes "again 18"
unfolding level within rows_within header_within statement_level braced_within armed_within wrapped signed_of residue
example_76 = refl

example_77 : checked Ilp32 (codes "int f(int); int f(const signed); int main() { }") ≡ codes "program"
unfolding level within rows_within header_within statement_level braced_within armed_within wrapped signed_of residue
example_77 = refl

example_78 : checked Ilp32 (codes "int g; int f() { g = 1; } int main() { int x = g + f(); }") ≡ codes "order 48"
unfolding level within rows_within header_within statement_level braced_within armed_within wrapped signed_of residue
example_78 = refl

example_79 : checked Ilp32 (codes "int g; int f(int x) { g = x; } int main() { if (f(1) == g) ; }") ≡ codes "order 49"
unfolding level within rows_within header_within statement_level braced_within armed_within wrapped signed_of residue
example_79 = refl

example_80 : checked Ilp32 (codes "int g; int f() { return g; } int main() { while (f() < g++) ; }") ≡ codes "order 50"
unfolding level within rows_within header_within statement_level braced_within armed_within wrapped signed_of residue
example_80 = refl

example_81 : checked Ilp32 (codes "int main() { int x; for (; ; x = x--) ; }") ≡ codes "order 30"
unfolding level within rows_within header_within statement_level braced_within armed_within wrapped signed_of residue
example_81 = refl

example_82 : checked Ilp32 (codes "int main() { int x; return x - x--; }") ≡ codes "order 28"
unfolding level within rows_within header_within statement_level braced_within armed_within wrapped signed_of residue
example_82 = refl

example_83 : checked Ilp32 (codes "int g; int f() { g = 1; } int main() { f() && g; g && f(); g, f(); }") ≡ codes "program"
unfolding level within rows_within header_within statement_level braced_within armed_within wrapped signed_of residue
example_83 = refl

example_84 : checked Ilp32 (codes "int f(int x) { } int main() { int x; f((x++, x)); f(x) && x++; }") ≡ codes "program"
unfolding level within rows_within header_within statement_level braced_within armed_within wrapped signed_of residue
example_84 = refl

example_85 : checked Ilp32 (codes "int f(int a, int b) { } int main() { int x; f((x++, 1), x); }") ≡ codes "order 45"
unfolding level within rows_within header_within statement_level braced_within armed_within wrapped signed_of residue
example_85 = refl

example_86 : checked Ilp32 (codes "int g; int h() { g = 1; } int f() { } int main() { g + f(); }") ≡ codes "program"
unfolding level within rows_within header_within statement_level braced_within armed_within wrapped signed_of residue
example_86 = refl

example_87 : checked Ilp32 (codes "int g; int f(); int main() { g + f(); } int f() { g = 1; }") ≡ codes "order 30"
unfolding level within rows_within header_within statement_level braced_within armed_within wrapped signed_of residue
example_87 = refl

example_88 : checked Ilp32 (codes "int g; int f(int g) { g = 1; } int main() { g + f(2); }") ≡ codes "program"
unfolding level within rows_within header_within statement_level braced_within armed_within wrapped signed_of residue
example_88 = refl

example_89 : checked Ilp32 (codes "int g; int main() { g = 1; g + main(); }") ≡ codes "order 28"
unfolding level within rows_within header_within statement_level braced_within armed_within wrapped signed_of residue
example_89 = refl

example_90 : checked Ilp32 (codes "int a[2]; int b[0], a; int main() { }") ≡ codes "size 15"
unfolding level within rows_within header_within statement_level braced_within armed_within wrapped signed_of residue
example_90 = refl

example_91 : checked Ilp32 (codes "int a[2]; int a, b[0]; int main() { }") ≡ codes "again 15"
unfolding level within rows_within header_within statement_level braced_within armed_within wrapped signed_of residue
example_91 = refl

example_92 : checked Ilp32 (codes "int f(); int main() { f(); break; }") ≡ codes "body 23"
unfolding level within rows_within header_within statement_level braced_within armed_within wrapped signed_of residue
example_92 = refl

example_93 : checked Ilp32 (codes "int f(); int main() { break; f(); }") ≡ codes "typing 23"
unfolding level within rows_within header_within statement_level braced_within armed_within wrapped signed_of residue
example_93 = refl

example_94 : checked Ilp32 (codes "int main() { int x = x; int a[0]; }") ≡ codes "order 22"
unfolding level within rows_within header_within statement_level braced_within armed_within wrapped signed_of residue
example_94 = refl

example_95 : checked Ilp32 (codes "int main() { int a[0]; int x = x; }") ≡ codes "size 18"
unfolding level within rows_within header_within statement_level braced_within armed_within wrapped signed_of residue
example_95 = refl

example_96 : checked Ilp32 (codes "int f; int f() { return zz; } int main() { }") ≡ codes "again 12"
unfolding level within rows_within header_within statement_level braced_within armed_within wrapped signed_of residue
example_96 = refl

example_97 : checked Ilp32 (codes "int main() { a: ; zz; a: ; }") ≡ codes "name 19"
unfolding level within rows_within header_within statement_level braced_within armed_within wrapped signed_of residue
example_97 = refl

example_98 : checked Ilp32 (codes "int main() { a: ; a: zz; }") ≡ codes "again 19"
unfolding level within rows_within header_within statement_level braced_within armed_within wrapped signed_of residue
example_98 = refl

example_99 : checked Ilp32 (codes "long main() { break; }") ≡ codes "typing 15"
unfolding level within rows_within header_within statement_level braced_within armed_within wrapped signed_of residue
example_99 = refl

example_100 : checked Ilp32 (codes "int a[0xffffffff + 1 == 0], b[4294967295 + 1 == 0]; int main() { }") ≡ codes "size 29"
unfolding level within rows_within header_within statement_level braced_within armed_within wrapped signed_of residue
example_100 = refl

example_101 : checked Ilp32 (codes "int f(const char *); int main() { f(1); } int f() { } ") ≡ codes "typing 35"
unfolding level within rows_within header_within statement_level braced_within armed_within wrapped signed_of residue
example_101 = refl

example_102 : checked Ilp32 (codes "int f(const char *); int main() { f() + f(); } int f() { } ") ≡ codes "order 35"
unfolding level within rows_within header_within statement_level braced_within armed_within wrapped signed_of residue
example_102 = refl

example_103 : checked Ilp32 (codes "int main() { int a[(void)1]; }") ≡ codes "size 18"
unfolding level within rows_within header_within statement_level braced_within armed_within wrapped signed_of residue
example_103 = refl

example_104 : checked Ilp32 (codes "int main() { int a[1 ? (void)1 : (void)2]; }") ≡ codes "size 18"
unfolding level within rows_within header_within statement_level braced_within armed_within wrapped signed_of residue
example_104 = refl

example_105 : checked Ilp32 (codes "int x = -9223372036854775808; int main() { }") ≡ codes "typing 10"
unfolding level within rows_within header_within statement_level braced_within armed_within wrapped signed_of residue
example_105 = refl
