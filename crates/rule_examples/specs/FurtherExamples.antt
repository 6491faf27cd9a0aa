-- Further small sources, many with two refusals: which is the first, and its column.
use Rattle.std.specs.Prelude.{◌≡◌, refl, codes}
use Rattle.c_core.specs.Types.{wrapped, signed_of, residue}
use Rattle.c_core.specs.declared.number.DataModel.TheVariants.{Ilp32}
use Rattle.c_parser.specs.ReadExpressions.{level, within}
use Rattle.c_parser.specs.ReadStatements.{rows_within, header_within, statement_level, braced_within, armed_within}
use Rattle.rule_examples.specs.Deciding.{checked}

example_0 : checked Ilp32 (codes "int f(int f) { return f; } int main() { }") ≡ codes "program"
unfolding level within rows_within header_within statement_level braced_within armed_within wrapped signed_of residue
example_0 = refl

example_1 : checked Ilp32 (codes "int f(int f) { return f(1); } int main() { }") ≡ codes "typing 23"
unfolding level within rows_within header_within statement_level braced_within armed_within wrapped signed_of residue
example_1 = refl

example_2 : checked Ilp32 (codes "int main() { int main; main = 1; }") ≡ codes "program"
unfolding level within rows_within header_within statement_level braced_within armed_within wrapped signed_of residue
example_2 = refl

example_3 : checked Ilp32 (codes "int main() { int main; main(); }") ≡ codes "typing 24"
unfolding level within rows_within header_within statement_level braced_within armed_within wrapped signed_of residue
example_3 = refl

example_4 : checked Ilp32 (codes "int main() { main(); }") ≡ codes "program"
unfolding level within rows_within header_within statement_level braced_within armed_within wrapped signed_of residue
example_4 = refl

example_5 : checked Ilp32 (codes "int main() { main(1); }") ≡ codes "typing 14"
unfolding level within rows_within header_within statement_level braced_within armed_within wrapped signed_of residue
example_5 = refl

example_6 : checked Ilp32 (codes "int main() { if (1) { int x; } x; }") ≡ codes "name 32"
unfolding level within rows_within header_within statement_level braced_within armed_within wrapped signed_of residue
example_6 = refl

example_7 : checked Ilp32 (codes "int main() { do { int x; } while (x); }") ≡ codes "name 35"
unfolding level within rows_within header_within statement_level braced_within armed_within wrapped signed_of residue
example_7 = refl

example_8 : checked Ilp32 (codes "int main() { int x; if (1) { int x[2]; x[0] = 1; } else x = 3; x = 2; }") ≡ codes "program"
unfolding level within rows_within header_within statement_level braced_within armed_within wrapped signed_of residue
example_8 = refl

example_9 : checked Ilp32 (codes "int main() { for (int i = 0, j = i; i < j; i++) { int i; i = j; } }") ≡ codes "program"
unfolding level within rows_within header_within statement_level braced_within armed_within wrapped signed_of residue
example_9 = refl

example_10 : checked Ilp32 (codes "int main() { for (int i = 0, j = j; ; ) ; }") ≡ codes "order 34"
unfolding level within rows_within header_within statement_level braced_within armed_within wrapped signed_of residue
example_10 = refl

example_11 : checked Ilp32 (codes "int f(int a) { for (int a = 1; ; ) ; } int main() { }") ≡ codes "program"
unfolding level within rows_within header_within statement_level braced_within armed_within wrapped signed_of residue
example_11 = refl

example_12 : checked Ilp32 (codes "int f(int a, int b) { int c; int b; } int main() { }") ≡ codes "again 34"
unfolding level within rows_within header_within statement_level braced_within armed_within wrapped signed_of residue
example_12 = refl

example_13 : checked Ilp32 (codes "int f(int a, int a); int main() { }") ≡ codes "program"
unfolding level within rows_within header_within statement_level braced_within armed_within wrapped signed_of residue
example_13 = refl

example_14 : checked Ilp32 (codes "int main() { __VERIFIER_nondet_size_t(); }") ≡ codes "name 14"
unfolding level within rows_within header_within statement_level braced_within armed_within wrapped signed_of residue
example_14 = refl

example_15 : checked Ilp32 (codes "int main() { zz[yy] = 1; }") ≡ codes "name 14"
unfolding level within rows_within header_within statement_level braced_within armed_within wrapped signed_of residue
example_15 = refl

example_16 : checked Ilp32 (codes "int main() { int x; y() + x++ + x; }") ≡ codes "name 21"
unfolding level within rows_within header_within statement_level braced_within armed_within wrapped signed_of residue
example_16 = refl

example_17 : checked Ilp32 (codes "int main() { int x; x++ + x + y(); }") ≡ codes "order 21"
unfolding level within rows_within header_within statement_level braced_within armed_within wrapped signed_of residue
example_17 = refl

example_18 : checked Ilp32 (codes "int main() { x; break; }") ≡ codes "name 14"
unfolding level within rows_within header_within statement_level braced_within armed_within wrapped signed_of residue
example_18 = refl

example_19 : checked Ilp32 (codes "int main() { break; x; }") ≡ codes "typing 14"
unfolding level within rows_within header_within statement_level braced_within armed_within wrapped signed_of residue
example_19 = refl

example_20 : checked Ilp32 (codes "int main() { int x; int x = y; }") ≡ codes "again 25"
unfolding level within rows_within header_within statement_level braced_within armed_within wrapped signed_of residue
example_20 = refl

example_21 : checked Ilp32 (codes "int main() { int x = y; int x; }") ≡ codes "name 22"
unfolding level within rows_within header_within statement_level braced_within armed_within wrapped signed_of residue
example_21 = refl

example_22 : checked Ilp32 (codes "int f(); int main() { f(zz); }") ≡ codes "body 23"
unfolding level within rows_within header_within statement_level braced_within armed_within wrapped signed_of residue
example_22 = refl

example_23 : checked Ilp32 (codes "int f(); int main() { zz + f(); }") ≡ codes "name 23"
unfolding level within rows_within header_within statement_level braced_within armed_within wrapped signed_of residue
example_23 = refl

example_24 : checked Ilp32 (codes "int main() { x: x; }") ≡ codes "name 17"
unfolding level within rows_within header_within statement_level braced_within armed_within wrapped signed_of residue
example_24 = refl

example_25 : checked Ilp32 (codes "int f(void); int f() { } int main() { f(); }") ≡ codes "program"
unfolding level within rows_within header_within statement_level braced_within armed_within wrapped signed_of residue
example_25 = refl

example_26 : checked Ilp32 (codes "int f(int); int f() { } int main() { }") ≡ codes "again 17"
unfolding level within rows_within header_within statement_level braced_within armed_within wrapped signed_of residue
example_26 = refl

example_27 : checked Ilp32 (codes "void abort(int); int main() { abort(1); }") ≡ codes "typing 31"
unfolding level within rows_within header_within statement_level braced_within armed_within wrapped signed_of residue
example_27 = refl

example_28 : checked Ilp32 (codes "void abort(void); void abort(int); int main() { }") ≡ codes "again 24"
unfolding level within rows_within header_within statement_level braced_within armed_within wrapped signed_of residue
example_28 = refl

example_29 : checked Ilp32 (codes "void exit(); void exit(int); int main() { exit(1); }") ≡ codes "program"
unfolding level within rows_within header_within statement_level braced_within armed_within wrapped signed_of residue
example_29 = refl

example_30 : checked Ilp32 (codes "int abort; void abort(void); int main() { }") ≡ codes "again 17"
unfolding level within rows_within header_within statement_level braced_within armed_within wrapped signed_of residue
example_30 = refl

example_31 : checked Ilp32 (codes "int exit; int main() { exit(1); }") ≡ codes "typing 24"
unfolding level within rows_within header_within statement_level braced_within armed_within wrapped signed_of residue
example_31 = refl

example_32 : checked Ilp32 (codes "signed char __VERIFIER_nondet_char(); int main() { }") ≡ codes "again 13"
unfolding level within rows_within header_within statement_level braced_within armed_within wrapped signed_of residue
example_32 = refl

example_33 : checked Ilp32 (codes "unsigned __VERIFIER_nondet_unsigned(void); int main() { return __VERIFIER_nondet_unsigned(); }") ≡ codes "program"
unfolding level within rows_within header_within statement_level braced_within armed_within wrapped signed_of residue
example_33 = refl

example_34 : checked Ilp32 (codes "int f(); int main() { int f; f = 1; { f(); } } int f() { } ") ≡ codes "typing 39"
unfolding level within rows_within header_within statement_level braced_within armed_within wrapped signed_of residue
example_34 = refl

example_35 : checked Ilp32 (codes "int a; int a[0]; int main() { }") ≡ codes "again 12"
unfolding level within rows_within header_within statement_level braced_within armed_within wrapped signed_of residue
example_35 = refl

example_36 : checked Ilp32 (codes "int main() { } int main(int a) { }") ≡ codes "again 20"
unfolding level within rows_within header_within statement_level braced_within armed_within wrapped signed_of residue
example_36 = refl

example_37 : checked Ilp32 (codes "int main(int a) { } int x; int x;") ≡ codes "again 32"
unfolding level within rows_within header_within statement_level braced_within armed_within wrapped signed_of residue
example_37 = refl

example_38 : checked Ilp32 (codes "int main() { if (1) { a: ; } else { a: ; } }") ≡ codes "again 37"
unfolding level within rows_within header_within statement_level braced_within armed_within wrapped signed_of residue
example_38 = refl

example_39 : checked Ilp32 (codes "int main() { a: b: a: ; }") ≡ codes "again 20"
unfolding level within rows_within header_within statement_level braced_within armed_within wrapped signed_of residue
example_39 = refl

example_40 : checked Ilp32 (codes "int main() { while (1) a: break; }") ≡ codes "program"
unfolding level within rows_within header_within statement_level braced_within armed_within wrapped signed_of residue
example_40 = refl

example_41 : checked Ilp32 (codes "int main() { a: break; }") ≡ codes "typing 17"
unfolding level within rows_within header_within statement_level braced_within armed_within wrapped signed_of residue
example_41 = refl

example_42 : checked Ilp32 (codes "int f(int a) { a: return a; } int main() { }") ≡ codes "program"
unfolding level within rows_within header_within statement_level braced_within armed_within wrapped signed_of residue
example_42 = refl

example_43 : checked Ilp32 (codes "int f(const char *); int f() { } int main() { f() + f(); }") ≡ codes "order 47"
unfolding level within rows_within header_within statement_level braced_within armed_within wrapped signed_of residue
example_43 = refl

example_44 : checked Ilp32 (codes "int f(const char *); int f() { } int main() { f(1); }") ≡ codes "typing 47"
unfolding level within rows_within header_within statement_level braced_within armed_within wrapped signed_of residue
example_44 = refl

example_45 : checked Ilp32 (codes "void reach_error(const char *); int main() { reach_error(); }") ≡ codes "body 46"
unfolding level within rows_within header_within statement_level braced_within armed_within wrapped signed_of residue
example_45 = refl

example_46 : checked Ilp32 (codes "int main(const char *); int main() { }") ≡ codes "program"
unfolding level within rows_within header_within statement_level braced_within armed_within wrapped signed_of residue
example_46 = refl

example_47 : checked Ilp32 (codes "int x; int main() { int x[x]; }") ≡ codes "size 25"
unfolding level within rows_within header_within statement_level braced_within armed_within wrapped signed_of residue
example_47 = refl

example_48 : checked Ilp32 (codes "int a['a']; int b[(char)257]; int c[-1 + 2]; int d[1 << 8]; int main() { }") ≡ codes "program"
unfolding level within rows_within header_within statement_level braced_within armed_within wrapped signed_of residue
example_48 = refl

example_49 : checked Ilp32 (codes "int a[1 << 11]; int main() { }") ≡ codes "size 05"
unfolding level within rows_within header_within statement_level braced_within armed_within wrapped signed_of residue
example_49 = refl

example_50 : checked Ilp32 (codes "int a[1 + y]; int main() { }") ≡ codes "size 05"
unfolding level within rows_within header_within statement_level braced_within armed_within wrapped signed_of residue
example_50 = refl

example_51 : checked Ilp32 (codes "int main() { int a[3] = 1, b[0]; }") ≡ codes "typing 18"
unfolding level within rows_within header_within statement_level braced_within armed_within wrapped signed_of residue
example_51 = refl

example_52 : checked Ilp32 (codes "int main() { int b[0], a[3] = 1; }") ≡ codes "size 18"
unfolding level within rows_within header_within statement_level braced_within armed_within wrapped signed_of residue
example_52 = refl

example_53 : checked Ilp32 (codes "int main() { int a[2] = { 1, y, 3 }; }") ≡ codes "size 18"
unfolding level within rows_within header_within statement_level braced_within armed_within wrapped signed_of residue
example_53 = refl

example_54 : checked Ilp32 (codes "int main() { int a[2] = { 1, y }, b[0]; }") ≡ codes "name 30"
unfolding level within rows_within header_within statement_level braced_within armed_within wrapped signed_of residue
example_54 = refl

example_55 : checked Ilp32 (codes "int a[1 || 1 / 0]; int b[2147483648 > 0]; int c[(_Bool)7]; int d[-1 > 0u]; int main() { }") ≡ codes "program"
unfolding level within rows_within header_within statement_level braced_within armed_within wrapped signed_of residue
example_55 = refl

example_56 : checked Ilp32 (codes "int a[2147483647 + 1 > 0]; int main() { }") ≡ codes "size 05"
unfolding level within rows_within header_within statement_level braced_within armed_within wrapped signed_of residue
example_56 = refl

example_57 : checked Ilp32 (codes "int a[!1]; int main() { }") ≡ codes "size 05"
unfolding level within rows_within header_within statement_level braced_within armed_within wrapped signed_of residue
example_57 = refl

example_58 : checked Ilp32 (codes "int a[-7 / 2]; int main() { }") ≡ codes "size 05"
unfolding level within rows_within header_within statement_level braced_within armed_within wrapped signed_of residue
example_58 = refl

example_59 : checked Ilp32 (codes "int main() { int a[(zz, 3)]; }") ≡ codes "size 18"
unfolding level within rows_within header_within statement_level braced_within armed_within wrapped signed_of residue
example_59 = refl

example_60 : checked Ilp32 (codes "void v() { } int main() { int a[v()]; }") ≡ codes "size 31"
unfolding level within rows_within header_within statement_level braced_within armed_within wrapped signed_of residue
example_60 = refl

example_61 : checked Ilp32 (codes "long long x = 2147483648; int y = -2147483648; unsigned z = -1; char c = 300; int main() { }") ≡ codes "program"
unfolding level within rows_within header_within statement_level braced_within armed_within wrapped signed_of residue
example_61 = refl

example_62 : checked Ilp32 (codes "int x = -2147483647 - 2; int main() { }") ≡ codes "typing 09"
unfolding level within rows_within header_within statement_level braced_within armed_within wrapped signed_of residue
example_62 = refl

example_63 : checked Ilp32 (codes "int x = 2147483647 * 2; int main() { }") ≡ codes "typing 09"
unfolding level within rows_within header_within statement_level braced_within armed_within wrapped signed_of residue
example_63 = refl

example_64 : checked Ilp32 (codes "int x = 5 % 0; int main() { }") ≡ codes "typing 09"
unfolding level within rows_within header_within statement_level braced_within armed_within wrapped signed_of residue
example_64 = refl

example_65 : checked Ilp32 (codes "int x = 5 >> -1; int main() { }") ≡ codes "typing 09"
unfolding level within rows_within header_within statement_level braced_within armed_within wrapped signed_of residue
example_65 = refl

example_66 : checked Ilp32 (codes "int x = 1 << 31; int main() { }") ≡ codes "typing 09"
unfolding level within rows_within header_within statement_level braced_within armed_within wrapped signed_of residue
example_66 = refl

example_67 : checked Ilp32 (codes "unsigned x = 1u << 31; int y = 5 >> 1; int z = 0 ? 1 / 0 : 3; int main() { }") ≡ codes "program"
unfolding level within rows_within header_within statement_level braced_within armed_within wrapped signed_of residue
example_67 = refl

example_68 : checked Ilp32 (codes "int x = -(-2147483647 - 1); int main() { }") ≡ codes "typing 09"
unfolding level within rows_within header_within statement_level braced_within armed_within wrapped signed_of residue
example_68 = refl

example_69 : checked Ilp32 (codes "int x = (1 / 0, 2); int main() { }") ≡ codes "typing 09"
unfolding level within rows_within header_within statement_level braced_within armed_within wrapped signed_of residue
example_69 = refl

example_70 : checked Ilp32 (codes "int x = (1, y); int main() { }") ≡ codes "typing 09"
unfolding level within rows_within header_within statement_level braced_within armed_within wrapped signed_of residue
example_70 = refl

example_71 : checked Ilp32 (codes "int x = 1, y = x; int main() { }") ≡ codes "typing 16"
unfolding level within rows_within header_within statement_level braced_within armed_within wrapped signed_of residue
example_71 = refl

example_72 : checked Ilp32 (codes "int x = (void)1; int main() { }") ≡ codes "typing 09"
unfolding level within rows_within header_within statement_level braced_within armed_within wrapped signed_of residue
example_72 = refl

example_73 : checked Ilp32 (codes "int x = ((void)1, 2); int main() { }") ≡ codes "program"
unfolding level within rows_within header_within statement_level braced_within armed_within wrapped signed_of residue
example_73 = refl

example_74 : checked Ilp32 (codes "int x = ((void)(1 / 0), 2); int main() { }") ≡ codes "typing 09"
unfolding level within rows_within header_within statement_level braced_within armed_within wrapped signed_of residue
example_74 = refl

example_75 : checked Ilp32 (codes "int x = { y }; int main() { }") ≡ codes "typing 05"
unfolding level within rows_within header_within statement_level braced_within armed_within wrapped signed_of residue
example_75 = refl

example_76 : checked Ilp32 (codes "int a[2] = { 1, 2147483647 + 1 }; int main() { }") ≡ codes "typing 17"
unfolding level within rows_within header_within statement_level braced_within armed_within wrapped signed_of residue
example_76 = refl

example_77 : checked Ilp32 (codes "int x = 9223372036854775808; int main() { }") ≡ codes "typing 09"
unfolding level within rows_within header_within statement_level braced_within armed_within wrapped signed_of residue
example_77 = refl

example_78 : checked Ilp32 (codes "int x = y; int main() { }") ≡ codes "name 09"
unfolding level within rows_within header_within statement_level braced_within armed_within wrapped signed_of residue
example_78 = refl

example_79 : checked Ilp32 (codes "int x = 1 + y; int main() { }") ≡ codes "typing 09"
unfolding level within rows_within header_within statement_level braced_within armed_within wrapped signed_of residue
example_79 = refl

example_80 : checked Ilp32 (codes "int x = f(); int main() { }") ≡ codes "name 09"
unfolding level within rows_within header_within statement_level braced_within armed_within wrapped signed_of residue
example_80 = refl

example_81 : checked Ilp32 (codes "int main() { int a[2]; a++; }") ≡ codes "typing 24"
unfolding level within rows_within header_within statement_level braced_within armed_within wrapped signed_of residue
example_81 = refl

example_82 : checked Ilp32 (codes "int main() { int a[2]; a[a] = 1; }") ≡ codes "typing 26"
unfolding level within rows_within header_within statement_level braced_within armed_within wrapped signed_of residue
example_82 = refl

example_83 : checked Ilp32 (codes "int f(int a) { } int main() { int a[2]; f(a); }") ≡ codes "typing 43"
unfolding level within rows_within header_within statement_level braced_within armed_within wrapped signed_of residue
example_83 = refl

example_84 : checked Ilp32 (codes "int main() { int x; x = (void)1; }") ≡ codes "typing 25"
unfolding level within rows_within header_within statement_level braced_within armed_within wrapped signed_of residue
example_84 = refl

example_85 : checked Ilp32 (codes "int main() { int x; (void)x; (void)(x, 1); (void)(void)x; }") ≡ codes "program"
unfolding level within rows_within header_within statement_level braced_within armed_within wrapped signed_of residue
example_85 = refl

example_86 : checked Ilp32 (codes "int main() { (int)(void)1; }") ≡ codes "typing 19"
unfolding level within rows_within header_within statement_level braced_within armed_within wrapped signed_of residue
example_86 = refl

example_87 : checked Ilp32 (codes "int main() { (void)1 + 2; }") ≡ codes "typing 14"
unfolding level within rows_within header_within statement_level braced_within armed_within wrapped signed_of residue
example_87 = refl

example_88 : checked Ilp32 (codes "void v() { } int main() { for (; v(); ) ; }") ≡ codes "typing 34"
unfolding level within rows_within header_within statement_level braced_within armed_within wrapped signed_of residue
example_88 = refl

example_89 : checked Ilp32 (codes "void v() { } int main() { do ; while (v()); }") ≡ codes "typing 39"
unfolding level within rows_within header_within statement_level braced_within armed_within wrapped signed_of residue
example_89 = refl

example_90 : checked Ilp32 (codes "void v() { } int main() { int a[2]; a[v()] = 1; }") ≡ codes "typing 39"
unfolding level within rows_within header_within statement_level braced_within armed_within wrapped signed_of residue
example_90 = refl

example_91 : checked Ilp32 (codes "void v() { } int main() { v() ? 1 : 2; }") ≡ codes "typing 27"
unfolding level within rows_within header_within statement_level braced_within armed_within wrapped signed_of residue
example_91 = refl

example_92 : checked Ilp32 (codes "void v() { } int main() { 1 ? (1 ? v() : 2) : v(); }") ≡ codes "typing 27"
unfolding level within rows_within header_within statement_level braced_within armed_within wrapped signed_of residue
example_92 = refl

example_93 : checked Ilp32 (codes "void v() { } int main() { 1 ? 2 : (1 ? 2 : v()); }") ≡ codes "typing 35"
unfolding level within rows_within header_within statement_level braced_within armed_within wrapped signed_of residue
example_93 = refl

example_94 : checked Ilp32 (codes "void v() { } int main() { 1 ? v() : (void)0; }") ≡ codes "program"
unfolding level within rows_within header_within statement_level braced_within armed_within wrapped signed_of residue
example_94 = refl

example_95 : checked Ilp32 (codes "void v() { } int main() { v()++; }") ≡ codes "typing 27"
unfolding level within rows_within header_within statement_level braced_within armed_within wrapped signed_of residue
example_95 = refl

example_96 : checked Ilp32 (codes "void v() { } int main() { v() = 1; }") ≡ codes "typing 27"
unfolding level within rows_within header_within statement_level braced_within armed_within wrapped signed_of residue
example_96 = refl

example_97 : checked Ilp32 (codes "int f() { } int main() { f()++; }") ≡ codes "typing 26"
unfolding level within rows_within header_within statement_level braced_within armed_within wrapped signed_of residue
example_97 = refl

example_98 : checked Ilp32 (codes "int main() { zz++; }") ≡ codes "name 14"
unfolding level within rows_within header_within statement_level braced_within armed_within wrapped signed_of residue
example_98 = refl

example_99 : checked Ilp32 (codes "void v() { } int main() { return 1, v(); }") ≡ codes "typing 34"
unfolding level within rows_within header_within statement_level braced_within armed_within wrapped signed_of residue
example_99 = refl
