-- Rules on types. Each is a small source, and its first refusal with its column.
use Rattle.std.specs.Prelude.{◌≡◌, refl, codes}
use Rattle.c_core.specs.declared.number.DataModel.TheVariants.{Ilp32}
use Rattle.c_parser.specs.ReadExpressions.{level, within}
use Rattle.c_parser.specs.ReadStatements.{rows_within, header_within, statement_level, braced_within, armed_within}
use Rattle.c_core.specs.Types.{wrapped, signed_of, residue}
use Rattle.rule_examples.specs.Deciding.{checked}

example_0 : checked Ilp32 (codes "void v() { } int main() { int x; x = v(); }") ≡ codes "typing 38"
unfolding level within rows_within header_within statement_level braced_within armed_within wrapped signed_of residue
example_0 = refl

example_1 : checked Ilp32 (codes "void v() { } int main() { v() + 1; }") ≡ codes "typing 27"
unfolding level within rows_within header_within statement_level braced_within armed_within wrapped signed_of residue
example_1 = refl

example_2 : checked Ilp32 (codes "void v() { } int main() { 1 + (v()); }") ≡ codes "typing 31"
unfolding level within rows_within header_within statement_level braced_within armed_within wrapped signed_of residue
example_2 = refl

example_3 : checked Ilp32 (codes "void v() { } int main() { if (v()) ; }") ≡ codes "typing 31"
unfolding level within rows_within header_within statement_level braced_within armed_within wrapped signed_of residue
example_3 = refl

example_4 : checked Ilp32 (codes "void v() { } int main() { !v(); }") ≡ codes "typing 28"
unfolding level within rows_within header_within statement_level braced_within armed_within wrapped signed_of residue
example_4 = refl

example_5 : checked Ilp32 (codes "void v() { } int main() { v(); (void)v(); (void)1; v(), 1; for (v(); ; v()) ; }") ≡ codes "program"
unfolding level within rows_within header_within statement_level braced_within armed_within wrapped signed_of residue
example_5 = refl

example_6 : checked Ilp32 (codes "void v() { } int main() { (int)v(); }") ≡ codes "typing 32"
unfolding level within rows_within header_within statement_level braced_within armed_within wrapped signed_of residue
example_6 = refl

example_7 : checked Ilp32 (codes "void v() { } int main() { int x; x = (1, v()); }") ≡ codes "typing 38"
unfolding level within rows_within header_within statement_level braced_within armed_within wrapped signed_of residue
example_7 = refl

example_8 : checked Ilp32 (codes "void v() { } int main() { int x; x = (v(), 1); }") ≡ codes "program"
unfolding level within rows_within header_within statement_level braced_within armed_within wrapped signed_of residue
example_8 = refl

example_9 : checked Ilp32 (codes "void v() { } int main() { 1 && v(); }") ≡ codes "typing 32"
unfolding level within rows_within header_within statement_level braced_within armed_within wrapped signed_of residue
example_9 = refl

example_10 : checked Ilp32 (codes "void v() { } int f(int a) { } int main() { f(v()); }") ≡ codes "typing 46"
unfolding level within rows_within header_within statement_level braced_within armed_within wrapped signed_of residue
example_10 = refl

example_11 : checked Ilp32 (codes "void v() { } int main() { 1 ? v() : v(); }") ≡ codes "program"
unfolding level within rows_within header_within statement_level braced_within armed_within wrapped signed_of residue
example_11 = refl

example_12 : checked Ilp32 (codes "void v() { } int main() { 1 ? v() : 2; }") ≡ codes "typing 27"
unfolding level within rows_within header_within statement_level braced_within armed_within wrapped signed_of residue
example_12 = refl

example_13 : checked Ilp32 (codes "void v() { } int main() { 1 ? 2 : v(); }") ≡ codes "typing 27"
unfolding level within rows_within header_within statement_level braced_within armed_within wrapped signed_of residue
example_13 = refl

example_14 : checked Ilp32 (codes "void v() { } int main() { int x; x = 1 ? v() : v(); }") ≡ codes "typing 38"
unfolding level within rows_within header_within statement_level braced_within armed_within wrapped signed_of residue
example_14 = refl

example_15 : checked Ilp32 (codes "void v() { } int main() { return v(); }") ≡ codes "typing 34"
unfolding level within rows_within header_within statement_level braced_within armed_within wrapped signed_of residue
example_15 = refl

example_16 : checked Ilp32 (codes "void v() { } int main() { int x = v(); }") ≡ codes "typing 35"
unfolding level within rows_within header_within statement_level braced_within armed_within wrapped signed_of residue
example_16 = refl

example_17 : checked Ilp32 (codes "int f(int a) { } int main() { f(); }") ≡ codes "typing 31"
unfolding level within rows_within header_within statement_level braced_within armed_within wrapped signed_of residue
example_17 = refl

example_18 : checked Ilp32 (codes "int f(int a) { } int main() { f(1, 2); }") ≡ codes "typing 31"
unfolding level within rows_within header_within statement_level braced_within armed_within wrapped signed_of residue
example_18 = refl

example_19 : checked Ilp32 (codes "int f(int a) { } int main() { f(1); }") ≡ codes "program"
unfolding level within rows_within header_within statement_level braced_within armed_within wrapped signed_of residue
example_19 = refl

example_20 : checked Ilp32 (codes "int f(); int main() { f(); } int f(int a) { }") ≡ codes "typing 23"
unfolding level within rows_within header_within statement_level braced_within armed_within wrapped signed_of residue
example_20 = refl

example_21 : checked Ilp32 (codes "int f(); int main() { f(1); } int f(int a) { }") ≡ codes "program"
unfolding level within rows_within header_within statement_level braced_within armed_within wrapped signed_of residue
example_21 = refl

example_22 : checked Ilp32 (codes "int f(int); int f(); int main() { f(); } int f(int a) { }") ≡ codes "typing 35"
unfolding level within rows_within header_within statement_level braced_within armed_within wrapped signed_of residue
example_22 = refl

example_23 : checked Ilp32 (codes "int f(int); int main() { f(1); } int f(int a, int b) { }") ≡ codes "again 38"
unfolding level within rows_within header_within statement_level braced_within armed_within wrapped signed_of residue
example_23 = refl

example_24 : checked Ilp32 (codes "int f() { } int main() { f(1); }") ≡ codes "typing 26"
unfolding level within rows_within header_within statement_level braced_within armed_within wrapped signed_of residue
example_24 = refl

example_25 : checked Ilp32 (codes "int main() { __VERIFIER_nondet_int(1); }") ≡ codes "typing 14"
unfolding level within rows_within header_within statement_level braced_within armed_within wrapped signed_of residue
example_25 = refl

example_26 : checked Ilp32 (codes "int main() { exit(); }") ≡ codes "typing 14"
unfolding level within rows_within header_within statement_level braced_within armed_within wrapped signed_of residue
example_26 = refl

example_27 : checked Ilp32 (codes "int main() { exit(1, 2); }") ≡ codes "typing 14"
unfolding level within rows_within header_within statement_level braced_within armed_within wrapped signed_of residue
example_27 = refl

example_28 : checked Ilp32 (codes "int main() { exit(1); }") ≡ codes "program"
unfolding level within rows_within header_within statement_level braced_within armed_within wrapped signed_of residue
example_28 = refl

example_29 : checked Ilp32 (codes "int main() { abort(1); }") ≡ codes "typing 14"
unfolding level within rows_within header_within statement_level braced_within armed_within wrapped signed_of residue
example_29 = refl

example_30 : checked Ilp32 (codes "int main() { reach_error(1); }") ≡ codes "typing 14"
unfolding level within rows_within header_within statement_level braced_within armed_within wrapped signed_of residue
example_30 = refl

example_31 : checked Ilp32 (codes "int main() { 1 = 2; }") ≡ codes "typing 14"
unfolding level within rows_within header_within statement_level braced_within armed_within wrapped signed_of residue
example_31 = refl

example_32 : checked Ilp32 (codes "int main() { int x; (x + 1) = 2; }") ≡ codes "typing 21"
unfolding level within rows_within header_within statement_level braced_within armed_within wrapped signed_of residue
example_32 = refl

example_33 : checked Ilp32 (codes "int main() { int x; -x = 2; }") ≡ codes "typing 21"
unfolding level within rows_within header_within statement_level braced_within armed_within wrapped signed_of residue
example_33 = refl

example_34 : checked Ilp32 (codes "int main() { int x; (x) = 2; ((x))++; }") ≡ codes "program"
unfolding level within rows_within header_within statement_level braced_within armed_within wrapped signed_of residue
example_34 = refl

example_35 : checked Ilp32 (codes "int main() { 1++; }") ≡ codes "typing 14"
unfolding level within rows_within header_within statement_level braced_within armed_within wrapped signed_of residue
example_35 = refl

example_36 : checked Ilp32 (codes "int main() { ++1; }") ≡ codes "typing 16"
unfolding level within rows_within header_within statement_level braced_within armed_within wrapped signed_of residue
example_36 = refl

example_37 : checked Ilp32 (codes "int main() { int x; x++++; }") ≡ codes "typing 21"
unfolding level within rows_within header_within statement_level braced_within armed_within wrapped signed_of residue
example_37 = refl

example_38 : checked Ilp32 (codes "int main() { int x; --x--; }") ≡ codes "typing 23"
unfolding level within rows_within header_within statement_level braced_within armed_within wrapped signed_of residue
example_38 = refl

example_39 : checked Ilp32 (codes "int main() { main() = 2; }") ≡ codes "typing 14"
unfolding level within rows_within header_within statement_level braced_within armed_within wrapped signed_of residue
example_39 = refl

example_40 : checked Ilp32 (codes "int main() { int x, y; (x, y) = 2; }") ≡ codes "typing 24"
unfolding level within rows_within header_within statement_level braced_within armed_within wrapped signed_of residue
example_40 = refl

example_41 : checked Ilp32 (codes "int main() { int x, y; (x ? x : y) = 2; }") ≡ codes "typing 24"
unfolding level within rows_within header_within statement_level braced_within armed_within wrapped signed_of residue
example_41 = refl

example_42 : checked Ilp32 (codes "int main() { int x; (int)x = 2; }") ≡ codes "syntax 01"
unfolding level within rows_within header_within statement_level braced_within armed_within wrapped signed_of residue
example_42 = refl

example_43 : checked Ilp32 (codes "int main() { int a[3]; a = 2; }") ≡ codes "typing 24"
unfolding level within rows_within header_within statement_level braced_within armed_within wrapped signed_of residue
example_43 = refl

example_44 : checked Ilp32 (codes "int main() { int a[3]; a; }") ≡ codes "typing 24"
unfolding level within rows_within header_within statement_level braced_within armed_within wrapped signed_of residue
example_44 = refl

example_45 : checked Ilp32 (codes "int main() { int a[3]; (a) + 1; }") ≡ codes "typing 24"
unfolding level within rows_within header_within statement_level braced_within armed_within wrapped signed_of residue
example_45 = refl

example_46 : checked Ilp32 (codes "int main() { int a[3]; a[1] = a[2]; }") ≡ codes "program"
unfolding level within rows_within header_within statement_level braced_within armed_within wrapped signed_of residue
example_46 = refl

example_47 : checked Ilp32 (codes "int main() { int x; x[0]; }") ≡ codes "typing 21"
unfolding level within rows_within header_within statement_level braced_within armed_within wrapped signed_of residue
example_47 = refl

example_48 : checked Ilp32 (codes "int main() { int x; x[0] = 1; }") ≡ codes "typing 21"
unfolding level within rows_within header_within statement_level braced_within armed_within wrapped signed_of residue
example_48 = refl

example_49 : checked Ilp32 (codes "int main() { main; }") ≡ codes "typing 14"
unfolding level within rows_within header_within statement_level braced_within armed_within wrapped signed_of residue
example_49 = refl

example_50 : checked Ilp32 (codes "int main() { main[0]; }") ≡ codes "typing 14"
unfolding level within rows_within header_within statement_level braced_within armed_within wrapped signed_of residue
example_50 = refl

example_51 : checked Ilp32 (codes "int main() { main = 1; }") ≡ codes "typing 14"
unfolding level within rows_within header_within statement_level braced_within armed_within wrapped signed_of residue
example_51 = refl

example_52 : checked Ilp32 (codes "int main() { abort; }") ≡ codes "typing 14"
unfolding level within rows_within header_within statement_level braced_within armed_within wrapped signed_of residue
example_52 = refl

example_53 : checked Ilp32 (codes "int f(const char *); int main() { f; }") ≡ codes "typing 35"
unfolding level within rows_within header_within statement_level braced_within armed_within wrapped signed_of residue
example_53 = refl

example_54 : checked Ilp32 (codes "int main() { f; } int f(const char *);") ≡ codes "name 14"
unfolding level within rows_within header_within statement_level braced_within armed_within wrapped signed_of residue
example_54 = refl

example_55 : checked Ilp32 (codes "int main() { int x; x(); }") ≡ codes "typing 21"
unfolding level within rows_within header_within statement_level braced_within armed_within wrapped signed_of residue
example_55 = refl

example_56 : checked Ilp32 (codes "int main() { int x; 1 + (x(1)); }") ≡ codes "typing 25"
unfolding level within rows_within header_within statement_level braced_within armed_within wrapped signed_of residue
example_56 = refl

example_57 : checked Ilp32 (codes "int main() { int abort; abort(); }") ≡ codes "typing 25"
unfolding level within rows_within header_within statement_level braced_within armed_within wrapped signed_of residue
example_57 = refl

example_58 : checked Ilp32 (codes "int main() { int abort; abort = 1; }") ≡ codes "program"
unfolding level within rows_within header_within statement_level braced_within armed_within wrapped signed_of residue
example_58 = refl

example_59 : checked Ilp32 (codes "void v() { return 1; } int main() { }") ≡ codes "typing 12"
unfolding level within rows_within header_within statement_level braced_within armed_within wrapped signed_of residue
example_59 = refl

example_60 : checked Ilp32 (codes "void v() { } void w() { return v(); } int main() { }") ≡ codes "typing 25"
unfolding level within rows_within header_within statement_level braced_within armed_within wrapped signed_of residue
example_60 = refl

example_61 : checked Ilp32 (codes "void v() { return; } int main() { return 1; }") ≡ codes "program"
unfolding level within rows_within header_within statement_level braced_within armed_within wrapped signed_of residue
example_61 = refl

example_62 : checked Ilp32 (codes "int f() { return; } int main() { }") ≡ codes "typing 11"
unfolding level within rows_within header_within statement_level braced_within armed_within wrapped signed_of residue
example_62 = refl

example_63 : checked Ilp32 (codes "int main() { break; }") ≡ codes "typing 14"
unfolding level within rows_within header_within statement_level braced_within armed_within wrapped signed_of residue
example_63 = refl

example_64 : checked Ilp32 (codes "int main() { continue; }") ≡ codes "typing 14"
unfolding level within rows_within header_within statement_level braced_within armed_within wrapped signed_of residue
example_64 = refl

example_65 : checked Ilp32 (codes "int main() { if (1) break; }") ≡ codes "typing 21"
unfolding level within rows_within header_within statement_level braced_within armed_within wrapped signed_of residue
example_65 = refl

example_66 : checked Ilp32 (codes "int main() { while (1) { if (1) break; else continue; } }") ≡ codes "program"
unfolding level within rows_within header_within statement_level braced_within armed_within wrapped signed_of residue
example_66 = refl

example_67 : checked Ilp32 (codes "int main() { do { break; } while (1); for (;;) { continue; } }") ≡ codes "program"
unfolding level within rows_within header_within statement_level braced_within armed_within wrapped signed_of residue
example_67 = refl

example_68 : checked Ilp32 (codes "int main() { while (1) ; break; }") ≡ codes "typing 26"
unfolding level within rows_within header_within statement_level braced_within armed_within wrapped signed_of residue
example_68 = refl

example_69 : checked Ilp32 (codes "int main() { 9223372036854775808; }") ≡ codes "typing 14"
unfolding level within rows_within header_within statement_level braced_within armed_within wrapped signed_of residue
example_69 = refl

example_70 : checked Ilp32 (codes "int main() { 9223372036854775807; 9223372036854775808u; 0x8000000000000000; 0xffffffffffffffff; }") ≡ codes "program"
unfolding level within rows_within header_within statement_level braced_within armed_within wrapped signed_of residue
example_70 = refl

example_71 : checked Ilp32 (codes "int main() { -9223372036854775808l; }") ≡ codes "typing 15"
unfolding level within rows_within header_within statement_level braced_within armed_within wrapped signed_of residue
example_71 = refl

example_72 : checked Ilp32 (codes "int main() { 'a' + 1; }") ≡ codes "program"
unfolding level within rows_within header_within statement_level braced_within armed_within wrapped signed_of residue
example_72 = refl

example_73 : checked Ilp32 (codes "int x = 3; int y = -1; long z = 1 + 2 * 3; int main() { }") ≡ codes "program"
unfolding level within rows_within header_within statement_level braced_within armed_within wrapped signed_of residue
example_73 = refl

example_74 : checked Ilp32 (codes "int y; int x = y; int main() { }") ≡ codes "typing 16"
unfolding level within rows_within header_within statement_level braced_within armed_within wrapped signed_of residue
example_74 = refl

example_75 : checked Ilp32 (codes "int x = __VERIFIER_nondet_int(); int main() { }") ≡ codes "typing 09"
unfolding level within rows_within header_within statement_level braced_within armed_within wrapped signed_of residue
example_75 = refl

example_76 : checked Ilp32 (codes "int x = 2147483647 + 1; int main() { }") ≡ codes "typing 09"
unfolding level within rows_within header_within statement_level braced_within armed_within wrapped signed_of residue
example_76 = refl

example_77 : checked Ilp32 (codes "unsigned x = 4294967295u + 1u; int main() { }") ≡ codes "program"
unfolding level within rows_within header_within statement_level braced_within armed_within wrapped signed_of residue
example_77 = refl

example_78 : checked Ilp32 (codes "int x = 1 / 0; int main() { }") ≡ codes "typing 09"
unfolding level within rows_within header_within statement_level braced_within armed_within wrapped signed_of residue
example_78 = refl

example_79 : checked Ilp32 (codes "int x = 1 << 32; int main() { }") ≡ codes "typing 09"
unfolding level within rows_within header_within statement_level braced_within armed_within wrapped signed_of residue
example_79 = refl

example_80 : checked Ilp32 (codes "int x = -1 << 1; int main() { }") ≡ codes "typing 09"
unfolding level within rows_within header_within statement_level braced_within armed_within wrapped signed_of residue
example_80 = refl

example_81 : checked Ilp32 (codes "int x = 0 && 1 / 0; int y = 1 || 1 / 0; int z = 1 ? 2 : 1 / 0; int main() { }") ≡ codes "program"
unfolding level within rows_within header_within statement_level braced_within armed_within wrapped signed_of residue
example_81 = refl

example_82 : checked Ilp32 (codes "int x = 1 ? 2 : y; int main() { }") ≡ codes "typing 09"
unfolding level within rows_within header_within statement_level braced_within armed_within wrapped signed_of residue
example_82 = refl

example_83 : checked Ilp32 (codes "int x = (1, 2); int y = (char)300; int main() { }") ≡ codes "program"
unfolding level within rows_within header_within statement_level braced_within armed_within wrapped signed_of residue
example_83 = refl

example_84 : checked Ilp32 (codes "int x; int y = x++; int main() { }") ≡ codes "typing 16"
unfolding level within rows_within header_within statement_level braced_within armed_within wrapped signed_of residue
example_84 = refl

example_85 : checked Ilp32 (codes "int x; int y = (x = 1); int main() { }") ≡ codes "typing 16"
unfolding level within rows_within header_within statement_level braced_within armed_within wrapped signed_of residue
example_85 = refl

example_86 : checked Ilp32 (codes "int a[3] = { 1, 2 }; int main() { }") ≡ codes "program"
unfolding level within rows_within header_within statement_level braced_within armed_within wrapped signed_of residue
example_86 = refl

example_87 : checked Ilp32 (codes "int a[3] = { 1, a }; int main() { }") ≡ codes "typing 17"
unfolding level within rows_within header_within statement_level braced_within armed_within wrapped signed_of residue
example_87 = refl

example_88 : checked Ilp32 (codes "int a[3] = 1; int main() { }") ≡ codes "typing 05"
unfolding level within rows_within header_within statement_level braced_within armed_within wrapped signed_of residue
example_88 = refl

example_89 : checked Ilp32 (codes "int x = { 1 }; int main() { }") ≡ codes "typing 05"
unfolding level within rows_within header_within statement_level braced_within armed_within wrapped signed_of residue
example_89 = refl

example_90 : checked Ilp32 (codes "int main() { int a[3] = 1; }") ≡ codes "typing 18"
unfolding level within rows_within header_within statement_level braced_within armed_within wrapped signed_of residue
example_90 = refl

example_91 : checked Ilp32 (codes "int main() { int x = { 1 }; }") ≡ codes "typing 18"
unfolding level within rows_within header_within statement_level braced_within armed_within wrapped signed_of residue
example_91 = refl

example_92 : checked Ilp32 (codes "int main() { int y = 1; int a[3] = { y, y + 1, 3 }; }") ≡ codes "program"
unfolding level within rows_within header_within statement_level braced_within armed_within wrapped signed_of residue
example_92 = refl

example_93 : checked Ilp32 (codes "long x = 2147483647 + 1; int main() { }") ≡ codes "typing 10"
unfolding level within rows_within header_within statement_level braced_within armed_within wrapped signed_of residue
example_93 = refl
