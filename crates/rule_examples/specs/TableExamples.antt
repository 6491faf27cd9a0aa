-- Arrays of two dimensions, their indexes and rows. Each is a small source, and its first refusal with its column.
use Rattle.std.specs.Prelude.{◌≡◌, refl, codes}
use Rattle.c_core.specs.declared.number.DataModel.TheVariants.{Ilp32}
use Rattle.c_parser.specs.ReadExpressions.{level, within}
use Rattle.c_parser.specs.ReadStatements.{rows_within, header_within, statement_level, braced_within, armed_within}
use Rattle.c_core.specs.Types.{wrapped, signed_of, residue}
use Rattle.rule_examples.specs.Deciding.{checked}

example_0 : checked Ilp32 (codes "int main() { int a[2][3]; a[1][2] = 4; }") ≡ codes "program"
unfolding level within rows_within header_within statement_level braced_within armed_within wrapped signed_of residue
example_0 = refl

example_1 : checked Ilp32 (codes "int main() { int a[32][32]; }") ≡ codes "program"
unfolding level within rows_within header_within statement_level braced_within armed_within wrapped signed_of residue
example_1 = refl

example_2 : checked Ilp32 (codes "int main() { int a[32][33]; }") ≡ codes "size 18"
unfolding level within rows_within header_within statement_level braced_within armed_within wrapped signed_of residue
example_2 = refl

example_3 : checked Ilp32 (codes "int main() { int a[2][0]; }") ≡ codes "size 18"
unfolding level within rows_within header_within statement_level braced_within armed_within wrapped signed_of residue
example_3 = refl

example_4 : checked Ilp32 (codes "int main() { int a[2][3]; a[1] = 4; }") ≡ codes "typing 27"
unfolding level within rows_within header_within statement_level braced_within armed_within wrapped signed_of residue
example_4 = refl

example_5 : checked Ilp32 (codes "int main() { int a[2]; a[1][0] = 4; }") ≡ codes "typing 24"
unfolding level within rows_within header_within statement_level braced_within armed_within wrapped signed_of residue
example_5 = refl

example_6 : checked Ilp32 (codes "int main() { int a; a[1] = 4; }") ≡ codes "typing 21"
unfolding level within rows_within header_within statement_level braced_within armed_within wrapped signed_of residue
example_6 = refl

example_7 : checked Ilp32 (codes "int main() { int a[2][3]; a[1][zz] = 4; }") ≡ codes "name 32"
unfolding level within rows_within header_within statement_level braced_within armed_within wrapped signed_of residue
example_7 = refl

example_8 : checked Ilp32 (codes "int main() { int a[2][2] = { { 1 }, { 2, 3 } }; }") ≡ codes "program"
unfolding level within rows_within header_within statement_level braced_within armed_within wrapped signed_of residue
example_8 = refl

example_9 : checked Ilp32 (codes "int main() { int a[2][2] = { { 1 }, { 2, 3, 4 } }; }") ≡ codes "size 18"
unfolding level within rows_within header_within statement_level braced_within armed_within wrapped signed_of residue
example_9 = refl

example_10 : checked Ilp32 (codes "int main() { int a[2][2] = { { 1 }, { 2 }, { 3 } }; }") ≡ codes "size 18"
unfolding level within rows_within header_within statement_level braced_within armed_within wrapped signed_of residue
example_10 = refl

example_11 : checked Ilp32 (codes "int main() { int a[2][2] = { 1, 2, 3, 4 }; }") ≡ codes "program"
unfolding level within rows_within header_within statement_level braced_within armed_within wrapped signed_of residue
example_11 = refl

example_12 : checked Ilp32 (codes "int main() { int a[2][2] = { 1, 2, 3, 4, 5 }; }") ≡ codes "size 18"
unfolding level within rows_within header_within statement_level braced_within armed_within wrapped signed_of residue
example_12 = refl

example_13 : checked Ilp32 (codes "int main() { int a[2] = { { 1 }, { 2 } }; }") ≡ codes "typing 18"
unfolding level within rows_within header_within statement_level braced_within armed_within wrapped signed_of residue
example_13 = refl

example_14 : checked Ilp32 (codes "int main() { int a = { { 1 } }; }") ≡ codes "typing 18"
unfolding level within rows_within header_within statement_level braced_within armed_within wrapped signed_of residue
example_14 = refl

example_15 : checked Ilp32 (codes "int main() { int a[2][2] = 1; }") ≡ codes "typing 18"
unfolding level within rows_within header_within statement_level braced_within armed_within wrapped signed_of residue
example_15 = refl

example_16 : checked Ilp32 (codes "int a[2][2] = { { 1 }, { 2, zz } }; int main() { }") ≡ codes "name 29"
unfolding level within rows_within header_within statement_level braced_within armed_within wrapped signed_of residue
example_16 = refl

example_17 : checked Ilp32 (codes "int a[2][2] = { { 1 }, { 2, 1 / 0 } }; int main() { }") ≡ codes "typing 29"
unfolding level within rows_within header_within statement_level braced_within armed_within wrapped signed_of residue
example_17 = refl

example_18 : checked Ilp32 (codes "int main() { int i = 0, a[2][2]; a[i++][i] = 1; }") ≡ codes "order 34"
unfolding level within rows_within header_within statement_level braced_within armed_within wrapped signed_of residue
example_18 = refl

example_19 : checked Ilp32 (codes "int f() { return 0; } int main() { int a[2][2]; return a[f()][f()]; }") ≡ codes "order 56"
unfolding level within rows_within header_within statement_level braced_within armed_within wrapped signed_of residue
example_19 = refl

example_20 : checked Ilp32 (codes "int main() { int a[2][2]; a[0][a[0][0]++] = 1; }") ≡ codes "order 27"
unfolding level within rows_within header_within statement_level braced_within armed_within wrapped signed_of residue
example_20 = refl

example_21 : checked Ilp32 (codes "int main() { int a[2][2] = { { 1, a[0][0] } }; }") ≡ codes "order 35"
unfolding level within rows_within header_within statement_level braced_within armed_within wrapped signed_of residue
example_21 = refl

example_22 : checked Ilp32 (codes "int a[1024], b[1025]; int main() { }") ≡ codes "size 14"
unfolding level within rows_within header_within statement_level braced_within armed_within wrapped signed_of residue
example_22 = refl
