-- Statements with arms. Each is a small source, and its first refusal with its column.
use Rattle.std.specs.Prelude.{◌≡◌, refl, codes}
use Rattle.c_core.specs.declared.number.DataModel.TheVariants.{Ilp32}
use Rattle.c_parser.specs.ReadExpressions.{level, within}
use Rattle.c_parser.specs.ReadStatements.{rows_within, header_within, statement_level, braced_within, armed_within}
use Rattle.c_core.specs.Types.{wrapped, signed_of, residue}
use Rattle.rule_examples.specs.Deciding.{checked}

example_0 : checked Ilp32 (codes "int main() { int x = 1; switch (x) { case 1: x = 2; case 2: break; default: ; } }") ≡ codes "program"
unfolding level within rows_within header_within statement_level braced_within armed_within wrapped signed_of residue
example_0 = refl

example_1 : checked Ilp32 (codes "int main() { int x = 1; switch (x) { case 1: ; case 2: ; case 1: ; } }") ≡ codes "again 58"
unfolding level within rows_within header_within statement_level braced_within armed_within wrapped signed_of residue
example_1 = refl

example_2 : checked Ilp32 (codes "int main() { int x = 1; switch (x) { default: ; case 2: ; default: ; } }") ≡ codes "again 59"
unfolding level within rows_within header_within statement_level braced_within armed_within wrapped signed_of residue
example_2 = refl

example_3 : checked Ilp32 (codes "int main() { switch (1) { case 1: case 2: ; } switch (1) { case 1: ; } }") ≡ codes "program"
unfolding level within rows_within header_within statement_level braced_within armed_within wrapped signed_of residue
example_3 = refl

example_4 : checked Ilp32 (codes "int main() { switch (1) { case 1: switch (2) { case 1: ; } } }") ≡ codes "program"
unfolding level within rows_within header_within statement_level braced_within armed_within wrapped signed_of residue
example_4 = refl

example_5 : checked Ilp32 (codes "int main() { switch (1) { case 0: ; case 4294967296ll: ; } }") ≡ codes "again 37"
unfolding level within rows_within header_within statement_level braced_within armed_within wrapped signed_of residue
example_5 = refl

example_6 : checked Ilp32 (codes "int main() { char c = 1; switch (c) { case 1: ; case 257: ; } }") ≡ codes "program"
unfolding level within rows_within header_within statement_level braced_within armed_within wrapped signed_of residue
example_6 = refl

example_7 : checked Ilp32 (codes "int main() { long long c = 1; switch (c) { case 0: ; case 4294967296ll: ; } }") ≡ codes "program"
unfolding level within rows_within header_within statement_level braced_within armed_within wrapped signed_of residue
example_7 = refl

example_8 : checked Ilp32 (codes "int main() { int x = 1; switch (x) { case x: ; } }") ≡ codes "typing 43"
unfolding level within rows_within header_within statement_level braced_within armed_within wrapped signed_of residue
example_8 = refl

example_9 : checked Ilp32 (codes "int main() { switch (1) { case 0: ; case 1 / 0: ; } }") ≡ codes "typing 42"
unfolding level within rows_within header_within statement_level braced_within armed_within wrapped signed_of residue
example_9 = refl

example_10 : checked Ilp32 (codes "int main() { switch (1) { case 2147483647 + 1: ; } }") ≡ codes "typing 32"
unfolding level within rows_within header_within statement_level braced_within armed_within wrapped signed_of residue
example_10 = refl

example_11 : checked Ilp32 (codes "int main() { switch (1) { case zz: ; } }") ≡ codes "name 32"
unfolding level within rows_within header_within statement_level braced_within armed_within wrapped signed_of residue
example_11 = refl

example_12 : checked Ilp32 (codes "int main() { switch (1) { case 0: ; case y: ; case 0: ; } }") ≡ codes "name 42"
unfolding level within rows_within header_within statement_level braced_within armed_within wrapped signed_of residue
example_12 = refl

example_13 : checked Ilp32 (codes "int main() { break; }") ≡ codes "typing 14"
unfolding level within rows_within header_within statement_level braced_within armed_within wrapped signed_of residue
example_13 = refl

example_14 : checked Ilp32 (codes "int main() { switch (1) { case 1: continue; } }") ≡ codes "typing 35"
unfolding level within rows_within header_within statement_level braced_within armed_within wrapped signed_of residue
example_14 = refl

example_15 : checked Ilp32 (codes "int main() { while (0) { switch (1) { case 1: continue; default: break; } } }") ≡ codes "program"
unfolding level within rows_within header_within statement_level braced_within armed_within wrapped signed_of residue
example_15 = refl

example_16 : checked Ilp32 (codes "void v() { } int main() { switch (v()) { case 1: ; } }") ≡ codes "typing 35"
unfolding level within rows_within header_within statement_level braced_within armed_within wrapped signed_of residue
example_16 = refl

example_17 : checked Ilp32 (codes "int main() { L: switch (1) { case 1: L: ; } }") ≡ codes "again 38"
unfolding level within rows_within header_within statement_level braced_within armed_within wrapped signed_of residue
example_17 = refl

example_18 : checked Ilp32 (codes "int f(int x) { return x; } int main() { int x = 1; switch (f(x) + f(x)) { } }") ≡ codes "order 60"
unfolding level within rows_within header_within statement_level braced_within armed_within wrapped signed_of residue
example_18 = refl

example_19 : checked Ilp32 (codes "int main() { int x = 1; switch (1) { case (x = 1) + x: ; } }") ≡ codes "typing 43"
unfolding level within rows_within header_within statement_level braced_within armed_within wrapped signed_of residue
example_19 = refl
