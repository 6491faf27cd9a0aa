-- Small sources whose answer depends on the data model: the first refusal of each, with its column.
use Rattle.std.specs.Prelude.{◌≡◌, refl, codes}
use Rattle.c_core.specs.Types.{wrapped, signed_of, residue}
use Rattle.c_core.specs.declared.number.DataModel.TheVariants.{Ilp32, Lp64}
use Rattle.c_parser.specs.ReadExpressions.{level, within}
use Rattle.c_parser.specs.ReadStatements.{rows_within, header_within, statement_level, braced_within, armed_within}
use Rattle.rule_examples.specs.Deciding.{checked}

example_0 : checked Ilp32 (codes "int a[2147483647l + 1l > 0]; int main() { }") ≡ codes "size 05"
unfolding level within rows_within header_within statement_level braced_within armed_within wrapped signed_of residue
example_0 = refl

example_1 : checked Lp64 (codes "int a[2147483647l + 1l > 0]; int main() { }") ≡ codes "program"
unfolding level within rows_within header_within statement_level braced_within armed_within wrapped signed_of residue
example_1 = refl

example_2 : checked Ilp32 (codes "long x = 2147483647l + 1; int main() { }") ≡ codes "typing 10"
unfolding level within rows_within header_within statement_level braced_within armed_within wrapped signed_of residue
example_2 = refl

example_3 : checked Lp64 (codes "long x = 2147483647l + 1; int main() { }") ≡ codes "program"
unfolding level within rows_within header_within statement_level braced_within armed_within wrapped signed_of residue
example_3 = refl

example_4 : checked Ilp32 (codes "int a[-1l < 1u]; int main() { }") ≡ codes "size 05"
unfolding level within rows_within header_within statement_level braced_within armed_within wrapped signed_of residue
example_4 = refl

example_5 : checked Lp64 (codes "int a[-1l < 1u]; int main() { }") ≡ codes "program"
unfolding level within rows_within header_within statement_level braced_within armed_within wrapped signed_of residue
example_5 = refl

example_6 : checked Ilp32 (codes "long x = 1l << 31; int main() { }") ≡ codes "typing 10"
unfolding level within rows_within header_within statement_level braced_within armed_within wrapped signed_of residue
example_6 = refl

example_7 : checked Lp64 (codes "long x = 1l << 31; long y = 1l << 32; int main() { }") ≡ codes "program"
unfolding level within rows_within header_within statement_level braced_within armed_within wrapped signed_of residue
example_7 = refl

example_8 : checked Ilp32 (codes "int a[(unsigned long)-1 > 4294967295u]; int main() { }") ≡ codes "size 05"
unfolding level within rows_within header_within statement_level braced_within armed_within wrapped signed_of residue
example_8 = refl

example_9 : checked Lp64 (codes "int a[(unsigned long)-1 > 4294967295u]; int main() { }") ≡ codes "program"
unfolding level within rows_within header_within statement_level braced_within armed_within wrapped signed_of residue
example_9 = refl

example_10 : checked Lp64 (codes "int x = 2147483647 + 1; int main() { }") ≡ codes "typing 09"
unfolding level within rows_within header_within statement_level braced_within armed_within wrapped signed_of residue
example_10 = refl

example_11 : checked Lp64 (codes "int main() { 9223372036854775808; }") ≡ codes "typing 14"
unfolding level within rows_within header_within statement_level braced_within armed_within wrapped signed_of residue
example_11 = refl
