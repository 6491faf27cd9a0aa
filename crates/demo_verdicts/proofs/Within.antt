-- The programs of a demo are within the length that a validator reads, by the lengths of their lines.
use Rattle.std.proofs.Common.{ℕ, ◌+◌, ◌*◌, ◌<◌, ◌≤◌, List, [], ◌∷◌, ◌++◌, length, decimal, codes, arith, length-append}
use Rattle.std.specs.List.{AllByRecursion}
use Rattle.std.specs.Str.{chars}
use Rattle.std.proofs.lemmas.Fmt.{length-decimal-le}
use lib.Utf8.{encode}
use Rattle.demo_laws.specs.Bounds.{AreBounds, IsBound}
use Rattle.wv_author.specs.Demo.{AreWithin, demo_of}
use Rattle.wv_author.specs.Programs.{loop_lines, loops_lines, input_lines, correct_program, faulty_program}
use Rattle.wv_author.specs.Sequence.{bounds, loop_count}

-- the text of a loop with its numbers as they are written
lines_length : (k b : List ℕ) → length k ≤ 3 → length b ≤ 3 → length (
    codes "  int x" ++ k ++ codes " = 0;\n"
    ++ codes "  while (x" ++ k ++ codes " < " ++ b ++ codes ") {\n"
    ++ codes "    x" ++ k ++ codes " = x" ++ k ++ codes " + 1;\n"
    ++ codes "  }\n"
    ++ codes "  if (x" ++ k ++ codes " != " ++ b ++ codes ") {\n"
    ++ codes "    reach_error();\n"
    ++ codes "  }\n") ≤ 256
unfolding encode chars
lines_length k b small_k small_b = simp length-append (omega arith)

loop_length : (k b : ℕ) → k < 1000 → b < 1000 → length (loop_lines k b) ≤ 256
unfolding loop_lines
loop_length k b small_k small_b =
    lines_length (decimal k) (decimal b)
    (length-decimal-le 3 k (omega arith) small_k (omega arith))
    (length-decimal-le 3 b (omega arith) small_b (omega arith))

loops_length : (k : ℕ) (bs : List ℕ) → AllByRecursion IsBound bs → k + length bs ≤ 100 → length (loops_lines k bs) ≤ 256 * length bs
loops_length k [] fit few = omega arith
loops_length k (b ∷ bs) fit few =
    let bound = (fit.0).few in
    let one : length (loop_lines k b) ≤ 256 = loop_length k b (omega arith) (omega (arith, bound)) in
    let more : length (loops_lines (k + 1) bs) ≤ 256 * length bs = loops_length (k + 1) bs fit.1 (omega arith) in
    simp length-append (omega arith)

input_length : (n : ℕ) → n ≤ 999999 → length (input_lines n) ≤ 256
unfolding input_lines encode chars
input_length n small =
    let digits : length (decimal n) ≤ 6 = length-decimal-le 6 n (omega arith) (omega arith) (omega arith) in
    simp length-append (omega arith)

pub programs_are_within : (n : ℕ) → n ≤ 999999 → AreBounds (bounds n loop_count) → AreWithin (demo_of n)
unfolding demo_of correct_program faulty_program encode chars
programs_are_within n small fit =
    let few = fit.few in
    let loops : length (loops_lines 1 (bounds n 40)) ≤ 256 * length (bounds n 40) = loops_length 1 (bounds n 40) fit.each (omega (arith, few)) in
    let short : length (loops_lines 1 (bounds n 40)) ≤ 10240 = omega (arith, loops, few) in
    let input = input_length n small in
    record { correct_within = simp length-append (omega arith); faulty_within = simp length-append (omega arith) }
