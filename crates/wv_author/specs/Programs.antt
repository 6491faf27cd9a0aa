-- The texts of a demo's two programs.
use Rattle.std.specs.Prelude.{ℕ, ◌+◌, List, [], ◌∷◌, ◌++◌, codes, decimal}
use Rattle.wv_author.specs.Sequence.{bounds, loop_count}

-- what both programs begin with
abbrev pub opening : List ℕ
opening = codes "void reach_error() { }\nint __VERIFIER_nondet_int();\nint main() {\n"

-- the k-th loop counts up to its bound b, and the count is tested after it: seven lines
unfoldable pub loop_lines : ℕ → ℕ → List ℕ
loop_lines k b =
    codes "  int x" ++ decimal k ++ codes " = 0;\n"
    ++ codes "  while (x" ++ decimal k ++ codes " < " ++ decimal b ++ codes ") {\n"
    ++ codes "    x" ++ decimal k ++ codes " = x" ++ decimal k ++ codes " + 1;\n"
    ++ codes "  }\n"
    ++ codes "  if (x" ++ decimal k ++ codes " != " ++ decimal b ++ codes ") {\n"
    ++ codes "    reach_error();\n"
    ++ codes "  }\n"

-- loops with these bounds, the first of which is the k-th
abbrev pub loops_lines : ℕ → List ℕ → List ℕ
loops_lines k [] = []
loops_lines k (b ∷ bs) = loop_lines k b ++ loops_lines (k + 1) bs

-- the input that reaches the error where it is n: lines 284 to 287
unfoldable pub input_lines : ℕ → List ℕ
input_lines n =
    codes "  int y = __VERIFIER_nondet_int();\n"
    ++ codes "  if (y == " ++ decimal n ++ codes ") {\n"
    ++ codes "    reach_error();\n"
    ++ codes "  }\n"

-- what both programs end with
abbrev pub closing : List ℕ
closing = codes "  return 0;\n}\n"

-- the loops of n alone: no run of it reaches the error
unfoldable pub correct_program : ℕ → List ℕ
correct_program n = opening ++ loops_lines 1 (bounds n loop_count) ++ closing

-- the same loops, and after them the input
unfoldable pub faulty_program : ℕ → List ℕ
faulty_program n = opening ++ loops_lines 1 (bounds n loop_count) ++ input_lines n ++ closing
