-- The sources of a demo's programs: their tokens and trees, loop by loop.
use Rattle.std.specs.Prelude.{ℕ, zero, suc, ◌+◌, not, nat_eq, List, [], ◌∷◌, ◌++◌, codes}
use Rattle.c_core.specs.declared.number.Spot.{Spot}
use Rattle.c_tokens.specs.declared.token.Token.{Token}
use Rattle.c_parser.specs.Tree.{Stm, Item}
use Rattle.c_parser.specs.Tree as t
use Rattle.demo_laws.specs.DemoLines.{name, head_line, declaration_line, step_line, end_line, error_line, positive, number, input_line, return_line, last_line, reach_line, prototype_line, main_line}
use Rattle.demo_laws.specs.Lines.{line_tokens, spot}
use Rattle.demo_laws.specs.Shapes.{declaration_tokens, declaration_statement, while_tokens, while_statement, test_tokens, test_statement, end_tokens, return_statement, input_tokens, input_statement, chosen_tokens, chosen_statement, reach_tokens, prototype_tokens, prototype_item, main_tokens, main_item}
use Rattle.c_tokens.specs.declared.token.Punct.TheVariants as sign

-- the place of a token by its number
abbrev pub spot_in : List Token → ℕ → Spot
spot_in [] i = spot 1 1
spot_in (t ∷ ts) zero = t.spot
spot_in (t ∷ ts) (suc i) = spot_in ts i

-- where the tokens of the k-th loop's declaration stand, on this line
abbrev pub declared_at : ℕ → ℕ → ℕ → Spot
declared_at l k = spot_in (line_tokens l 1 (declaration_line (name k)))

-- where those of the loop stand, from this line to its closing brace
abbrev pub looped_at : ℕ → ℕ → ℕ → ℕ → Spot
looped_at l k b =
    spot_in (line_tokens l 1 (head_line (codes "while") (name k) (codes "<") sign.Less (positive b)) ++ (line_tokens (l + 1) 1 (step_line (name k)) ++ line_tokens (l + 1 + 1) 1 end_line))

-- where those of the test after the loop stand, from this line on
abbrev pub tested_at : ℕ → ℕ → ℕ → ℕ → Spot
tested_at l k b =
    spot_in (line_tokens l 1 (head_line (codes "if") (name k) (codes "!=") sign.NotEqual (positive b)) ++ (line_tokens (l + 1) 1 error_line ++ line_tokens (l + 1 + 1) 1 end_line))

-- the tokens of the k-th loop, which begins on this line
abbrev pub loop_tokens : ℕ → ℕ → ℕ → List Token
loop_tokens l k b =
    declaration_tokens (name k) (declared_at l k) ++ (while_tokens (name k) b (looped_at (l + 1) k b) ++ test_tokens (name k) b (tested_at (l + 1 + 1 + 1 + 1) k b))

-- those of loops, the first of which is the k-th
abbrev pub loops_tokens : ℕ → ℕ → List ℕ → List Token
loops_tokens l k [] = []
loops_tokens l k (b ∷ bs) = loop_tokens l k b ++ loops_tokens (l + 1 + 1 + 1 + 1 + 1 + 1 + 1) (k + 1) bs

-- the three statements of the k-th loop, and others after them
abbrev pub loop_statements : ℕ → ℕ → ℕ → List Stm → List Stm
loop_statements l k b ss =
    declaration_statement (name k) (declared_at l k) ∷ while_statement (name k) b (looped_at (l + 1) k b) ∷ test_statement (name k) b (tested_at (l + 1 + 1 + 1 + 1) k b) ∷ ss

-- the statements of loops, and others after them
abbrev pub loops_statements : ℕ → ℕ → List ℕ → List Stm → List Stm
loops_statements l k [] ss = ss
loops_statements l k (b ∷ bs) ss = loop_statements l k b (loops_statements (l + 1 + 1 + 1 + 1 + 1 + 1 + 1) (k + 1) bs ss)

-- the line after loops
abbrev pub line_behind : ℕ → List ℕ → ℕ
line_behind l [] = l
line_behind l (b ∷ bs) = line_behind (l + 1 + 1 + 1 + 1 + 1 + 1 + 1) bs

-- where the end of `main` stands
abbrev pub ended_at : ℕ → ℕ → Spot
ended_at l = spot_in (line_tokens l 1 return_line ++ line_tokens (l + 1) 1 last_line)

-- where the input stands
abbrev pub drawn_at : ℕ → ℕ → Spot
drawn_at l = spot_in (line_tokens l 1 input_line)

-- where its comparison with n stands
abbrev pub chosen_at : ℕ → ℕ → ℕ → Spot
chosen_at l n =
    spot_in (line_tokens l 1 (head_line (codes "if") (codes "y") (codes "==") sign.Equal (number 1 n)) ++ (line_tokens (l + 1) 1 error_line ++ line_tokens (l + 1 + 1) 1 end_line))

-- where `reach_error` is defined
abbrev pub reached_at : ℕ → Spot
reached_at = spot_in (line_tokens 1 1 reach_line)

-- where the input function is declared
abbrev pub prototype_at : ℕ → Spot
prototype_at = spot_in (line_tokens 2 1 prototype_line)

-- where `main` begins
abbrev pub main_at : ℕ → Spot
main_at = spot_in (line_tokens 3 1 main_line)

-- what stands after the loops: the end alone
abbrev pub correct_end : ℕ → List Token
correct_end l = end_tokens (ended_at l)

-- the input, its test and the end
abbrev pub faulty_end : ℕ → ℕ → List Token
faulty_end l n = input_tokens (drawn_at l) ++ (chosen_tokens n (not (nat_eq n 0)) (chosen_at (l + 1) n) ++ end_tokens (ended_at (l + 1 + 1 + 1 + 1)))

-- the statements of the end alone
abbrev pub correct_last : ℕ → List Stm
correct_last l = return_statement (ended_at l) ∷ []

-- the statements of the input, its test and the end
abbrev pub faulty_last : ℕ → ℕ → List Stm
faulty_last l n = input_statement (drawn_at l) ∷ chosen_statement n (not (nat_eq n 0)) (chosen_at (l + 1) n) ∷ return_statement (ended_at (l + 1 + 1 + 1 + 1)) ∷ []

-- the tokens of a program whose loops have these bounds, with what stands after them
abbrev pub program_tokens : List ℕ → List Token → List Token
program_tokens bs end = reach_tokens reached_at ++ (prototype_tokens prototype_at ++ (main_tokens main_at ++ (loops_tokens 4 1 bs ++ end)))

-- its items; `reach_error` is none of them
abbrev pub program_items : List ℕ → List Stm → List Item
program_items bs last = prototype_item prototype_at ∷ main_item main_at (loops_statements 4 1 bs last) ∷ []

-- the items of the two programs
abbrev pub correct_items : List ℕ → List Item
correct_items bs = program_items bs (correct_last (line_behind 4 bs))

-- the same with an input that is compared with n
abbrev pub faulty_items : ℕ → List ℕ → List Item
faulty_items n bs = program_items bs (faulty_last (line_behind 4 bs) n)
