-- The lines of pieces are the texts of the demo's programs.
use Rattle.std.proofs.Common.{◌≡◌, ℕ, ◌+◌, ◌∙◌, List, [], ◌∷◌, ◌++◌, codes, decimal, refl, sym, ap, append_assoc}
use Rattle.std.specs.Fmt.{digits}
use Rattle.std.specs.Str.{chars}
use lib.Utf8.{encode}
use Rattle.c_tokens.specs.declared.token.Punct.TheVariants as sign
use Rattle.wv_author.specs.Programs.{opening, closing, loop_lines, loops_lines, input_lines, correct_program, faulty_program}
use Rattle.wv_author.specs.Sequence.{bounds, loop_count}
use Rattle.demo_laws.specs.DemoLines.{name, positive, declaration_line, step_line, head_line, error_line, end_line, loop_pieces, loops_pieces, opening_pieces, closing_pieces, input_pieces, correct_pieces, faulty_pieces}
use Rattle.demo_laws.specs.Lines.{Piece, line_text, text_of}
use Rattle.demo_laws.proofs.Loops.{text_join}

zero_text : decimal 0 ≡ codes "0"
unfolding encode chars digits
zero_text = refl

one_text : decimal 1 ≡ codes "1"
unfolding encode chars digits
one_text = refl

-- a line with one part that isn't known, or with two
one_part : (a x b t : List ℕ) → (a ++ (x ++ b)) ++ t ≡ a ++ (x ++ (b ++ t))
one_part a x b t = append_assoc a (x ++ b) t ∙ ap (λ u. a ++ u) (append_assoc x b t)

two_parts : (a x b y c t : List ℕ) → (a ++ (x ++ (b ++ (y ++ c)))) ++ t ≡ a ++ (x ++ (b ++ (y ++ (c ++ t))))
two_parts a x b y c t = append_assoc a (x ++ (b ++ (y ++ c))) t ∙ ap (λ u. a ++ u) (append_assoc x (b ++ (y ++ c)) t ∙ ap (λ u. x ++ u) (one_part b y c t))

-- a loop's lines from one of them on
abbrev from_test : List ℕ → List ℕ → List ℕ
from_test k b = codes "  if (x" ++ (k ++ (codes " != " ++ (b ++ (codes ") {\n" ++ (codes "    reach_error();\n" ++ codes "  }\n")))))

abbrev from_step : List ℕ → List ℕ → List ℕ
from_step k b = codes "    x" ++ (k ++ (codes " = x" ++ (k ++ (codes " + 1;\n" ++ (codes "  }\n" ++ from_test k b)))))

abbrev from_while : List ℕ → List ℕ → List ℕ
from_while k b = codes "  while (x" ++ (k ++ (codes " < " ++ (b ++ (codes ") {\n" ++ from_step k b))))

abbrev from_declaration : List ℕ → List ℕ → List ℕ
from_declaration k b = codes "  int x" ++ (k ++ (codes " = 0;\n" ++ from_while k b))

nested : (k b : ℕ) → loop_lines k b ≡ from_declaration (decimal k) (decimal b)
unfolding loop_lines
nested k b = simp append_assoc

test_text : (k b : ℕ) → text_of (head_line (codes "if") (name k) (codes "!=") sign.NotEqual (positive b) ∷ error_line ∷ end_line ∷ []) ≡ from_test (decimal k) (decimal b)
unfolding encode chars
test_text k b = two_parts (codes "  if (x") (decimal k) (codes " != ") (decimal b) (codes ") {\n") (codes "    reach_error();\n" ++ codes "  }\n")

step_text : (k : ℕ) → line_text (step_line (name k)) ≡ codes "    x" ++ (decimal k ++ (codes " = x" ++ (decimal k ++ codes " + 1;\n")))
unfolding encode chars
step_text k = ap (λ d. codes "    x" ++ (decimal k ++ (codes " = x" ++ (decimal k ++ (codes " + " ++ (d ++ codes ";\n")))))) one_text

declaration_text : (k : ℕ) → line_text (declaration_line (name k)) ≡ codes "  int x" ++ (decimal k ++ codes " = 0;\n")
unfolding encode chars
declaration_text k = ap (λ d. codes "  int x" ++ (decimal k ++ (codes " = " ++ (d ++ codes ";\n")))) zero_text

stepped_text : (k : ℕ) (t : List ℕ) → line_text (step_line (name k)) ++ (line_text end_line ++ t) ≡ codes "    x" ++ (decimal k ++ (codes " = x" ++ (decimal k ++ (codes " + 1;\n" ++ (codes "  }\n" ++ t)))))
unfolding encode chars
stepped_text k t =
    ap (λ l. l ++ (line_text end_line ++ t)) (step_text k)
    ∙ two_parts (codes "    x") (decimal k) (codes " = x") (decimal k) (codes " + 1;\n") (line_text end_line ++ t)

while_text : (k b : ℕ) (t : List ℕ) → line_text (head_line (codes "while") (name k) (codes "<") sign.Less (positive b)) ++ t ≡ codes "  while (x" ++ (decimal k ++ (codes " < " ++ (decimal b ++ (codes ") {\n" ++ t))))
unfolding encode chars
while_text k b t = two_parts (codes "  while (x") (decimal k) (codes " < ") (decimal b) (codes ") {\n") t

declared_text : (k : ℕ) (t : List ℕ) → line_text (declaration_line (name k)) ++ t ≡ codes "  int x" ++ (decimal k ++ (codes " = 0;\n" ++ t))
declared_text k t = ap (λ l. l ++ t) (declaration_text k) ∙ one_part (codes "  int x") (decimal k) (codes " = 0;\n") t

loop_text : (k b : ℕ) → text_of (loop_pieces k b) ≡ loop_lines k b
loop_text k b =
    let x = decimal k in
    let test = text_of (head_line (codes "if") (name k) (codes "!=") sign.NotEqual (positive b) ∷ error_line ∷ end_line ∷ []) in
    let step = line_text (step_line (name k)) ++ (line_text end_line ++ test) in
    let loop = line_text (head_line (codes "while") (name k) (codes "<") sign.Less (positive b)) ++ step in
    let from_steps : step ≡ from_step x (decimal b) =
    stepped_text k test ∙ ap (λ t. codes "    x" ++ (x ++ (codes " = x" ++ (x ++ (codes " + 1;\n" ++ (codes "  }\n" ++ t)))))) (test_text k b) in
    let from_loop : loop ≡ from_while x (decimal b) =
    while_text k b step ∙ ap (λ t. codes "  while (x" ++ (x ++ (codes " < " ++ (decimal b ++ (codes ") {\n" ++ t))))) from_steps in
    declared_text k loop ∙ ap (λ t. codes "  int x" ++ (x ++ (codes " = 0;\n" ++ t))) from_loop ∙ sym (nested k b)

loops_text : (k : ℕ) (bs : List ℕ) → text_of (loops_pieces k bs) ≡ loops_lines k bs
loops_text k [] = refl
loops_text k (b ∷ bs) =
    text_join (loop_pieces k b) (loops_pieces (k + 1) bs) ∙ ap (λ t. t ++ text_of (loops_pieces (k + 1) bs)) (loop_text k b) ∙ ap (λ t. loop_lines k b ++ t) (loops_text (k + 1) bs)

-- ---- what stands before the loops, and behind them

opening_text : text_of opening_pieces ≡ opening
unfolding encode chars
opening_text = refl

closing_text : text_of closing_pieces ≡ closing
unfolding encode chars digits
closing_text = refl

input_nested : (n : ℕ) → input_lines n ≡ codes "  int y = __VERIFIER_nondet_int();\n" ++ (codes "  if (y == " ++ (decimal n ++ (codes ") {\n" ++ (codes "    reach_error();\n" ++ codes "  }\n"))))
unfolding input_lines
input_nested n = simp append_assoc

input_text : (n : ℕ) → text_of (input_pieces n) ≡ input_lines n
unfolding encode chars
input_text n =
    ap (λ t. codes "  int y = __VERIFIER_nondet_int();\n" ++ t) (one_part (codes "  if (y == ") (decimal n) (codes ") {\n") (codes "    reach_error();\n" ++ codes "  }\n"))
    ∙ sym (input_nested n)

-- ---- both programs

framed : (bs : List ℕ) (lines : List (List Piece)) (text : List ℕ) → text_of lines ≡ text → text_of (opening_pieces ++ (loops_pieces 1 bs ++ lines)) ≡ opening ++ (loops_lines 1 bs ++ text)
framed bs lines text e =
    text_join opening_pieces (loops_pieces 1 bs ++ lines) ∙ ap (λ t. t ++ text_of (loops_pieces 1 bs ++ lines)) opening_text
    ∙ ap (λ t. opening ++ t) (text_join (loops_pieces 1 bs) lines ∙ ap (λ t. t ++ text_of lines) (loops_text 1 bs) ∙ ap (λ t. loops_lines 1 bs ++ t) e)

pub correct_text : (n : ℕ) → text_of (correct_pieces (bounds n loop_count)) ≡ correct_program n
unfolding correct_program
correct_text n =
    let loops = loops_lines 1 (bounds n loop_count) in
    framed (bounds n loop_count) closing_pieces closing closing_text ∙ sym (append_assoc opening loops closing)

pub faulty_text : (n : ℕ) → text_of (faulty_pieces n (bounds n loop_count)) ≡ faulty_program n
unfolding faulty_program
faulty_text n =
    let loops = loops_lines 1 (bounds n loop_count) in
    let ends : text_of (input_pieces n ++ closing_pieces) ≡ input_lines n ++ closing =
    text_join (input_pieces n) closing_pieces ∙ ap (λ t. t ++ text_of closing_pieces) (input_text n) ∙ ap (λ t. input_lines n ++ t) closing_text in
    framed (bounds n loop_count) (input_pieces n ++ closing_pieces) (input_lines n ++ closing) ends
    ∙ ap (λ t. opening ++ t) (sym (append_assoc loops (input_lines n) closing))
    ∙ sym (append_assoc opening (loops ++ input_lines n) closing) ∙ ap (λ t. t ++ closing) (sym (append_assoc opening loops (input_lines n)))
