-- The lines of a demo stand before any text.
use Rattle.std.proofs.Common.{◌≡◌, ℕ, zero, suc, ◌+◌, ◌^◌, ◌<◌, ◌∙◌, true, false, not, nat_eq, List, [], ◌∷◌, ◌++◌, length, Some, decimal, codes, refl, sym, ap, subst, arith, append_assoc}
use Rattle.std.specs.Fmt.{digits}
use Rattle.std.proofs.lemmas.Bool.Decides.{nat_tests}
use Rattle.std.specs.List.{AllByRecursion, list_all}
use Rattle.c_tokens.specs.declared.gap.Gap.TheVariants.{Absent}
use Rattle.c_tokens.specs.declared.token.Punct.TheVariants as sign
use Rattle.c_tokens.specs.declared.token.TokenKind.TheVariants.{Number}
use Rattle.c_tokens.specs.Gaps.{gap}
use Rattle.c_tokens.specs.Scan.{scan}
use Rattle.demo_laws.specs.DemoLines.{name, piece, number, error_line, end_line, head_line, declaration_line, step_line, positive, loop_pieces, loops_pieces, opening_pieces, closing_pieces, input_pieces, correct_pieces, faulty_pieces}
use Rattle.demo_laws.specs.Lines.{Piece, line_text, text_of, goes_on, Stands, AllStand, LinesStand}
use Rattle.demo_laws.proofs.Standing.{name_stands, number_stands}

-- a piece whose bytes are known
fixed : (x : Piece) (text : List ℕ) → scan (x.spelling ++ text) ≡ Some (length x.spelling, Some x.kind) → gap true (x.spelling ++ text) ≡ Absent → gap false (x.spelling ++ text) ≡ Absent →
    list_all goes_on x.spelling ≡ true → Stands x text
fixed x text found fresh stale one = record {
  found = found;
  no_gap = λ f. elim f as (λ g. gap g (x.spelling ++ text) ≡ Absent) [ true ↦ fresh | false ↦ stale ];
  one_line = one;
}

declaration_stands : (k : ℕ) (rest : List ℕ) → k < 2 ^ 64 → AllStand (declaration_line (name k)) rest
unfolding digits
declaration_stands k rest small = (
  fixed _ _ refl refl refl refl,
  (name_stands 1 k 32 _ small refl, (fixed _ _ refl refl refl refl, (fixed _ _ refl refl refl refl, (fixed _ _ refl refl refl refl, tt)))),
)

step_stands : (k : ℕ) (rest : List ℕ) → k < 2 ^ 64 → AllStand (step_line (name k)) rest
unfolding digits
step_stands k rest small = (
  name_stands 4 k 32 _ small refl,
  (fixed _ _ refl refl refl refl, (name_stands 1 k 32 _ small refl, (fixed _ _ refl refl refl refl, (fixed _ _ refl refl refl refl, (fixed _ _ refl refl refl refl, tt))))),
)

error_stands : (rest : List ℕ) → AllStand error_line rest
error_stands rest = (fixed _ _ refl refl refl refl, (fixed _ _ refl refl refl refl, (fixed _ _ refl refl refl refl, (fixed _ _ refl refl refl refl, tt))))

end_stands : (rest : List ℕ) → AllStand end_line rest
end_stands rest = (fixed _ _ refl refl refl refl, tt)

while_stands : (k b : ℕ) (rest : List ℕ) → k < 2 ^ 64 → 0 < b → b < 2 ^ 64 → AllStand (head_line (codes "while") (name k) (codes "<") sign.Less (positive b)) rest
while_stands k b rest small some few = (
  fixed _ _ refl refl refl refl,
  (
    fixed _ _ refl refl refl refl,
    (
      name_stands 0 k 32 _ small refl,
      (
        fixed _ _ refl refl refl refl,
        (number_stands 1 b 41 _ some few refl, (fixed _ _ refl refl refl refl, (fixed _ _ refl refl refl refl, tt))),
      ),
    ),
  ),
)

test_stands : (k b : ℕ) (rest : List ℕ) → k < 2 ^ 64 → 0 < b → b < 2 ^ 64 → AllStand (head_line (codes "if") (name k) (codes "!=") sign.NotEqual (positive b)) rest
test_stands k b rest small some few = (
  fixed _ _ refl refl refl refl,
  (
    fixed _ _ refl refl refl refl,
    (
      name_stands 0 k 32 _ small refl,
      (
        fixed _ _ refl refl refl refl,
        (number_stands 1 b 41 _ some few refl, (fixed _ _ refl refl refl refl, (fixed _ _ refl refl refl refl, tt))),
      ),
    ),
  ),
)

loop_stands : (k b : ℕ) (rest : List ℕ) → k < 2 ^ 64 → 0 < b → b < 2 ^ 64 → LinesStand (loop_pieces k b) rest
loop_stands k b rest small some few = (
  declaration_stands k _ small,
  (while_stands k b _ small some few, (step_stands k _ small, (end_stands _, (test_stands k b _ small some few, (error_stands _, (end_stands _, tt)))))),
)

pub text_join : (xs ys : List (List Piece)) → text_of (xs ++ ys) ≡ text_of xs ++ text_of ys
text_join [] ys = refl
text_join (x ∷ xs) ys = ap (λ t. line_text x ++ t) (text_join xs ys) ∙ sym (append_assoc (line_text x) (text_of xs) (text_of ys))

-- lines that stand before what follows them, and lines behind them
lines_join : (xs ys : List (List Piece)) (rest : List ℕ) → LinesStand xs (text_of ys ++ rest) → LinesStand ys rest → LinesStand (xs ++ ys) rest
lines_join [] ys rest h k = k
lines_join (x ∷ xs) ys rest h k =
    let joined : text_of (xs ++ ys) ++ rest ≡ text_of xs ++ (text_of ys ++ rest) = ap (λ t. t ++ rest) (text_join xs ys) ∙ append_assoc (text_of xs) (text_of ys) rest in
    (subst (AllStand x) (sym joined) h.0, lines_join xs ys rest h.1 k)

-- bounds that a loop may have
pub record IsPositive (b : ℕ) : Type 0 where
  pub some : 0 < b
  pub few : b < 2 ^ 64

pub loops_stand : (k : ℕ) (bs : List ℕ) (rest : List ℕ) → k + length bs < 2 ^ 64 → AllByRecursion IsPositive bs → LinesStand (loops_pieces k bs) rest
loops_stand k [] rest few fit = tt
loops_stand k (b ∷ bs) rest few fit =
    lines_join (loop_pieces k b) (loops_pieces (k + 1) bs) rest (loop_stands k b _ (omega arith) (fit.0).some (fit.0).few) (loops_stand (k + 1) bs rest (omega arith) fit.1)

opening_stands : (rest : List ℕ) → LinesStand opening_pieces rest
opening_stands rest = (
  (fixed _ _ refl refl refl refl, (fixed _ _ refl refl refl refl, (fixed _ _ refl refl refl refl, (fixed _ _ refl refl refl refl, (fixed _ _ refl refl refl refl, (fixed _ _ refl refl refl refl, tt)))))),
  (
    (fixed _ _ refl refl refl refl, (fixed _ _ refl refl refl refl, (fixed _ _ refl refl refl refl, (fixed _ _ refl refl refl refl, (fixed _ _ refl refl refl refl, tt))))),
    ((fixed _ _ refl refl refl refl, (fixed _ _ refl refl refl refl, (fixed _ _ refl refl refl refl, (fixed _ _ refl refl refl refl, (fixed _ _ refl refl refl refl, tt))))), tt),
  ),
)

closing_stands : LinesStand closing_pieces []
unfolding digits
closing_stands = ((fixed _ _ refl refl refl refl, (fixed _ _ refl refl refl refl, (fixed _ _ refl refl refl refl, tt))), ((fixed _ _ refl refl refl refl, tt), tt))

-- the lines of the correct program stand
pub correct_stands : (bs : List ℕ) → length bs < 2 ^ 32 → AllByRecursion IsPositive bs → LinesStand (correct_pieces bs) []
correct_stands bs few fit =
    lines_join opening_pieces (loops_pieces 1 bs ++ closing_pieces) [] (opening_stands _)
    (lines_join (loops_pieces 1 bs) closing_pieces [] (loops_stand 1 bs _ (omega arith) fit) closing_stands)

-- 0, or a positive number, before a closing parenthesis
zero_stands : (rest : List ℕ) → Stands (number 1 0) (41 ∷ rest)
unfolding digits
zero_stands rest = fixed _ _ refl refl refl refl

not_zero : (n : ℕ) → 0 < n → nat_eq n 0 ≡ false
not_zero n some = grind (arith, nat_tests)

number_any : (n : ℕ) (rest : List ℕ) → n < 2 ^ 64 → Stands (number 1 n) (41 ∷ rest)
number_any zero rest small = zero_stands rest
number_any (suc n) rest small =
    subst (λ b. Stands (piece 1 (decimal (suc n)) (Number (suc n) (not b) false 0)) (41 ∷ rest)) (sym (not_zero (suc n) (omega arith)))
    (number_stands 1 (suc n) 41 rest (omega arith) small refl)

input_stands : (n : ℕ) (rest : List ℕ) → n < 2 ^ 64 → LinesStand (input_pieces n) rest
input_stands n rest small = (
  (fixed _ _ refl refl refl refl, (fixed _ _ refl refl refl refl, (fixed _ _ refl refl refl refl, (fixed _ _ refl refl refl refl, (fixed _ _ refl refl refl refl, (fixed _ _ refl refl refl refl, (fixed _ _ refl refl refl refl, tt))))))),
  (
    (fixed _ _ refl refl refl refl, (fixed _ _ refl refl refl refl, (fixed _ _ refl refl refl refl, (fixed _ _ refl refl refl refl, (number_any n _ small, (fixed _ _ refl refl refl refl, (fixed _ _ refl refl refl refl, tt))))))),
    (error_stands _, (end_stands _, tt)),
  ),
)

-- the lines of the faulty program stand
pub faulty_stands : (n : ℕ) (bs : List ℕ) → n < 2 ^ 64 → length bs < 2 ^ 32 → AllByRecursion IsPositive bs → LinesStand (faulty_pieces n bs) []
faulty_stands n bs small few fit =
    lines_join opening_pieces (loops_pieces 1 bs ++ (input_pieces n ++ closing_pieces)) [] (opening_stands _)
    (lines_join (loops_pieces 1 bs) (input_pieces n ++ closing_pieces) [] (loops_stand 1 bs _ (omega arith) fit)
    (lines_join (input_pieces n) closing_pieces [] (input_stands n _ small) closing_stands))
