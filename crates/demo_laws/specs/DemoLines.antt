-- The programs of a demo as lines of pieces.
use Rattle.std.specs.Prelude.{ℕ, ◌+◌, true, false, not, nat_eq, List, [], ◌∷◌, ◌++◌, codes, decimal}
use Rattle.c_tokens.specs.declared.token.TokenKind.{TokenKind}
use Rattle.c_tokens.specs.declared.token.TokenKind.TheVariants.{Word, Number, Punct as Sign}
use Rattle.c_tokens.specs.declared.token.Punct.{Punct}
use Rattle.c_tokens.specs.declared.token.Punct.TheVariants as sign
use Rattle.demo_laws.specs.Lines.{Piece}

-- blanks and a token
abbrev pub piece : ℕ → List ℕ → TokenKind → Piece
piece blanks spelling kind = record { blanks = blanks; spelling = spelling; kind = kind }

-- a word, after this many blanks
abbrev pub word : ℕ → List ℕ → Piece
word blanks w = piece blanks w (Word w)

-- a sign
abbrev pub mark : ℕ → List ℕ → Punct → Piece
mark blanks w s = piece blanks w (Sign s)

-- a number without a suffix; 0 counts as octal
abbrev pub number : ℕ → ℕ → Piece
number blanks v = piece blanks (decimal v) (Number v (not (nat_eq v 0)) false 0)

-- a positive number without a suffix, after a blank
abbrev pub positive : ℕ → Piece
positive v = piece 1 (decimal v) (Number v true false 0)

-- the k-th variable
abbrev pub name : ℕ → List ℕ
name k = 120 ∷ decimal k

-- `    reach_error();`
abbrev pub error_line : List Piece
error_line = word 4 (codes "reach_error") ∷ mark 0 (codes "(") sign.ParenOpen ∷ mark 0 (codes ")") sign.ParenClose ∷ mark 0 (codes ";") sign.Semicolon ∷ []

-- `  }`
abbrev pub end_line : List Piece
end_line = mark 2 (codes "}") sign.BraceClose ∷ []

-- `  WORD (x OP b) {`
abbrev pub head_line : List ℕ → List ℕ → List ℕ → Punct → Piece → List Piece
head_line w x op s b =
    word 2 w ∷ mark 1 (codes "(") sign.ParenOpen ∷ word 0 x ∷ mark 1 op s ∷ b ∷ mark 0 (codes ")") sign.ParenClose ∷ mark 1 (codes "{") sign.BraceOpen ∷ []

-- `  int x = 0;`
abbrev pub declaration_line : List ℕ → List Piece
declaration_line x = word 2 (codes "int") ∷ word 1 x ∷ mark 1 (codes "=") sign.Assign ∷ number 1 0 ∷ mark 0 (codes ";") sign.Semicolon ∷ []

-- `    x = x + 1;`
abbrev pub step_line : List ℕ → List Piece
step_line x = word 4 x ∷ mark 1 (codes "=") sign.Assign ∷ word 1 x ∷ mark 1 (codes "+") sign.Plus ∷ number 1 1 ∷ mark 0 (codes ";") sign.Semicolon ∷ []

-- the seven lines of the k-th loop
abbrev pub loop_pieces : ℕ → ℕ → List (List Piece)
loop_pieces k b =
    declaration_line (name k) ∷
    head_line (codes "while") (name k) (codes "<") sign.Less (positive b) ∷
    step_line (name k) ∷
    end_line ∷
    head_line (codes "if") (name k) (codes "!=") sign.NotEqual (positive b) ∷
    error_line ∷
    end_line ∷ []

-- loops with these bounds, the first of which is the k-th
abbrev pub loops_pieces : ℕ → List ℕ → List (List Piece)
loops_pieces k [] = []
loops_pieces k (b ∷ bs) = loop_pieces k b ++ loops_pieces (k + 1) bs

-- `void reach_error() { }`
abbrev pub reach_line : List Piece
reach_line =
    word 0 (codes "void") ∷ word 1 (codes "reach_error") ∷ mark 0 (codes "(") sign.ParenOpen ∷ mark 0 (codes ")") sign.ParenClose ∷ mark 1 (codes "{") sign.BraceOpen ∷
    mark 1 (codes "}") sign.BraceClose ∷ []

-- `int __VERIFIER_nondet_int();`
abbrev pub prototype_line : List Piece
prototype_line =
    word 0 (codes "int") ∷ word 1 (codes "__VERIFIER_nondet_int") ∷ mark 0 (codes "(") sign.ParenOpen ∷ mark 0 (codes ")") sign.ParenClose ∷ mark 0 (codes ";") sign.Semicolon ∷ []

-- `int main() {`
abbrev pub main_line : List Piece
main_line = word 0 (codes "int") ∷ word 1 (codes "main") ∷ mark 0 (codes "(") sign.ParenOpen ∷ mark 0 (codes ")") sign.ParenClose ∷ mark 1 (codes "{") sign.BraceOpen ∷ []

-- `  return 0;`
abbrev pub return_line : List Piece
return_line = word 2 (codes "return") ∷ number 1 0 ∷ mark 0 (codes ";") sign.Semicolon ∷ []

-- `}`
abbrev pub last_line : List Piece
last_line = mark 0 (codes "}") sign.BraceClose ∷ []

-- `  int y = __VERIFIER_nondet_int();`
abbrev pub input_line : List Piece
input_line =
    word 2 (codes "int") ∷ word 1 (codes "y") ∷ mark 1 (codes "=") sign.Assign ∷ word 1 (codes "__VERIFIER_nondet_int") ∷ mark 0 (codes "(") sign.ParenOpen ∷
    mark 0 (codes ")") sign.ParenClose ∷ mark 0 (codes ";") sign.Semicolon ∷ []

-- the four lines of the input
abbrev pub input_pieces : ℕ → List (List Piece)
input_pieces n = input_line ∷ head_line (codes "if") (codes "y") (codes "==") sign.Equal (number 1 n) ∷ error_line ∷ end_line ∷ []

-- what stands before the loops
abbrev pub opening_pieces : List (List Piece)
opening_pieces = reach_line ∷ prototype_line ∷ main_line ∷ []

-- what stands after the loops, or after the input
abbrev pub closing_pieces : List (List Piece)
closing_pieces = return_line ∷ last_line ∷ []

-- the program of these bounds
abbrev pub correct_pieces : List ℕ → List (List Piece)
correct_pieces bs = opening_pieces ++ (loops_pieces 1 bs ++ closing_pieces)

-- the same with an input that is compared with n
abbrev pub faulty_pieces : ℕ → List ℕ → List (List Piece)
faulty_pieces n bs = opening_pieces ++ (loops_pieces 1 bs ++ (input_pieces n ++ closing_pieces))
