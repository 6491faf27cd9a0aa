-- A text of good pieces that ends without a line end is read as their tokens.
use Rattle.std.proofs.Common.{◌≡◌, ◌<◌, ◌^◌, ℕ, ◌+◌, Bool, List, [], ◌∷◌, ◌++◌, length, replicate, sym, subst, arith, append_assoc, length-append}
use Rattle.std.proofs.lemmas.List.{length-replicate}
use Rattle.c_tokens.specs.Reading.{AtEnd, Reads, Whole}
use Rattle.demo_laws.specs.Lines.{Piece, Stands, line_tokens, piece_text, place}
use Rattle.demo_laws.proofs.Reading.{reads_blanks, reads_token}

abbrev pub pieces_text : List Piece → List ℕ
pieces_text [] = []
pieces_text (x ∷ xs) = piece_text x ++ pieces_text xs

-- each stands before those behind it
abbrev pub PiecesStand : List Piece → Type 0
PiecesStand [] = Unit {0}
PiecesStand (x ∷ xs) = Stands x (pieces_text xs) × PiecesStand xs

pub reads_pieces : (d : Bool) (l c : ℕ) (f : Bool) (xs : List Piece) → PiecesStand xs → c + length (pieces_text xs) < 2 ^ 32 → Reads d (place l c f) (pieces_text xs) (line_tokens l c xs) Whole
reads_pieces d l c f [] stand small = AtEnd
reads_pieces d l c f (x ∷ xs) stand small =
    let text = pieces_text xs in
    let size : length (piece_text x ++ text) ≡ x.blanks + length x.spelling + length text = simp (length-append, length-replicate) in
    let column = c + x.blanks in
    let behind : (g : Bool) → Reads d (place l (column + length x.spelling) g) text (line_tokens l (column + length x.spelling) xs) Whole =
    λ g. reads_pieces d l (column + length x.spelling) g xs stand.1 (omega (arith, size, small)) in
    let here : (g : Bool) → Reads d (place l column g) (x.spelling ++ text) (line_tokens l c (x ∷ xs)) Whole =
    λ g. reads_token d l column g x text (line_tokens l (column + length x.spelling) xs) Whole stand.0 (omega (arith, size, small)) behind in
    subst (λ t. Reads d (place l c f) t (line_tokens l c (x ∷ xs)) Whole) (sym (append_assoc (replicate x.blanks 32) x.spelling text))
    (reads_blanks d x.blanks l c f (x.spelling ++ text) (line_tokens l c (x ∷ xs)) Whole (omega (arith, size, small)) here)
