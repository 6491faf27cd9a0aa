-- The tokens of a demo's programs.
use Rattle.std.proofs.Common.{◌≡◌, ℕ, ◌+◌, ◌*◌, ◌^◌, ◌<◌, ◌≤◌, ◌∙◌, true, List, [], ◌∷◌, ◌++◌, length, refl, ap, subst, arith, append-nil, length-append}
use Rattle.std.specs.List.{AllByRecursion}
use Rattle.c_tokens.specs.Reading.{Reads, AtEnd, Tokens, Whole}
use Rattle.wv_author.specs.Demo.{AreWithin, demo_of}
use Rattle.wv_author.specs.Programs.{correct_program, faulty_program}
use Rattle.wv_author.specs.Sequence.{bounds, loop_count}
use Rattle.demo_laws.specs.Bounds.{IsBound}
use Rattle.demo_laws.specs.DemoLines.{loop_pieces, loops_pieces, closing_pieces, input_pieces, correct_pieces, faulty_pieces}
use Rattle.demo_laws.specs.Lines.{Piece, LinesStand, place, text_of, tokens_from}
use Rattle.demo_laws.proofs.Bounds.{bounds_count, bounds_fit}
use Rattle.demo_laws.proofs.Loops.{IsPositive, correct_stands, faulty_stands}
use Rattle.demo_laws.proofs.Reading.{reads_lines}
use Rattle.demo_laws.proofs.Texts.{correct_text, faulty_text}

-- lines that stand are the tokens of their text
whole : (lines : List (List Piece)) (text : List ℕ) → text_of lines ≡ text → LinesStand lines [] → length lines < 2 ^ 31 → length text < 2 ^ 31 → Tokens text (tokens_from 1 lines) Whole
whole lines text is stand few short =
    let size = ap length is in
    let read : Reads true (place 1 1 true) (text_of lines ++ []) (tokens_from 1 lines ++ []) Whole =
    reads_lines 1 true lines [] [] Whole stand (omega arith) (omega (arith, size)) (λ g. AtEnd) in
    let plain : Reads true (place 1 1 true) (text_of lines) (tokens_from 1 lines) Whole = simp append-nil at read in
    subst (λ t. Tokens t (tokens_from 1 lines) Whole) is plain

-- bounds are numbers that a token can have
positive : (bs : List ℕ) → AllByRecursion IsBound bs → AllByRecursion IsPositive bs
positive [] h = tt
positive (b ∷ bs) h = (record { some = omega (arith, (h.0).some); few = omega (arith, (h.0).few) }, positive bs h.1)

-- a loop has seven lines
loops_count : (k : ℕ) (bs : List ℕ) → length (loops_pieces k bs) ≡ 7 * length bs
loops_count k [] = refl
loops_count k (b ∷ bs) =
    let more = loops_count (k + 1) bs in
    length-append (loop_pieces k b) (loops_pieces (k + 1) bs) ∙ omega (arith, more)

-- the programs are these tokens
pub correct_tokens : (n : ℕ) → length (correct_program n) < 2 ^ 31 → Tokens (correct_program n) (tokens_from 1 (correct_pieces (bounds n loop_count))) Whole
correct_tokens n short =
    let bs = bounds n loop_count in
    let count : length bs ≡ 40 = bounds_count n loop_count in
    let loops : length (loops_pieces 1 bs) ≡ 7 * length bs = loops_count 1 bs in
    let lines : length (loops_pieces 1 bs ++ closing_pieces) ≡ length (loops_pieces 1 bs) + 2 = length-append (loops_pieces 1 bs) closing_pieces in
    whole (correct_pieces bs) (correct_program n) (correct_text n) (correct_stands bs (omega (arith, count)) (positive bs (bounds_fit n).each)) (omega (arith, lines, loops, count)) short

pub faulty_tokens : (n : ℕ) → n < 2 ^ 32 → length (faulty_program n) < 2 ^ 31 → Tokens (faulty_program n) (tokens_from 1 (faulty_pieces n (bounds n loop_count))) Whole
faulty_tokens n small short =
    let bs = bounds n loop_count in
    let count : length bs ≡ 40 = bounds_count n loop_count in
    let loops : length (loops_pieces 1 bs) ≡ 7 * length bs = loops_count 1 bs in
    let lines : length (loops_pieces 1 bs ++ (input_pieces n ++ closing_pieces)) ≡ length (loops_pieces 1 bs) + 6 = length-append (loops_pieces 1 bs) (input_pieces n ++ closing_pieces) in
    whole (faulty_pieces n bs) (faulty_program n) (faulty_text n) (faulty_stands n bs (omega arith) (omega (arith, count)) (positive bs (bounds_fit n).each)) (omega (arith, lines, loops, count)) short

-- the same where the programs are within the length that a validator reads
pub correct_tokens_of : (n : ℕ) → AreWithin (demo_of n) → Tokens (correct_program n) (tokens_from 1 (correct_pieces (bounds n loop_count))) Whole
unfolding demo_of
correct_tokens_of n within = let short : length (correct_program n) ≤ 1048576 = within.correct_within in correct_tokens n (omega arith)

pub faulty_tokens_of : (n : ℕ) → n ≤ 999999 → AreWithin (demo_of n) → Tokens (faulty_program n) (tokens_from 1 (faulty_pieces n (bounds n loop_count))) Whole
unfolding demo_of
faulty_tokens_of n small within = let short : length (faulty_program n) ≤ 1048576 = within.faulty_within in faulty_tokens n (omega arith) (omega arith)
