-- Texts and their characters.
use Rattle.std.proofs.Common.{◌≡◌, ℕ, suc, ◌+◌, ◌<◌, ◌≤◌, List, [], ◌∷◌, length, true, refl, sym, ap, ◌∙◌, arith, ◌==◌, ◌-◌, ◌^◌, length-append}
use Rattle.std.proofs.lemmas.Bool.Decides.{nat_tests}
use Rattle.std.proofs.lemmas.Str.{encodes-chars, length-le-encodes}
use Rattle.std.specs.Str.{IsUtf8, chars}
use lib.Utf8.{encodes}
use Rattle.yaml_lines.specs.Line.{Line}
use Rattle.yaml_lines.specs.Lines.{joined, after_breaks}

pub chars_few : (text : List ℕ) → IsUtf8 text → length (chars text) ≤ length text
chars_few text u = let e : length (encodes (chars text)) ≡ length text = ap length (encodes-chars text u) in omega (arith, length-le-encodes (chars text))

none_left : (cs text : List ℕ) → encodes cs ≡ text → (length text == 0) ≡ (length cs == 0)
none_left [] text e = ap (λ xs. length xs == 0) (sym e)
none_left (c ∷ cs) text e =
    let more : suc (length cs) ≤ length text = let s : length (encodes (c ∷ cs)) ≡ length text = ap length e in omega (arith, length-le-encodes (c ∷ cs)) in
    grind (arith, nat_tests)

-- a text with no bytes has no characters, and the other way round
pub end_chars : (text : List ℕ) → IsUtf8 text → (length text == 0) ≡ (length (chars text) == 0)
end_chars text u = none_left (chars text) text (encodes-chars text u)

some_none : (n : ℕ) → (suc n == 0) ≡ true → ⊥
some_none n e = grind (arith, nat_tests)

-- no line stands behind the end
pub lines_left : (column : ℕ) (cs : List ℕ) (lines : List Line) → (length cs == 0) ≡ true → (length lines == 0) ≡ (length (joined column cs lines) == 0)
lines_left column [] [] e = refl
lines_left column [] (l ∷ ls) e = grind (arith, nat_tests)
lines_left column (c ∷ cs) lines e = absurd (some_none _ e)

-- the room that is left for the lines of a value
pub room_first : (column : ℕ) (text : List ℕ) (lines : List Line) (most : ℕ) → length text ≤ most → most < 2 ^ 63 →
    length (after_breaks column lines) < 2 ^ 63 - most → length (joined column text lines) < 2 ^ 63
room_first column text lines most f s h = omega (arith, length-append text (after_breaks column lines))

pub room_next : (column : ℕ) (l : Line) (left next : List Line) (text : List ℕ) (most room : ℕ) (P : Type 0) → left ≡ l ∷ next → text ≡ l.text → length text ≤ most → most + 1 < room →
    (length (after_breaks column left) < room → P) → length (after_breaks column next) < room - (most + 1) → P
room_next column l left next text most room P e t f s h k =
    let size : length (after_breaks column left) ≡ suc (length l.text + length (after_breaks column next)) =
    ap (λ xs. length (after_breaks column xs)) e ∙ ap suc (length-append l.text (after_breaks column next)) in
    let here : length text ≡ length l.text = ap length t in
    h (omega (arith, size, here, f, s, k))
