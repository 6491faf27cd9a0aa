-- Runs of bytes of a class, and words as text.
use Rattle.std.proofs.Common.{◌≡◌, ◌≤◌, ◌<◌, ◌+◌, ◌-◌, ◌∙◌, ℕ, zero, suc, Bool, true, false, cond, List, [], ◌∷◌, ◌++◌, length, take, drop, get_or, refl, ap, arith}
use Rattle.std.specs.List.{prefix_len, list_all}
use Rattle.std.specs.Str.{IsUtf8}
use Rattle.std.proofs.lemmas.Str.{IsUtf8-from_ascii}
use Rattle.std.proofs.lemmas.Bool.Decides.{nat_tests}
use Rattle.std.proofs.Math.Seq.{take-length}
use Rattle.c_tokens.specs.Bytes.{is_word_byte, is_letter}
use Rattle.c_tokens.specs.Scan.{begins_word}
use Rattle.c_tokens.proofs.Choices.{both}

pub run_passes : (p : ℕ → Bool) (text : List ℕ) → list_all p (take (prefix_len p text) text) ≡ true
run_passes p [] = refl
run_passes p (b ∷ text) = passes (run_passes p text) (p b) refl
  where
    passes : list_all p (take (prefix_len p text) text) ≡ true → (v : Bool) → p b ≡ v → list_all p (take (cond v (1 + prefix_len p text) 0) (b ∷ text)) ≡ true
    passes later true e = let one : 1 + prefix_len p text ≡ suc (prefix_len p text) = omega arith in rw (one, e) later
    passes later false e = refl

-- a run of the class is at most the whole run
pub run_least : (p : ℕ → Bool) (w rest : List ℕ) → list_all p w ≡ true → length w ≤ prefix_len p (w ++ rest)
run_least p [] rest all = omega arith
run_least p (b ∷ w) rest all =
    let here : p b ≡ true = (both (p b) (list_all p w) all).0 in
    let later = run_least p w rest (both (p b) (list_all p w) all).1 in
    rw here (omega (arith, later))

-- a run ends before a byte of another class
pub run_exact : (p : ℕ → Bool) (w : List ℕ) (b : ℕ) (rest : List ℕ) → list_all p w ≡ true → p b ≡ false → prefix_len p (w ++ b ∷ rest) ≡ length w
run_exact p [] b rest all other = rw other refl
run_exact p (a ∷ w) b rest all other =
    let here : p a ≡ true = (both (p a) (list_all p w) all).0 in
    let later = run_exact p w b rest (both (p a) (list_all p w) all).1 other in
    rw here (omega (arith, later))

word_byte_ascii : (b : ℕ) → is_word_byte b ≡ true → b < 128
word_byte_ascii b e = grind (arith, nat_tests)

word_ascii : (w : List ℕ) → list_all is_word_byte w ≡ true → (i : ℕ) → get_or w i 0 < 128
word_ascii [] all i = omega arith
word_ascii (b ∷ w) all zero = word_byte_ascii b (both (is_word_byte b) (list_all is_word_byte w) all).0
word_ascii (b ∷ w) all (suc i) = word_ascii w (both (is_word_byte b) (list_all is_word_byte w) all).1 i

-- a word is text
pub word_utf8 : (w : List ℕ) → list_all is_word_byte w ≡ true → IsUtf8 w
word_utf8 w all = IsUtf8-from_ascii w (word_ascii w all)

letter_goes_on : (b : ℕ) → is_letter b ≡ true → is_word_byte b ≡ true
letter_goes_on b e = rw e refl

-- a letter and the run behind it
pub word_passes : (text : List ℕ) (n : ℕ) → begins_word text ≡ true → n ≡ prefix_len is_word_byte (take (length text - 1) (drop 1 text)) → list_all is_word_byte (take (n + 1) text) ≡ true
word_passes [] n letter e = absurd (cc)
word_passes (b ∷ text) n letter e =
    let behind : length (b ∷ text) - 1 ≡ length text = omega arith in
    let run : prefix_len is_word_byte (take (length (b ∷ text) - 1) text) ≡ prefix_len is_word_byte text = ap (λ k. prefix_len is_word_byte (take k text)) behind ∙ ap (prefix_len is_word_byte) (take-length text) in
    let one : n + 1 ≡ suc (prefix_len is_word_byte text) = omega (arith, e, run) in
    let here : is_word_byte b ≡ true = letter_goes_on b letter in
    rw (one, here) (run_passes is_word_byte text)
