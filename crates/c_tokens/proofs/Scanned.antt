-- The scanner finds the longest piece, and none where none stands.
use Rattle.std.proofs.Common.{◌≡◌, ◌≤◌, ◌+◌, ◌∙◌, ℕ, suc, Bool, true, false, cond, ◌==◌, List, [], ◌∷◌, ◌++◌, length, take, drop, Option, Some, None, refl, sym, ap, subst, arith, append_assoc, length-append}
use Rattle.std.specs.Option.{option_map}
use Rattle.std.specs.List.{prefix_len, list_all}
use Rattle.std.proofs.lemmas.Bool.{eqb-true}
use Rattle.std.proofs.lemmas.Bool.Decides.{nat_tests}
use Rattle.std.proofs.lemmas.List.Folds.{length-prefix_len}
use Rattle.std.proofs.Math.Seq.{take-append_seam}
use Rattle.std.proofs.lemmas.List.{take-append-drop}
use Rattle.c_tokens.specs.declared.token.Punct.{Punct}
use Rattle.c_tokens.specs.declared.token.TokenKind.{TokenKind}
use Rattle.c_tokens.specs.declared.token.TokenKind.TheVariants.{Word, Punct as Sign}
use Rattle.c_tokens.specs.Bytes.{is_letter, is_digit, is_word_byte, is_number_byte, quote, double_quote}
use Rattle.c_tokens.specs.Signs.{signs}
use Rattle.c_tokens.specs.Numbers.{constant}
use Rattle.c_tokens.specs.Pieces.{Piece, AWord, ANumber, ACharacter, AString, ASign, Longest, NoPiece}
use Rattle.c_tokens.specs.Scan.{string_end, character_end, sign_among, word_scan, number_scan, character_scan, string_scan, sign_scan, scan}
use Rattle.c_tokens.proofs.Choices.{first_choice, second_choice, some_pair, mapped}
use Rattle.c_tokens.proofs.Runs.{run_passes, run_least}
use Rattle.c_tokens.proofs.StringPieces.{string_whole, string_here}
use Rattle.c_tokens.proofs.CharacterPieces.{character_whole, character_here}
use Rattle.c_tokens.proofs.SignPieces.{Bounds, sign_found, sign_here, Apart, sign_apart}

-- a piece of this length is the one found, or is shorter
abbrev pub Reaches : Option (ℕ × Option TokenKind) → ℕ → Option TokenKind → Type 0
Reaches None n kind = ⊥
Reaches (Some found) n kind = (n ≤ found.0) × (n ≡ found.0 → kind ≡ found.1)

digit_no_letter : (b : ℕ) → is_digit b ≡ true → is_letter b ≡ false
digit_no_letter b e = grind (arith, nat_tests)

-- the whole run of a class, and a part of it that is as long
run_reaches : (p : ℕ → Bool) (make : List ℕ → Option TokenKind) (b : ℕ) (w rest : List ℕ) → list_all p w ≡ true →
    Reaches (Some (prefix_len p (w ++ rest) + 1, make (take (prefix_len p (w ++ rest) + 1) (b ∷ (w ++ rest))))) (length (b ∷ w)) (make (b ∷ w))
run_reaches p make b w rest all =
    let least = run_least p w rest all in
    (omega (arith, least), λ size. ap make (sym (ap (λ n. take n (b ∷ (w ++ rest))) (sym size) ∙ take-append_seam (b ∷ w) rest)))

sign_reaches : (found : Option (ℕ × Punct)) (n : ℕ) (s : Punct) → Bounds found n s → Reaches (option_map {U = ℕ × Option TokenKind} (λ s. (s.0, Some (Sign s.1))) found) n (Some (Sign s))
sign_reaches None n s h = absurd h
sign_reaches (Some found) n s h = (h.0, λ size. ap (λ x. Some (Sign x)) (h.1 size))

scan_word : (b : ℕ) (text : List ℕ) → is_letter b ≡ true → scan (b ∷ text) ≡ word_scan (b ∷ text)
scan_word b text letter = first_choice (is_letter b) (word_scan (b ∷ text)) _ letter

scan_number : (b : ℕ) (text : List ℕ) → is_digit b ≡ true → scan (b ∷ text) ≡ number_scan (b ∷ text)
scan_number b text digit = second_choice (is_letter b) (is_digit b) (word_scan (b ∷ text)) (number_scan (b ∷ text)) _ (digit_no_letter b digit) digit

scan_sign : (w rest : List ℕ) → Apart w → scan (w ++ rest) ≡ sign_scan (w ++ rest)
scan_sign w rest apart =
    let first : scan (apart.first ∷ (apart.others ++ rest)) ≡ sign_scan (apart.first ∷ (apart.others ++ rest)) = rw (apart.letter, apart.digit, apart.quoted, apart.double) refl in
    subst (λ x. scan (x ++ rest) ≡ sign_scan (x ++ rest)) (sym apart.parts) first

pub piece_reached : {v : List ℕ} {kind : Option TokenKind} → Piece v kind → (rest : List ℕ) → Reaches (scan (v ++ rest)) (length v) kind
piece_reached (AWord {b = b} {w = w} letter all) rest =
    let P : Option (ℕ × Option TokenKind) → Type 0 = λ o. Reaches o (length (b ∷ w)) (Some (Word (b ∷ w))) in
    subst P (sym (scan_word b (w ++ rest) letter)) (run_reaches is_word_byte (λ x. Some (Word x)) b w rest all)
piece_reached (ANumber {b = b} {w = w} digit all) rest =
    let P : Option (ℕ × Option TokenKind) → Type 0 = λ o. Reaches o (length (b ∷ w)) (constant (b ∷ w)) in
    subst P (sym (scan_number b (w ++ rest) digit)) (run_reaches is_number_byte constant b w rest all)
piece_reached (ACharacter {text = text} {value = value} character) rest =
    let whole : character_end ((text ++ quote ∷ []) ++ rest) ≡ Some (length text + 1, value) =
    ap character_end (append_assoc text (quote ∷ []) rest) ∙ character_whole character rest in
    let size : length (text ++ quote ∷ []) ≡ length text + 1 = length-append text (quote ∷ []) in
    rw whole (omega (arith, size), λ same. refl)
piece_reached (AString {text = text} string) rest =
    let whole : string_end false ((text ++ double_quote ∷ []) ++ rest) ≡ Some (length text + 1) =
    ap (string_end false) (append_assoc text (double_quote ∷ []) rest) ∙ string_whole string rest in
    let size : length (text ++ double_quote ∷ []) ≡ length text + 1 = length-append text (double_quote ∷ []) in
    rw whole (omega (arith, size), λ same. refl)
piece_reached (ASign {w = w} {s = s} listed) rest =
    let P : Option (ℕ × Option TokenKind) → Type 0 = λ o. Reaches o (length w) (Some (Sign s)) in
    subst P (sym (scan_sign w rest (sign_apart w s listed))) (sign_reaches (sign_among signs (w ++ rest)) (length w) s (sign_found w s listed rest))

-- What is found is a piece.

record Cut (text : List ℕ) (n : ℕ) (kind : Option TokenKind) : Type 0 where
  pub piece : List ℕ
  pub rest : List ℕ
  pub is_piece : Piece piece kind
  pub parts : text ≡ piece ++ rest
  pub size : length piece ≡ n

run_cut : (p : ℕ → Bool) (make : List ℕ → Option TokenKind) (b : ℕ) (text : List ℕ) (n : ℕ) (kind : Option TokenKind) →
    Piece (b ∷ take (prefix_len p text) text) (make (b ∷ take (prefix_len p text) text)) →
    ◌≡◌ {A = Option (ℕ × Option TokenKind)} (Some (prefix_len p text + 1, make (take (prefix_len p text + 1) (b ∷ text)))) (Some (n, kind)) → Cut (b ∷ text) n kind
run_cut p make b text n kind piece e =
    let m = prefix_len p text in
    let one : m + 1 ≡ suc m = omega arith in
    let same : make (b ∷ take m text) ≡ kind = sym (ap (λ k. make (take k (b ∷ text))) one) ∙ (some_pair e).1 in
    let whole : length (take m text) ≡ m = length-prefix_len p text in
    let size : m + 1 ≡ n = (some_pair e).0 in
    record {
      piece = b ∷ take m text;
      rest = drop m text;
      is_piece = subst (Piece (b ∷ take m text)) same piece;
      parts = ap (λ t. b ∷ t) (sym (take-append-drop m text));
      size = omega (arith, whole, size);
    }

character_cut : (text : List ℕ) (n : ℕ) (kind : Option TokenKind) → character_scan text ≡ Some (n, kind) → Cut (quote ∷ text) n kind
character_cut text n kind e =
    let got = mapped _ (character_end text) (n, kind) e in
    let c = got.0 in
    let found = character_here text c.0 c.1 got.1.0 in
    let size = found.size in
    let whole : length (found.inside ++ quote ∷ []) ≡ length found.inside + 1 = length-append found.inside (quote ∷ []) in
    let n_is : c.0 + 1 ≡ n = ap (λ p. p.0) got.1.1 in
    record {
      piece = quote ∷ (found.inside ++ quote ∷ []);
      rest = found.rest;
      is_piece = subst (Piece (quote ∷ (found.inside ++ quote ∷ []))) (ap (λ p. p.1) got.1.1) (ACharacter found.character);
      parts = ap (λ t. quote ∷ t) (found.parts ∙ sym (append_assoc found.inside (quote ∷ []) found.rest));
      size = omega (arith, size, whole, n_is);
    }

string_cut : (text : List ℕ) (n : ℕ) (kind : Option TokenKind) → string_scan text ≡ Some (n, kind) → Cut (double_quote ∷ text) n kind
string_cut text n kind e =
    let got = mapped _ (string_end false text) (n, kind) e in
    let found = string_here text got.0 got.1.0 in
    let size = found.size in
    let whole : length (found.inside ++ double_quote ∷ []) ≡ length found.inside + 1 = length-append found.inside (double_quote ∷ []) in
    let n_is : got.0 + 1 ≡ n = ap (λ p. p.0) got.1.1 in
    record {
      piece = double_quote ∷ (found.inside ++ double_quote ∷ []);
      rest = found.rest;
      is_piece = subst (Piece (double_quote ∷ (found.inside ++ double_quote ∷ []))) (ap (λ p. p.1) got.1.1) (AString found.string);
      parts = ap (λ t. double_quote ∷ t) (found.parts ∙ sym (append_assoc found.inside (double_quote ∷ []) found.rest));
      size = omega (arith, size, whole, n_is);
    }

sign_cut : (text : List ℕ) (n : ℕ) (kind : Option TokenKind) → sign_scan text ≡ Some (n, kind) → Cut text n kind
sign_cut text n kind e =
    let got = mapped _ (sign_among signs text) (n, kind) e in
    let s = got.0 in
    let found = sign_here signs text s.0 s.1 got.1.0 in
    record {
      piece = found.spelling;
      rest = found.rest;
      is_piece = subst (Piece found.spelling) (ap (λ p. p.1) got.1.1) (ASign found.listed);
      parts = found.parts;
      size = found.size ∙ ap (λ p. p.0) got.1.1;
    }

cut_case : (b : ℕ) (text : List ℕ) (n : ℕ) (kind : Option TokenKind) (letter digit single double : Bool) →
    is_letter b ≡ letter → is_digit b ≡ digit → (b == quote) ≡ single → (b == double_quote) ≡ double →
    cond letter (word_scan (b ∷ text)) (cond digit (number_scan (b ∷ text)) (cond single (character_scan text) (cond double (string_scan text) (sign_scan (b ∷ text))))) ≡ Some (n, kind) →
    Cut (b ∷ text) n kind
cut_case b text n kind true digit single double l d q k e = run_cut is_word_byte (λ x. Some (Word x)) b text n kind (AWord l (run_passes is_word_byte text)) e
cut_case b text n kind false true single double l d q k e = run_cut is_number_byte constant b text n kind (ANumber d (run_passes is_number_byte text)) e
cut_case b text n kind false false true double l d q k e = subst (λ c. Cut (c ∷ text) n kind) (sym (eqb-true b quote q)) (character_cut text n kind e)
cut_case b text n kind false false false true l d q k e = subst (λ c. Cut (c ∷ text) n kind) (sym (eqb-true b double_quote k)) (string_cut text n kind e)
cut_case b text n kind false false false false l d q k e = sign_cut (b ∷ text) n kind e

scan_cut : (text : List ℕ) (n : ℕ) (kind : Option TokenKind) → scan text ≡ Some (n, kind) → Cut text n kind
scan_cut [] n kind e = absurd (cc)
scan_cut (b ∷ text) n kind e = cut_case b text n kind (is_letter b) (is_digit b) (b == quote) (b == double_quote) refl refl refl refl e

-- The longest piece is what is found.

reached_at : (text : List ℕ) (found : Option (ℕ × Option TokenKind)) → scan text ≡ found → {v : List ℕ} {kind : Option TokenKind} → Piece v kind → (left : List ℕ) → text ≡ v ++ left → Reaches found (length v) kind
reached_at text found e {v = v} {kind = kind} piece left parts =
    let P : Option (ℕ × Option TokenKind) → Type 0 = λ o. Reaches o (length v) kind in
    subst P (ap scan (sym parts) ∙ e) (piece_reached piece left)

pub longest_found : (text : List ℕ) (n : ℕ) (kind : Option TokenKind) → scan text ≡ Some (n, kind) → Longest (take n text) kind text (drop n text)
longest_found text n kind e =
    let cut = scan_cut text n kind e in
    let size = cut.size in
    let front : take n text ≡ cut.piece = ap (take n) cut.parts ∙ ap (λ k. take k (cut.piece ++ cut.rest)) (sym size) ∙ take-append_seam cut.piece cut.rest in
    let long : length (take n text) ≡ n = ap length front ∙ size in
    record {
      piece = subst (λ w. Piece w kind) (sym front) cut.is_piece;
      parts = sym (take-append-drop n text);
      longest = λ v other left piece parts. let h = (reached_at text (Some (n, kind)) e piece left parts).0 in omega (arith, h, long);
    }

pub none_found : (text : List ℕ) → scan text ≡ None → NoPiece text
none_found text e v kind left piece parts = reached_at text None e piece left parts

found_case : {w text rest : List ℕ} {kind : Option TokenKind} → Longest w kind text rest → (found : Option (ℕ × Option TokenKind)) → scan text ≡ found → found ≡ Some (length w, kind)
found_case {w = w} {text = text} {rest = rest} {kind = kind} long None e = absurd (reached_at text None e long.piece rest long.parts)
found_case {w = w} {text = text} {rest = rest} {kind = kind} long (Some (n, other)) e =
    let cut = scan_cut text n other e in
    let size = cut.size in
    let reached = reached_at text (Some (n, other)) e long.piece rest long.parts in
    let most = long.longest cut.piece other cut.rest cut.is_piece cut.parts in
    let least = reached.0 in
    let same : length w ≡ n = omega (arith, size, most, least) in
    ap (λ k. Some (k, other)) (sym same) ∙ ap (λ k. Some (length w, k)) (sym (reached.1 same))

pub found_longest : {w text rest : List ℕ} {kind : Option TokenKind} → Longest w kind text rest → scan text ≡ Some (length w, kind)
found_longest {text = text} long = found_case long (scan text) refl

piece_some : {v : List ℕ} {kind : Option TokenKind} → Piece v kind → 1 ≤ length v
piece_some (AWord letter all) = omega arith
piece_some (ANumber digit all) = omega arith
piece_some (ACharacter character) = omega arith
piece_some (AString string) = omega arith
piece_some (ASign {w = w} {s = s} listed) = let apart = sign_apart w s listed in let size = ap length apart.parts in omega (arith, size)

-- what is found takes a byte at least, and stands within the text
pub found_within : (text : List ℕ) (n : ℕ) (kind : Option TokenKind) → scan text ≡ Some (n, kind) → (1 ≤ n) × (n ≤ length text)
found_within text n kind e =
    let cut = scan_cut text n kind e in
    let size = cut.size in
    let some = piece_some cut.is_piece in
    let whole : length text ≡ length cut.piece + length cut.rest = ap length cut.parts ∙ length-append cut.piece cut.rest in
    (omega (arith, size, some), omega (arith, size, whole))
