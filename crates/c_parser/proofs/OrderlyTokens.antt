-- The tokens of a text stand in its order, and their constants fit.
use Rattle.std.proofs.Common.{◌≡◌, ◌<◌, ◌≤◌, ◌+◌, ◌^◌, ◌-◌, ◌⊎◌, inl, inr, ℕ, suc, pos, negsuc, nat_lt, nat_le, lt-ltb, eq-eqb, List, [], ◌∷◌, length, take, drop, map, Bool, true, false, cond, ◌==◌, if◌then◌else◌, refl, sym, ap, ◌∙◌, subst, Option, Some, None, arith, length-append}
use Rattle.std.proofs.Math.Bool.{or-true}
use Rattle.std.proofs.lemmas.List.{take-append-drop}
use Rattle.std.proofs.lemmas.Bool.Decides.{nat_tests}
use Rattle.std.specs.List.{list_all, prefix_len, take_while}
use Rattle.c_core.specs.Types.{fits_signed, signed_of}
use Rattle.c_core.specs.TextOrder.{is_before, is_before_first}
use Rattle.c_core.proofs.TextOrderLaws.{left, right, is_before-then}
use Rattle.c_core.specs.declared.number.Spot.{Spot}
use Rattle.c_tokens.specs.Bytes.{line_feed, is_digit, is_octal_digit, is_hexadecimal_digit}
use Rattle.c_tokens.specs.Numbers.{Suffix, suffixes, suffix_among, suffix_of, with_suffix, in_radix, constant, begins_hexadecimal, is_spelled, number_in}
use Rattle.c_tokens.specs.Pieces.{Piece, AWord, ANumber, ACharacter, AString, ASign}
use Rattle.c_tokens.specs.Reading.{next, after, past, start, Ending, Reads, AtEnd, Between, AToken, RefusedDirective, UnclosedComment, BadNumber, BadByte, Tokens}
use Rattle.c_tokens.specs.declared.place.Place.{Place}
use Rattle.c_tokens.specs.declared.token.Token.{Token}
use Rattle.c_tokens.specs.declared.token.TokenKind.{TokenKind}
use Rattle.c_tokens.proofs.Scanned.{found_longest, found_within}
use Rattle.c_parser.specs.TextOrder.{tokens_rise}
use Rattle.c_parser.specs.Formed.{kind_fits, constants_fit, AreOrderly}
use Rattle.c_parser.proofs.Passing.{and_true}

-- ---- places

-- where lines and columns stand still
abbrev top : ℕ
top = 2 ^ 32 - 1

next_counts : (n : ℕ) → n < top → next n ≡ suc n
next_counts n h = omega (arith, h)

-- a place that is so many bytes on at most, and not before
record On (n : ℕ) (a b : Spot) : Type 0 where
  line : b.line ≤ a.line + n
  column : b.column ≤ a.column + n

later_line : (a b : Spot) → a.line < b.line → is_before a b ≡ true
later_line a b h = rw (lt-ltb a.line b.line h) refl

later_column : (a b : Spot) → a.line ≡ b.line → a.column < b.column → is_before a b ≡ true
later_column a b e h = rw (eq-eqb a.line b.line e) (rw (lt-ltb a.column b.column h) (or-true (nat_lt a.line b.line)))

module _ (at : Place) (b : ℕ) (line : at.spot.line < top) (column : at.spot.column < top) where
  byte_before : is_before at.spot (after at b).spot ≡ true
  byte_before = by (b == line_feed) refl
    where
      by : (x : Bool) → (b == line_feed) ≡ x → is_before at.spot (after at b).spot ≡ true
      by true e = rw e (later_line at.spot (record { line = next at.spot.line; column = 1 }) (let n = next_counts at.spot.line line in omega (arith, n)))
      by false e = rw e (later_column at.spot (record { line = at.spot.line; column = next at.spot.column }) refl (let n = next_counts at.spot.column column in omega (arith, n)))

  byte_on : On 1 at.spot (after at b).spot
  byte_on = by (b == line_feed) refl
    where
      by : (x : Bool) → (b == line_feed) ≡ x → On 1 at.spot (after at b).spot
      by true e = rw e (record { line = let n = next_counts at.spot.line line in omega (arith, n); column = omega arith })
      by false e = rw e (record { line = omega arith; column = let n = next_counts at.spot.column column in omega (arith, n) })

text_on : (w : List ℕ) (at : Place) → at.spot.line + length w ≤ top → at.spot.column + length w ≤ top → On (length w) at.spot (past at w).spot
text_on [] at line column = record { line = omega arith; column = omega arith }
text_on (b ∷ w) at line column =
    let one = byte_on at b (omega (arith, line)) (omega (arith, column)) in
    let rest = text_on w (after at b) (omega (arith, line, one.line)) (omega (arith, column, one.column)) in
    record { line = omega (arith, one.line, rest.line); column = omega (arith, one.column, rest.column) }

text_before : (b : ℕ) (w : List ℕ) (at : Place) → at.spot.line + suc (length w) ≤ top → at.spot.column + suc (length w) ≤ top → is_before at.spot (past at (b ∷ w)).spot ≡ true
text_before b [] at line column = byte_before at b (omega (arith, line)) (omega (arith, column))
text_before b (c ∷ w) at line column =
    let l : at.spot.line < top = omega (arith, line) in
    let m : at.spot.column < top = omega (arith, column) in
    let one = byte_on at b l m in
    is_before-then at.spot (after at b).spot (past (after at b) (c ∷ w)).spot (byte_before at b l m)
    (text_before c w (after at b) (omega (arith, line, one.line)) (omega (arith, column, one.column)))

-- ---- numbers

some_fits : Option (Bool × ℕ) → Bool
some_fits None = true
some_fits (Some s) = nat_le s.1 2

row_fits : Suffix → Bool
row_fits s = nat_le s.longs 2

among_fits : (rows : List Suffix) (w : List ℕ) → list_all row_fits rows ≡ true → some_fits (suffix_among rows w) ≡ true
unfolding some_fits row_fits
among_fits [] w h = refl
among_fits (s ∷ rows) w h = by (is_spelled s.spelling w) (among_fits rows w (right (row_fits s) _ h))
  where
    by : (x : Bool) → some_fits (suffix_among rows w) ≡ true → some_fits (if x then Some (s.unsigned, s.longs) else suffix_among rows w) ≡ true
    by true later = left (row_fits s) _ h
    by false later = later

suffix_fits : (w : List ℕ) → some_fits (suffix_of w) ≡ true
unfolding row_fits
suffix_fits w = among_fits suffixes w refl

kind_if_fits : Option TokenKind → Bool
kind_if_fits None = true
kind_if_fits (Some k) = kind_fits k

with_fits : (decimal : Bool) (radix : ℕ) (digits : List ℕ) (o : Option (Bool × ℕ)) → some_fits o ≡ true → kind_if_fits (with_suffix decimal radix digits o) ≡ true
unfolding some_fits kind_if_fits
with_fits decimal radix digits None h = refl
with_fits decimal radix digits (Some s) h = by (nat_lt (number_in radix digits) (2 ^ 64)) refl
  where
    by : (x : Bool) → nat_lt (number_in radix digits) (2 ^ 64) ≡ x → kind_if_fits (with_suffix decimal radix digits (Some s)) ≡ true
    by true e = rw e h
    by false e = rw e refl

radix_fits : (decimal : Bool) (radix : ℕ) (is : ℕ → Bool) (w : List ℕ) → kind_if_fits (in_radix decimal radix is w) ≡ true
unfolding kind_if_fits
radix_fits decimal radix is w = by (nat_lt 0 (prefix_len is w)) refl
  where
    by : (x : Bool) → nat_lt 0 (prefix_len is w) ≡ x → kind_if_fits (in_radix decimal radix is w) ≡ true
    by true e = rw e (with_fits decimal radix (take_while is w) (suffix_of (drop (prefix_len is w) w)) (suffix_fits (drop (prefix_len is w) w)))
    by false e = rw e refl

number_fits : (w : List ℕ) → kind_if_fits (constant w) ≡ true
unfolding kind_if_fits
number_fits [] = refl
number_fits (b ∷ w) = by (b == 48) (begins_hexadecimal w) refl refl
  where
    by : (x y : Bool) → (b == 48) ≡ x → begins_hexadecimal w ≡ y → kind_if_fits (constant (b ∷ w)) ≡ true
    by true true e f = rw e (rw f (radix_fits false 16 is_hexadecimal_digit (drop 1 w)))
    by true false e f = rw e (rw f (radix_fits false 8 is_octal_digit (b ∷ w)))
    by false y e f = rw e (radix_fits true 10 is_digit (b ∷ w))

-- a byte read in two's complement
byte_fits : (n : ℕ) → fits_signed 32 (signed_of 8 n) ≡ true
unfolding signed_of
byte_fits n = by (nat_lt n 128) refl
  where
    by : (x : Bool) → nat_lt n 128 ≡ x → fits_signed 32 (cond x (pos n) (negsuc (256 - suc n))) ≡ true
    by true e = grind (arith, nat_tests)
    by false e = grind (arith, nat_tests)

piece_fits : {w : List ℕ} {o : Option TokenKind} → Piece w o → kind_if_fits o ≡ true
unfolding kind_if_fits
piece_fits (AWord l ws) = refl
piece_fits (ANumber {b} {w} l ws) = number_fits (b ∷ w)
piece_fits (ACharacter {value = value} c) = byte_fits value
piece_fits (AString s) = refl
piece_fits (ASign p) = refl

one_fits : {w : List ℕ} (k : TokenKind) → Piece w (Some k) → kind_fits k ≡ true
unfolding kind_if_fits
one_fits k p = piece_fits p

-- ---- tokens

spots : List Token → List Spot
spots ts = map (λ t. t.spot) ts

-- the first place, if there is one, is this one or stands behind it
FromOn : Spot → List Spot → Type 0
FromOn p [] = Unit {0}
FromOn p (q ∷ qs) = (p ≡ q) ⊎ (is_before p q ≡ true)

record Orderly (p : Spot) (ts : List Token) : Type 0 where
  first : FromOn p (spots ts)
  rise : tokens_rise ts ≡ true
  constants : constants_fit ts ≡ true

no_tokens : (p : Spot) → Orderly p []
unfolding FromOn spots
no_tokens p = record { first = tt; rise = refl; constants = refl }

-- from a place before
from_before : (p q : Spot) (qs : List Spot) → is_before p q ≡ true → FromOn q qs → is_before_first p qs ≡ true
unfolding FromOn
from_before p q [] h f = refl
from_before p q (r ∷ qs) h (inl e) = subst (λ (x : Spot). is_before p x ≡ true) e h
from_before p q (r ∷ qs) h (inr g) = is_before-then p q r h g

first_before : (p : Spot) (qs : List Spot) → is_before_first p qs ≡ true → FromOn p qs
unfolding FromOn
first_before p [] h = tt
first_before p (q ∷ qs) h = inr h

-- behind a piece that may be empty
further : (w : List ℕ) (at : Place) (ts : List Token) → at.spot.line + length w ≤ top → at.spot.column + length w ≤ top → Orderly (past at w).spot ts → Orderly at.spot ts
further [] at ts line column o = o
further (b ∷ w) at ts line column o = record {
  first = first_before at.spot (spots ts) (from_before at.spot (past at (b ∷ w)).spot (spots ts) (text_before b w at line column) o.first);
  rise = o.rise;
  constants = o.constants;
}

-- behind a token
one_more : (w : List ℕ) (at : Place) (kind : TokenKind) (ts : List Token) → 1 ≤ length w → Piece w (Some kind) → at.spot.line + length w ≤ top → at.spot.column + length w ≤ top →
    Orderly (past at w).spot ts → Orderly at.spot (record { kind = kind; spot = at.spot } ∷ ts)
unfolding FromOn spots
one_more [] at kind ts some p line column o = absurd (omega (arith, some))
one_more (b ∷ w) at kind ts some p line column o = record {
  first = inl refl;
  rise = and_true _ _ (from_before at.spot (past at (b ∷ w)).spot (spots ts) (text_before b w at line column) o.first) o.rise;
  constants = and_true (kind_fits kind) _ (one_fits kind p) o.constants;
}

parts_length : (n : ℕ) (text : List ℕ) → length (take n text) + length (drop n text) ≡ length text
parts_length n text = sym (length-append (take n text) (drop n text)) ∙ ap length (take-append-drop n text)

read_orderly : (directives : Bool) (at : Place) (text : List ℕ) (ts : List Token) (end : Ending) → Reads directives at text ts end →
    at.spot.line + length text ≤ top → at.spot.column + length text ≤ top → Orderly at.spot ts
read_orderly directives at text ts end AtEnd line column = no_tokens at.spot
read_orderly directives at text ts end (Between {n = n} g d) line column =
    let parts = parts_length n text in
    let l : at.spot.line + length (take n text) ≤ top = omega (arith, parts, line) in
    let c : at.spot.column + length (take n text) ≤ top = omega (arith, parts, column) in
    let on = text_on (take n text) at l c in
    further (take n text) at ts l c
    (read_orderly directives (past at (take n text)) (drop n text) ts end d (omega (arith, parts, line, on.line)) (omega (arith, parts, column, on.column)))
read_orderly directives at text ts end (AToken {w = w} {rest = rest} {kind} {ts = us} g piece d) line column =
    let parts : length text ≡ length w + length rest = ap length piece.parts ∙ length-append w rest in
    let l : at.spot.line + length w ≤ top = omega (arith, parts, line) in
    let c : at.spot.column + length w ≤ top = omega (arith, parts, column) in
    let on = text_on w at l c in
    let some = (found_within text (length w) (Some kind) (found_longest piece)).0 in
    one_more w at kind us some piece.piece l c
    (read_orderly directives (past at w) rest us end d (omega (arith, parts, line, on.line)) (omega (arith, parts, column, on.column)))
read_orderly directives at text ts end (RefusedDirective g) line column = no_tokens at.spot
read_orderly directives at text ts end (UnclosedComment g) line column = no_tokens at.spot
read_orderly directives at text ts end (BadNumber g l) line column = no_tokens at.spot
read_orderly directives at text ts end (BadByte g n) line column = no_tokens at.spot

-- the tokens of a text on whose lines and columns no count stands still
pub text_orderly : (text : List ℕ) (ts : List Token) (end : Ending) → length text < 2 ^ 30 → Tokens text ts end → AreOrderly ts
text_orderly text ts end short d =
    let o = read_orderly true start text ts end d (omega (arith, short)) (omega (arith, short)) in
    record { rise = o.rise; constants = o.constants }
