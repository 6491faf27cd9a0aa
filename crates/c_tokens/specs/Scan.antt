-- How far the scanner reads: functions of the text, proved to find the longest piece.
use Rattle.std.specs.Prelude.{◌≡◌, ◌≤◌, ◌⊎◌, Result, Ok, Err, ◌+◌, ℕ, zero, suc, Bool, true, false, not, List, [], ◌∷◌, ◌==◌, ◌&&◌, Option, Some, None, take, drop, length, nat_le, nat_lt, if◌then◌else◌}
use Rattle.std.specs.Option.{option_map}
use Rattle.std.specs.List.{prefix_len}
use Rattle.c_core.specs.Types.{signed_of}
use Rattle.c_tokens.specs.declared.token.Punct.{Punct}
use Rattle.c_tokens.specs.declared.token.Token.{Token}
use Rattle.c_tokens.specs.declared.token.TokenFault.{TokenFault}
use Rattle.c_tokens.specs.declared.token.TokenFault.TheVariants.{Token as TokenAt, Directive, OutOfMemory}
use Rattle.c_tokens.specs.declared.gap.Gap.{Gap}
use Rattle.c_tokens.specs.declared.gap.Gap.TheVariants.{Space, Refused, Unclosed, Absent}
use Rattle.c_tokens.specs.declared.place.Place.{Place}
use Rattle.c_tokens.specs.declared.token.TokenKind.{TokenKind}
use Rattle.c_tokens.specs.declared.token.TokenKind.TheVariants.{Word, Char, Str, Punct as Sign}
use Rattle.c_tokens.specs.Bytes.{is_letter, is_digit, is_word_byte, is_number_byte, is_plain, is_octal_digit, is_hexadecimal_digit, quote, double_quote, backslash, line_feed, small_x}
use Rattle.c_tokens.specs.Signs.{signs}
use Rattle.c_tokens.specs.Numbers.{constant, number_in}
use Rattle.c_tokens.specs.Characters.{simple_escapes}
use Rattle.c_tokens.specs.Gaps.{begins_with, gap}
use Rattle.c_tokens.specs.Reading.{LeadEnds, paren_open}

-- the bytes of a string after its first quote, the closing quote included; the byte before passes this one or not
abbrev pub string_end : Bool → List ℕ → Option ℕ
string_end passing [] = None
string_end passing (b ∷ text) =
    if b == line_feed then None
    else if not passing && (b == double_quote) then Some 1
    else option_map (λ n. n + 1) (string_end (not passing && (b == backslash)) text)

abbrev pub value_among : List (ℕ × ℕ) → ℕ → Option ℕ
value_among [] b = None
value_among (row ∷ rows) b = if b == row.0 then Some row.1 else value_among rows b

-- the closing quote after a body of n bytes and this value
abbrev pub closed_after : ℕ → List ℕ → Option ℕ → Option (ℕ × ℕ)
closed_after n text value = if begins_with quote text then option_map (λ v. (n + 1, v)) value else None

-- the value of at least one and at most this many digits
abbrev pub byte_in : ℕ → ℕ → List ℕ → Option ℕ
byte_in radix most digits =
    if nat_lt 0 (length digits) && (nat_le (length digits) most && nat_lt (number_in radix digits) 256) then Some (number_in radix digits) else None

-- an escape of digits after this many bytes of the body
abbrev pub digits_escape : ℕ → (ℕ → Bool) → ℕ → ℕ → List ℕ → Option (ℕ × ℕ)
digits_escape radix is_digit_of most before text =
    closed_after (before + prefix_len is_digit_of text) (drop (prefix_len is_digit_of text) text) (byte_in radix most (take (prefix_len is_digit_of text) text))

-- what a backslash begins
abbrev pub escape_end : List ℕ → Option (ℕ × ℕ)
escape_end [] = None
escape_end (b ∷ text) =
    if b == small_x then digits_escape 16 is_hexadecimal_digit 2 2 text
    else if is_octal_digit b then digits_escape 8 is_octal_digit 3 1 (b ∷ text)
    else closed_after 2 text (value_among simple_escapes b)

-- the bytes of a character after its first quote, the closing quote included, and its value
abbrev pub character_end : List ℕ → Option (ℕ × ℕ)
character_end [] = None
character_end (b ∷ text) =
    if b == backslash then escape_end text
    else if is_plain b then closed_after 1 text (Some b)
    else None

abbrev pub begins : List ℕ → List ℕ → Bool
begins [] text = true
begins (a ∷ w) [] = false
begins (a ∷ w) (b ∷ text) = (b == a) && begins w text

-- the first sign of a table that stands here, and its length
abbrev pub sign_among : List (List ℕ × Punct) → List ℕ → Option (ℕ × Punct)
sign_among [] text = None
sign_among (row ∷ rows) text = if begins row.0 text then Some (length row.0, row.1) else sign_among rows text

-- each of these is the length of the piece here that is the longest of its form, and the token that it is
abbrev pub word_scan : List ℕ → Option (ℕ × Option TokenKind)
word_scan [] = None
word_scan (b ∷ text) = let n = prefix_len is_word_byte text + 1 in Some (n, Some (Word (take n (b ∷ text))))

abbrev pub number_scan : List ℕ → Option (ℕ × Option TokenKind)
number_scan [] = None
number_scan (b ∷ text) = let n = prefix_len is_number_byte text + 1 in Some (n, constant (take n (b ∷ text)))

-- a character after its first quote
abbrev pub character_scan : List ℕ → Option (ℕ × Option TokenKind)
character_scan text = option_map (λ c. (c.0 + 1, Some (Char (signed_of 8 c.1)))) (character_end text)

-- a string after its first quote
abbrev pub string_scan : List ℕ → Option (ℕ × Option TokenKind)
string_scan text = option_map (λ n. (n + 1, Some Str)) (string_end false text)

abbrev pub sign_scan : List ℕ → Option (ℕ × Option TokenKind)
sign_scan text = option_map (λ s. (s.0, Some (Sign s.1))) (sign_among signs text)

-- the longest piece here by its first byte
abbrev pub scan : List ℕ → Option (ℕ × Option TokenKind)
scan [] = None
scan (b ∷ text) =
    if is_letter b then word_scan (b ∷ text)
    else if is_digit b then number_scan (b ∷ text)
    else if b == quote then character_scan text
    else if b == double_quote then string_scan text
    else sign_scan (b ∷ text)

-- a piece that is a token
abbrev pub good : Option (ℕ × Option TokenKind) → Option (ℕ × TokenKind)
good None = None
good (Some (n, None)) = None
good (Some (n, Some kind)) = Some (n, kind)

abbrev pub begins_word : List ℕ → Bool
begins_word [] = false
begins_word (b ∷ text) = is_letter b

-- a gap takes a byte at least, and this many at most
abbrev pub Within : Gap → ℕ → Type 0
Within (Space n) size = (1 ≤ n) × (n ≤ size)
Within Refused size = Unit {0}
Within Unclosed size = Unit {0}
Within Absent size = Unit {0}

-- a place at which no directive may stand, unless directives may at all
abbrev pub seen : Bool → Place → Place
seen directives at = record { spot = at.spot; fresh = directives && at.fresh }

-- one step of the scanner at a place
abbrev pub Steps : Place → List ℕ → Result (ℕ × Option Token) TokenFault → Type 0
Steps at text (Ok (n, None)) = (gap at.fresh text ≡ Space n) × ((1 ≤ n) × (n ≤ length text))
Steps at text (Ok (n, Some t)) = (gap at.fresh text ≡ Absent) × ((good (scan text) ≡ Some (n, t.kind)) × ((t.spot ≡ at.spot) × ((1 ≤ n) × (n ≤ length text))))
Steps at text (Err (TokenAt line column)) =
    (line ≡ at.spot.line) × ((column ≡ at.spot.column) × ((gap at.fresh text ≡ Unclosed) ⊎ ((gap at.fresh text ≡ Absent) × (good (scan text) ≡ None))))
Steps at text (Err (Directive line)) = (line ≡ at.spot.line) × (gap at.fresh text ≡ Refused)
Steps at text (Err OutOfMemory) = Unit {0}

-- one step over what leads a text, a gap or a parenthesis
abbrev pub LeadSteps : List ℕ → Option (ℕ × ℕ) → Type 0
LeadSteps text None = LeadEnds text
LeadSteps text (Some (n, zero)) = (gap false text ≡ Space n) × (1 ≤ n) × (n ≤ length text)
LeadSteps text (Some (n, suc m)) = (n ≡ 1) × (m ≡ 0) × (text ≡ paren_open ∷ drop 1 text)
