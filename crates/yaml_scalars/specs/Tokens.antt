-- Flow collections as tokens (YAML 1.2.2, 7.4). The text is one with its line breaks: 10 is a break, and 13 is one before a
-- line that is not indented enough.
use Rattle.std.specs.Prelude.{◌≡◌, ℕ, zero, suc, ◌+◌, ◌-◌, List, [], ◌∷◌, ◌++◌, length, drop, take, Bool, true, false, ◌==◌, ◌&&◌, ◌||◌, not, nat_le, Option, Some, None, if◌then◌else◌}
use Rattle.std.specs.Str.{encode_utf8_all}
use Rattle.yaml_scalars.specs.declared.token.Token.{Token}
use Rattle.yaml_scalars.specs.declared.token.Token.TheVariants as token
use Rattle.yaml_lines.specs.Chunks.{NoneOf, Each, ◌>>=◌, provided}
use Rattle.yaml_lines.specs.Marks.{blank, is_end, begins_with, gap, trimmed, without_end}
use Rattle.yaml_lines.specs.Lines.{is_break}
use Rattle.yaml_scalars.specs.Plain.{flow_sign, plain_start, flow_parted, flow_stops, cut, Part}
use Rattle.yaml_scalars.specs.Quoted.{white, double_step, single_step, quoted, Double, Single}

-- the longest key
abbrev pub max_key : ℕ
max_key = 1024

-- the sign of a flow collection
abbrev pub sign_of : ℕ → Token
sign_of c =
    if c == 91 then token.OpenList else (if c == 93 then token.CloseList else (if c == 123 then token.OpenMap else (if c == 125 then token.CloseMap else token.Comma)))

-- the scalar at the front of a text, and how many characters it has there
abbrev pub with_quote : Option (List ℕ × ℕ) → Option (List ℕ × ℕ)
with_quote o = o >>= λ r. Some (r.0, suc r.1)

abbrev pub plain_word : List ℕ → Option (List ℕ × ℕ)
plain_word text =
    let value = without_end (cut flow_stops false text).0 in
    provided (plain_start flow_parted text) (Some (value, length value))

abbrev pub is_quote : ℕ → Bool
is_quote c = (c == 34) || (c == 39)

abbrev pub word : ℕ → List ℕ → Option (List ℕ × ℕ)
word c cs =
    if c == 34 then with_quote (quoted double_step 0 cs) else (if c == 39 then with_quote (quoted single_step 0 cs) else plain_word (c ∷ cs))

-- a colon that makes the scalar before it a key: after a quoted one anything may follow it
abbrev pub line_parted : List ℕ → Bool
line_parted [] = true
line_parted (c ∷ cs) = blank c || is_break c

-- a colon that ends a key in flow style
abbrev pub key_colon : Bool → List ℕ → Bool
key_colon is_quoted [] = false
key_colon is_quoted (c ∷ cs) = (c == 58) && (is_quoted || line_parted cs)

-- no line break
abbrev pub on_one_line : List ℕ → Bool
on_one_line [] = true
on_one_line (c ∷ cs) = not (is_break c) && on_one_line cs

-- a scalar in flow style that is a key: on one line, short enough, with a colon after it
abbrev pub is_key : Bool → List ℕ → List ℕ → List ℕ → Bool
is_key is_quoted spelled value rest = on_one_line spelled && (nat_le (length value) max_key && key_colon is_quoted (trimmed rest))

-- the token that a scalar is, and how many characters it has after its first
abbrev pub token_of : Bool → List ℕ → List ℕ → ℕ → Token × ℕ
token_of is_quoted text value n =
    if is_key is_quoted (take n text) value (drop n text) then (token.Key (encode_utf8_all value), n + length (gap (drop n text)))
    else (token.Word (encode_utf8_all value), n - 1)

abbrev pub comment_front : List ℕ → List ℕ
comment_front [] = []
comment_front (c ∷ cs) = if is_break c then [] else c ∷ comment_front cs

abbrev pub one_more : Token → Option (List Token) → Option (List Token)
one_more t o = o >>= λ ts. Some (t ∷ ts)

-- The tokens of a text. `behind` tells whether a blank or a line break stands before it; the first k characters are passed over.
abbrev pub tokens : Bool → ℕ → List ℕ → Option (List Token)
tokens behind k [] = Some []
tokens behind (suc k) (c ∷ cs) = tokens behind k cs
tokens behind zero (c ∷ cs) =
    if white c then tokens true 0 cs
    else (if c == 13 then (if begins_with 35 (trimmed cs) then tokens true 0 cs else None)
    else (if c == 35 then (if behind then tokens true (length (comment_front cs)) cs else None)
    else (if flow_sign c then one_more (sign_of c) (tokens false 0 cs)
    else (word c cs >>= λ w. let t = token_of (is_quote c) (c ∷ cs) w.0 w.1 in one_more t.0 (tokens false t.1 cs)))))

-- The front of a text: the tokens that it is, whether it leaves a blank or a break behind, and how many more characters it has.
abbrev pub word_step : Bool → List ℕ → Option (List ℕ × ℕ) → Option (List Token × (Bool × ℕ))
word_step is_quoted text o = o >>= λ w. let t = token_of is_quoted text w.0 w.1 in Some (t.0 ∷ [], (false, t.1))

abbrev pub token_step : Bool → List ℕ → Option (List Token × (Bool × ℕ))
token_step behind [] = None
token_step behind (c ∷ cs) =
    if white c then Some ([], (true, 0))
    else (if c == 13 then (if begins_with 35 (trimmed cs) then Some ([], (true, 0)) else None)
    else (if c == 35 then (if behind then Some ([], (true, length (comment_front cs))) else None)
    else (if flow_sign c then Some (sign_of c ∷ [], (false, 0)) else word_step (is_quote c) (c ∷ cs) (word c cs))))

-- the scalar at the front of a text, and its token
abbrev pub first_word : List ℕ → Option (List ℕ × ℕ)
first_word [] = None
first_word (c ∷ cs) = word c cs

abbrev pub first_quote : List ℕ → Bool
first_quote [] = false
first_quote (c ∷ cs) = is_quote c

abbrev pub word_token : List ℕ → Option (Token × ℕ)
word_token text = first_word text >>= λ w. Some (token_of (first_quote text) text w.0 w.1)

-- tokens that are found after others
abbrev pub advanced : List Token → Option (List Token × (Bool × ℕ)) → Option ((Bool × ℕ) × List Token)
advanced front None = None
advanced front (Some s) = Some (s.1, front ++ s.0)

-- nothing but blanks, line breaks and comments
abbrev pub is_silent : List ℕ → Bool
is_silent text = elim (tokens false 0 text) [ None ↦ false | Some ts ↦ is_end ts ]

-- The same as relations.

-- the text is a scalar and a rest
pub data WordAt : Bool → List ℕ → List ℕ → List ℕ → Type 0 where
  PlainWord : (value rest : List ℕ) (part : List ℕ) (space : List ℕ) → is_end value ≡ false → rest ≡ space ++ part → Part flow_stops (value ++ rest) value part →
      plain_start flow_parted (value ++ rest) ≡ true → WordAt false value value rest
  DoubleWord : (spelled value rest : List ℕ) → Double (spelled ++ rest) value rest → WordAt true (34 ∷ spelled) value rest
  SingleWord : (spelled value rest : List ℕ) → Single (spelled ++ rest) value rest → WordAt true (39 ∷ spelled) value rest

-- the text ends here, or its line does
abbrev pub EndsLine : List ℕ → Type 0
EndsLine [] = Unit {0}
EndsLine (c ∷ cs) = is_break c ≡ true

-- a text, after a blank or not, is these tokens
pub data Lexed : Bool → List ℕ → List Token → Type 0 where
  NoMore : (behind : Bool) → Lexed behind [] []
  Blank : (behind : Bool) (c : ℕ) (text : List ℕ) (ts : List Token) → white c ≡ true → Lexed true text ts → Lexed behind (c ∷ text) ts
  -- a comment line needs no indentation
  CommentLine : (behind : Bool) (text : List ℕ) (ts : List Token) → begins_with 35 (trimmed text) ≡ true → Lexed true text ts → Lexed behind (13 ∷ text) ts
  Comment : (front rest : List ℕ) (ts : List Token) → NoneOf is_break front → EndsLine rest → Lexed true rest ts → Lexed true (35 ∷ (front ++ rest)) ts
  Sign : (behind : Bool) (c : ℕ) (text : List ℕ) (ts : List Token) → flow_sign c ≡ true → Lexed false text ts → Lexed behind (c ∷ text) (sign_of c ∷ ts)
  IsWord : (behind is_quoted : Bool) (spelled value rest : List ℕ) (ts : List Token) → WordAt is_quoted spelled value rest →
      is_key is_quoted spelled value rest ≡ false → Lexed false rest ts → Lexed behind (spelled ++ rest) (token.Word (encode_utf8_all value) ∷ ts)
  IsKey : (behind is_quoted : Bool) (spelled value blanks rest : List ℕ) (ts : List Token) → WordAt is_quoted spelled value (blanks ++ (58 ∷ rest)) →
      Each blank blanks → is_key is_quoted spelled value (blanks ++ (58 ∷ rest)) ≡ true → Lexed false rest ts →
      Lexed behind (spelled ++ (blanks ++ (58 ∷ rest))) (token.Key (encode_utf8_all value) ∷ ts)
