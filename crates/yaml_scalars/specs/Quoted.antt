-- Quoted scalars (YAML 1.2.2, 5.7, 7.3.1 and 7.3.2), over the text of a value with its line breaks: 10 is a break, and 13
-- is one before a line that is not indented enough.
use Rattle.std.specs.Prelude.{◌≡◌, ℕ, zero, suc, ◌+◌, ◌-◌, ◌*◌, List, [], ◌∷◌, ◌++◌, length, Bool, true, false, ◌==◌, ◌&&◌, ◌||◌, not, nat_lt, nat_le, Option, Some, None, if◌then◌else◌}
use Rattle.yaml_lines.specs.Chunks.{Each, ◌>>=◌}
use Rattle.yaml_lines.specs.Marks.{blank, begins_with, breaks, folded, count_of}

-- blanks and line breaks, and those at the front
abbrev pub is_feed : ℕ → Bool
is_feed c = c == 10

-- a blank or a line feed
abbrev pub white : ℕ → Bool
white c = blank c || is_feed c

-- the blanks and line feeds at the front
abbrev pub white_front : List ℕ → List ℕ
white_front [] = []
white_front (c ∷ cs) = if white c then c ∷ white_front cs else []

-- what white space within quotes stands for: itself within a line, and a fold round line breaks
abbrev pub white_stands : List ℕ → ℕ → List ℕ
white_stands w zero = w
white_stands w (suc k) = folded k

-- what a step within quotes finds
pub data Step : Type 0 where
  Refused : Step
  -- the closing quote
  Closed : Step
  -- what stands for these characters, with this many more after its first
  Stands : List ℕ → ℕ → Step

abbrev pub white_step : ℕ → List ℕ → Step
white_step c cs = Stands (white_stands (c ∷ white_front cs) (count_of is_feed (c ∷ white_front cs))) (length (white_front cs))

abbrev pub single_step : ℕ → List ℕ → Step
single_step c cs =
    if c == 39 then (if begins_with 39 cs then Stands (39 ∷ []) 1 else Closed)
    else (if c == 13 then Refused else (if white c then white_step c cs else Stands (c ∷ []) 0))

-- the character of an escape with one character
abbrev pub simple : ℕ → Option ℕ
simple e =
    if e == 48 then Some 0
    else (if e == 97 then Some 7
    else (if e == 98 then Some 8
    else (if (e == 116) || (e == 9) then Some 9
    else (if e == 110 then Some 10
    else (if e == 118 then Some 11
    else (if e == 102 then Some 12
    else (if e == 114 then Some 13
    else (if e == 101 then Some 27
    else (if (e == 32) || (e == 34) || (e == 47) || (e == 92) then Some e
    else (if e == 78 then Some 0x85
    else (if e == 95 then Some 0xA0
    else (if e == 76 then Some 0x2028
    else (if e == 80 then Some 0x2029 else None)))))))))))))

-- how many hexadecimal digits an escape has
abbrev pub digits_of : ℕ → ℕ
digits_of e = if e == 120 then 2 else (if e == 117 then 4 else (if e == 85 then 8 else 0))

-- the value of a hexadecimal digit
abbrev pub digit : ℕ → Option ℕ
digit c =
    if nat_le 48 c && nat_le c 57 then Some (c - 48)
    else (if nat_le 97 c && nat_le c 102 then Some (c - 87) else (if nat_le 65 c && nat_le c 70 then Some (c - 55) else None))

-- the number of n hexadecimal digits, after those that gave v
abbrev pub number : ℕ → ℕ → List ℕ → Option ℕ
number zero v cs = Some v
number (suc n) v [] = None
number (suc n) v (c ∷ cs) = digit c >>= λ d. number n (16 * v + d) cs

-- a Unicode character: no surrogate, and not beyond 10FFFF
abbrev pub is_character : ℕ → Bool
is_character v = nat_lt v 0xD800 || (nat_le 0xE000 v && nat_lt v 0x11_0000)

abbrev pub if_character : Option ℕ → ℕ → Step
if_character None more = Refused
if_character (Some v) more = if is_character v then Stands (v ∷ []) more else Refused

abbrev pub if_simple : Option ℕ → Step
if_simple None = Refused
if_simple (Some v) = Stands (v ∷ []) 1

abbrev pub escape : List ℕ → Step
escape [] = Refused
escape (e ∷ cs) =
    if e == 10 then Stands (breaks (count_of is_feed (white_front cs))) (suc (length (white_front cs)))
    else (if digits_of e == 0 then if_simple (simple e) else if_character (number (digits_of e) 0 cs) (suc (digits_of e)))

abbrev pub double_step : ℕ → List ℕ → Step
double_step c cs =
    if c == 34 then Closed
    else (if c == 92 then escape cs
    else (if c == 13 then Refused else (if white c then white_step c cs else Stands (c ∷ []) 0)))

-- a step between double quotes, or between single ones
abbrev pub step_in : Bool → ℕ → List ℕ → Step
step_in true = double_step
step_in false = single_step

-- the step at the front of a text
abbrev pub first_step : Bool → List ℕ → Step
first_step is_double [] = Refused
first_step is_double (c ∷ cs) = step_in is_double c cs

abbrev pub white_run : List ℕ → Step
white_run [] = Refused
white_run (c ∷ cs) = white_step c cs

abbrev pub begins_white : List ℕ → Bool
begins_white [] = false
begins_white (c ∷ cs) = white c

abbrev pub on_step : Step → (ℕ → Option (List ℕ × ℕ)) → Option (List ℕ × ℕ)
on_step Refused more = None
on_step Closed more = Some ([], 1)
on_step (Stands v k) more = more k >>= λ r. Some (v ++ r.0, suc r.1)

-- after an opening quote: the value, and how many characters stand up to the closing quote, it included; the first k
-- characters are passed over
abbrev pub quoted : (ℕ → List ℕ → Step) → ℕ → List ℕ → Option (List ℕ × ℕ)
quoted step k [] = None
quoted step (suc k) (c ∷ cs) = quoted step k cs >>= λ r. Some (r.0, suc r.1)
quoted step zero (c ∷ cs) = on_step (step c cs) (λ k. quoted step k cs)

-- The same as relations.

-- white space that is not cut short
pub record White (w rest : List ℕ) : Type 0 where
  pub each : Each white w
  pub no_more : white_front rest ≡ []

-- what stands for characters between single quotes, before a rest
pub data SinglePiece (rest : List ℕ) : List ℕ → List ℕ → Type 0 where
  SingleOther : (c : ℕ) → (c == 39) ≡ false → (c == 13) ≡ false → white c ≡ false → SinglePiece rest (c ∷ []) (c ∷ [])
  SingleQuote : SinglePiece rest (39 ∷ 39 ∷ []) (39 ∷ [])
  SingleBlanks : (c : ℕ) (w : List ℕ) → White (c ∷ w) rest → count_of is_feed (c ∷ w) ≡ 0 → SinglePiece rest (c ∷ w) (c ∷ w)
  SingleFold : (c k : ℕ) (w : List ℕ) → White (c ∷ w) rest → count_of is_feed (c ∷ w) ≡ suc k → SinglePiece rest (c ∷ w) (folded k)

-- what stands for characters between double quotes, before a rest
pub data DoublePiece (rest : List ℕ) : List ℕ → List ℕ → Type 0 where
  DoubleOther : (c : ℕ) → (c == 34) ≡ false → (c == 92) ≡ false → (c == 13) ≡ false → white c ≡ false → DoublePiece rest (c ∷ []) (c ∷ [])
  DoubleBlanks : (c : ℕ) (w : List ℕ) → White (c ∷ w) rest → count_of is_feed (c ∷ w) ≡ 0 → DoublePiece rest (c ∷ w) (c ∷ w)
  DoubleFold : (c k : ℕ) (w : List ℕ) → White (c ∷ w) rest → count_of is_feed (c ∷ w) ≡ suc k → DoublePiece rest (c ∷ w) (folded k)
  Simple : (e c : ℕ) → (e == 10) ≡ false → (digits_of e == 0) ≡ true → simple e ≡ Some c → DoublePiece rest (92 ∷ e ∷ []) (c ∷ [])
  -- `\x`, `\u` or `\U` and its digits
  Numbered : (e v : ℕ) (ds : List ℕ) → (e == 10) ≡ false → (digits_of e == 0) ≡ false → length ds ≡ digits_of e → number (digits_of e) 0 ds ≡ Some v →
      is_character v ≡ true → DoublePiece rest (92 ∷ e ∷ ds) (v ∷ [])
  -- a line break that is taken away
  Joined : (w : List ℕ) → White w rest → DoublePiece rest (92 ∷ 10 ∷ w) (breaks (count_of is_feed w))

-- after an opening quote: the text spells this value, and the rest follows the closing quote
pub data Inside (quote : ℕ) (closes : List ℕ → Bool) (Piece : List ℕ → List ℕ → List ℕ → Type 0) : List ℕ → List ℕ → List ℕ → Type 0 where
  Close : (rest : List ℕ) → closes rest ≡ true → Inside quote closes Piece (quote ∷ rest) [] rest
  More : (spelled meant text value rest : List ℕ) → Piece text spelled meant → Inside quote closes Piece text value rest →
      Inside quote closes Piece (spelled ++ text) (meant ++ value) rest

-- after the opening quote: the value of a text in double quotes, and what is left (YAML 1.2.2, 7.3.1)
abbrev pub Double : List ℕ → List ℕ → List ℕ → Type 0
Double text value rest = Inside 34 (λ _. true) DoublePiece text value rest

-- after the opening quote: the value of a text in single quotes, and what is left (YAML 1.2.2, 7.3.2)
abbrev pub Single : List ℕ → List ℕ → List ℕ → Type 0
Single text value rest = Inside 39 (λ rest. not (begins_with 39 rest)) SinglePiece text value rest
