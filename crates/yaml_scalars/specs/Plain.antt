-- Plain scalars (YAML 1.2.2, 7.3.3) and how they go on over lines (6.5).
use Rattle.std.specs.Prelude.{◌≡◌, ℕ, suc, ◌<◌, List, [], ◌∷◌, ◌++◌, length, Bool, true, false, ◌==◌, ◌&&◌, ◌||◌, not, nat_lt, Option, Some, None, if◌then◌else◌}
use Rattle.yaml_lines.specs.Line.{Line}
use Rattle.yaml_lines.specs.Chunks.{Each, ◌>>=◌, provided}
use Rattle.yaml_lines.specs.Marks.{blank, is_end, trimmed, without_end, nothing, quiet, all_quiet, is_empty, parted, folded, EndsWell, Quiet}

-- a sign of flow collections
abbrev pub flow_sign : ℕ → Bool
flow_sign c = (c == 44) || (c == 91) || (c == 93) || (c == 123) || (c == 125)

-- a character that begins no plain scalar
abbrev pub is_sign : ℕ → Bool
is_sign c =
    flow_sign c || (c == 35) || (c == 38) || (c == 42) || (c == 33) || (c == 124) || (c == 62) || (c == 39) || (c == 34) || (c == 37) || (c == 64) || (c == 96)

-- whether a plain scalar begins with these, where `ends` tells what ends it after `-`, `?` or `:`
abbrev pub plain_start : (List ℕ → Bool) → List ℕ → Bool
plain_start ends [] = false
plain_start ends (c ∷ cs) = not (is_sign c || blank c) && not (((c == 45) || (c == 63) || (c == 58)) && ends cs)

-- in block context a plain scalar stops before a colon with a blank or the line's end, and before a `#` after a blank
abbrev pub stops : Bool → ℕ → List ℕ → Bool
stops behind c cs = ((c == 58) && parted cs) || ((c == 35) && behind)

-- in flow also before a line break, a sign of flow, and a colon before one of these; 10 and 13 stand for line breaks
abbrev pub flow_parted : List ℕ → Bool
flow_parted [] = true
flow_parted (c ∷ cs) = blank c || (c == 10) || (c == 13) || flow_sign c

-- a plain scalar in flow style ends before this character (YAML 1.2.2, 7.3.3)
abbrev pub flow_stops : Bool → ℕ → List ℕ → Bool
flow_stops behind c cs = (c == 10) || (c == 13) || flow_sign c || ((c == 58) && flow_parted cs) || ((c == 35) && behind)

-- what ends a plain scalar after an indicator, and what stops it: in flow, or in block context
abbrev pub parted_in : Bool → List ℕ → Bool
parted_in true = flow_parted
parted_in false = parted

abbrev pub stops_in : Bool → Bool → ℕ → List ℕ → Bool
stops_in true = flow_stops
stops_in false = stops

abbrev pub first_to : ℕ → List ℕ × List ℕ → List ℕ × List ℕ
first_to c r = (c ∷ r.0, r.1)

-- the text up to where a plain scalar stops, with the blanks before that, and the rest
abbrev pub cut : (Bool → ℕ → List ℕ → Bool) → Bool → List ℕ → List ℕ × List ℕ
cut stop behind [] = ([], [])
cut stop behind (c ∷ cs) = if stop behind c cs then ([], c ∷ cs) else first_to c (cut stop (blank c) cs)

-- what the lines after a plain scalar after an indicator at n add to it, k empty lines having come
abbrev pub goes_on : ℕ → ℕ → List Line → Option (List ℕ)
goes_on n k [] = Some []
goes_on n k (l ∷ ls) =
    if is_empty l then goes_on n (suc k) ls
    else (if quiet l.text then provided (all_quiet ls) (Some [])
    else (if nat_lt n l.indent then
    (let part = cut stops false (trimmed l.text) in
    if is_end part.1 then (goes_on n 0 ls >>= λ more. Some (folded k ++ (without_end part.0 ++ more)))
    else provided (nothing part.1 && all_quiet ls) (Some (folded k ++ without_end part.0)))
    else None))

-- a plain scalar after an indicator at n, with what the lines add to it
abbrev pub plain_lines : ℕ → List ℕ → List Line → Option (List ℕ)
plain_lines n text body =
    let part = cut stops false text in
    if not (plain_start parted text) then None
    else (if is_end part.1 then (goes_on n 0 body >>= λ more. Some (without_end part.0 ++ more))
    else provided (nothing part.1 && all_quiet body) (Some (without_end part.0)))

-- The same as relations.

-- nothing in the front stops a plain scalar, and the rest is the end or does
abbrev pub RunsTo : (Bool → ℕ → List ℕ → Bool) → Bool → List ℕ → List ℕ → Type 0
RunsTo stop behind [] [] = Unit {0}
RunsTo stop behind [] (c ∷ cs) = stop behind c cs ≡ true
RunsTo stop behind (c ∷ front) rest = (stop behind c (front ++ rest) ≡ false) × RunsTo stop (blank c) front rest

-- a part of a plain scalar on one line, and what follows it and the blanks after it there
pub record Part (stop : Bool → ℕ → List ℕ → Bool) (text value rest : List ℕ) : Type 0 where
  pub gap : List ℕ
  pub whole : text ≡ (value ++ gap) ++ rest
  pub runs : RunsTo stop false (value ++ gap) rest
  pub blanks : Each blank gap
  pub ends : EndsWell value

-- the lines go on with a plain scalar after an indicator at n, and add this to it
pub data Continues (n : ℕ) : List Line → List ℕ → Type 0 where
  Done : (ls : List Line) → Quiet ls → Continues n ls []
  Next : (empties : List Line) (l : Line) (ls : List Line) (value more : List ℕ) → Each is_empty empties → quiet l.text ≡ false → n < l.indent →
      Part stops (trimmed l.text) value [] → Continues n ls more → Continues n (empties ++ (l ∷ ls)) (folded (length empties) ++ (value ++ more))
  Last : (empties : List Line) (l : Line) (ls : List Line) (value comment : List ℕ) → Each is_empty empties → quiet l.text ≡ false → n < l.indent →
      Part stops (trimmed l.text) value (35 ∷ comment) → Quiet ls → Continues n (empties ++ (l ∷ ls)) (folded (length empties) ++ value)
