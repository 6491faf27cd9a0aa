-- Block scalars (YAML 1.2.2, 8.1).
use Rattle.std.specs.Prelude.{◌≡◌, ℕ, zero, suc, ◌+◌, ◌-◌, ◌<◌, List, [], ◌∷◌, ◌++◌, map, min, Bool, true, false, ◌==◌, ◌&&◌, ◌||◌, not, nat_lt, nat_le, Option, Some, None, if◌then◌else◌}
use Rattle.yaml_lines.specs.Line.{Line}
use Rattle.yaml_scalars.specs.declared.header.Chomp.{Chomp}
use Rattle.yaml_scalars.specs.declared.header.Chomp.TheVariants.{Strip, Clip, Keep}
use Rattle.yaml_scalars.specs.declared.header.Header.{Header}
use Rattle.yaml_lines.specs.Chunks.{Each, ◌>>=◌, provided}
use Rattle.yaml_lines.specs.Marks.{blank, begins_blank, is_end, quiet, all_quiet, is_tail, indented, breaks, folded, count_of, Quiet}

-- 1 to 9
abbrev pub is_digit : ℕ → Bool
is_digit c = nat_le 49 c && nat_le c 57

abbrev pub is_chomp : ℕ → Bool
is_chomp c = (c == 43) || (c == 45)

abbrev pub chomp_of : ℕ → Chomp
chomp_of c = if c == 43 then Keep else Strip

abbrev pub header_by : Bool → ℕ → Chomp → List ℕ → Option Header
header_by folds digit chomp rest = provided (is_tail rest) (Some (record { folds = folds; digit = digit; chomp = chomp }))

abbrev pub after_digit : Bool → ℕ → List ℕ → Option Header
after_digit folds d [] = header_by folds d Clip []
after_digit folds d (c ∷ cs) = if is_chomp c then header_by folds d (chomp_of c) cs else header_by folds d Clip (c ∷ cs)

abbrev pub after_sign : Bool → Chomp → List ℕ → Option Header
after_sign folds chomp [] = header_by folds 0 chomp []
after_sign folds chomp (c ∷ cs) = if is_digit c then header_by folds (c - 48) chomp cs else header_by folds 0 chomp (c ∷ cs)

-- the header after `|` or `>`
abbrev pub header_of : Bool → List ℕ → Option Header
header_of folds [] = header_by folds 0 Clip []
header_of folds (c ∷ cs) =
    if is_digit c then after_digit folds (c - 48) cs
    else (if is_chomp c then after_sign folds (chomp_of c) cs else header_by folds 0 Clip (c ∷ cs))

-- a line of content: its text beyond the content's indentation, and whether a break ends it
abbrev pub Row : Type 0
Row = List ℕ × Bool

-- a line without this many of its spaces
abbrev pub row_at : ℕ → Line → Row
row_at m l = (indented (l.indent - m) l.text, l.ended)

-- a line of which no character counts
abbrev pub empty_row : Line → Row
empty_row l = ([], l.ended)

-- the row of a line where the content stands at a column, or where there is none
abbrev pub row_in : Option ℕ → Line → Row
row_in None l = empty_row l
row_in (Some m) l = row_at m l

-- the spaces and the text of a row
abbrev pub extra_in : Option ℕ → Line → ℕ
extra_in None l = 0
extra_in (Some m) l = l.indent - m

abbrev pub text_in : Option ℕ → Line → List ℕ
text_in None l = []
text_in (Some m) l = l.text

-- nothing stands there
abbrev pub is_empty_row : Row → Bool
is_empty_row r = is_end r.0

-- a line break ends it
abbrev pub has_break : Row → Bool
has_break r = r.1

-- what stands between two content lines that p line breaks part, or before the first; `before` tells whether a content line
-- came before, and whether it begins with a blank
abbrev pub between : Bool → Option Bool → ℕ → Bool → List ℕ
between folds None p now = breaks p
between folds (Some was) p now = if folds && not (was || now) then folded (p - 1) else breaks p

-- what p line breaks at the end leave
abbrev pub chomped : Chomp → Option Bool → ℕ → List ℕ
chomped Strip before p = []
chomped Clip None p = []
chomped Clip (Some was) p = breaks (min p 1)
chomped Keep before p = breaks p

-- the text of content lines, p line breaks having come since the last that isn't empty
abbrev pub content : Bool → Chomp → Option Bool → ℕ → List Row → List ℕ
content folds chomp before p [] = chomped chomp before p
content folds chomp before p (r ∷ rs) =
    if is_end r.0 then content folds chomp before (if r.1 then suc p else p) rs
    else between folds before p (begins_blank r.0) ++ (r.0 ++ content folds chomp (Some (begins_blank r.0)) (if r.1 then 1 else 0) rs)

-- spaces alone
abbrev pub is_spaces : Line → Bool
is_spaces l = is_end l.text

-- a line of the content, or an empty line, where the content stands at m
abbrev pub belongs : ℕ → Line → Bool
belongs m l = is_spaces l || nat_le m l.indent

-- the front in which each is so
abbrev pub while : {X : Type 0} → (X → Bool) → List X → List X
while p [] = []
while p (x ∷ xs) = if p x then x ∷ while p xs else []

abbrev pub past : {X : Type 0} → (X → Bool) → List X → List X
past p [] = []
past p (x ∷ xs) = if p x then past p xs else x ∷ xs

-- the content's rows at a known indentation, with nothing after them
abbrev pub rows_at : ℕ → List Line → Option (List Row)
rows_at m body = provided (all_quiet (past (belongs m) body)) (Some (map (row_at m) (while (belongs m) body)))

-- no line of spaces alone holds more of them
abbrev pub no_deeper : ℕ → List Line → Bool
no_deeper m [] = true
no_deeper m (l ∷ ls) = nat_le l.indent m && no_deeper m ls

-- the rows where the first line that isn't spaces alone, after an indicator at n, says where the content stands
abbrev pub rows_found : ℕ → List Line → List Line → List Line → Option (List Row)
rows_found n body spaces [] = Some (map empty_row spaces)
rows_found n body spaces (l ∷ ls) =
    if nat_lt n l.indent then provided (no_deeper l.indent spaces) (rows_at l.indent body)
    else provided (all_quiet (l ∷ ls)) (Some (map empty_row spaces))

abbrev pub rows_of : ℕ → ℕ → List Line → Option (List Row)
rows_of n zero body = rows_found n body (while is_spaces body) (past is_spaces body)
rows_of n (suc d) body = rows_at (n + suc d) body

-- the text of rows, by the header
abbrev pub content_of : Header → Option (List Row) → Option (List ℕ)
content_of h o = o >>= λ rows. Some (content h.folds h.chomp None 0 rows)

-- the block scalar whose header follows `|` or `>` after an indicator at n, with the lines after it
abbrev pub block_scalar : Bool → ℕ → List ℕ → List Line → Option (List ℕ)
block_scalar folds n header body =
    header_of folds header >>= λ h. content_of h (rows_of n h.digit body)

-- The same as relations.

-- nothing, or blanks and a comment
abbrev pub Tail : List ℕ → Type 0
Tail [] = Unit {0}
Tail (c ∷ cs) = (blank c ≡ true) × (quiet cs ≡ true)

-- how a header says what happens to the last line breaks (YAML 1.2.2, 8.1.1.2)
pub data IsSign : ℕ → Chomp → Type 0 where
  Minus : IsSign 45 Strip
  Plus : IsSign 43 Keep

-- a header's indicators, in either order, and what follows them
pub data IsHeader (folds : Bool) : List ℕ → Header → Type 0 where
  Bare : (rest : List ℕ) → Tail rest → IsHeader folds rest (record { folds = folds; digit = 0; chomp = Clip })
  Digit : (d : ℕ) (rest : List ℕ) → is_digit d ≡ true → Tail rest → IsHeader folds (d ∷ rest) (record { folds = folds; digit = d - 48; chomp = Clip })
  Sign : (s : ℕ) (chomp : Chomp) (rest : List ℕ) → IsSign s chomp → Tail rest → IsHeader folds (s ∷ rest) (record { folds = folds; digit = 0; chomp = chomp })
  DigitSign : (d s : ℕ) (chomp : Chomp) (rest : List ℕ) → is_digit d ≡ true → IsSign s chomp → Tail rest →
      IsHeader folds (d ∷ s ∷ rest) (record { folds = folds; digit = d - 48; chomp = chomp })
  SignDigit : (s d : ℕ) (chomp : Chomp) (rest : List ℕ) → IsSign s chomp → is_digit d ≡ true → Tail rest →
      IsHeader folds (s ∷ d ∷ rest) (record { folds = folds; digit = d - 48; chomp = chomp })

-- rows of content spell a text, after a content line and this many line breaks
pub data Content (folds : Bool) (chomp : Chomp) : Option Bool → ℕ → List Row → List ℕ → Type 0 where
  Over : (before : Option Bool) (p : ℕ) (empties : List Row) → Each is_empty_row empties →
      Content folds chomp before p empties (chomped chomp before (p + count_of has_break empties))
  Then : (before : Option Bool) (p : ℕ) (empties : List Row) (text : List ℕ) (ended : Bool) (rows : List Row) (more : List ℕ) →
      Each is_empty_row empties → is_end text ≡ false → Content folds chomp (Some (begins_blank text)) (if ended then 1 else 0) rows more →
      Content folds chomp before p (empties ++ ((text, ended) ∷ rows)) (between folds before (p + count_of has_break empties) (begins_blank text) ++ (text ++ more))

-- content at the indentation m, and nothing after it
pub record RowsAt (m : ℕ) (body : List Line) (rows : List Row) : Type 0 where
  pub lines : List Line
  pub others : List Line
  pub whole : body ≡ lines ++ others
  pub content : Each (belongs m) lines
  -- content runs to the first line that isn't empty and is indented less
  pub no_more : while (belongs m) others ≡ []
  pub after : Quiet others
  pub are : rows ≡ map (row_at m) lines

-- where the content stands: by the header's digit, by the first line that isn't spaces alone, or nowhere
pub data Rows (n : ℕ) (body : List Line) (rows : List Row) : ℕ → Type 0 where
  ByDigit : (d : ℕ) → RowsAt (n + suc d) body rows → Rows n body rows (suc d)
  ByLine : (spaces : List Line) (first : Line) (others : List Line) → body ≡ spaces ++ (first ∷ others) → Each is_spaces spaces → is_spaces first ≡ false → n < first.indent →
      no_deeper first.indent spaces ≡ true → RowsAt first.indent body rows → Rows n body rows 0
  NoContent : (spaces others : List Line) → body ≡ spaces ++ others → Each is_spaces spaces → while (λ l. is_spaces l || nat_lt n l.indent) others ≡ [] →
      Quiet others → rows ≡ map empty_row spaces → Rows n body rows 0

-- a block scalar: its header, the rows of its lines, the value that they spell (YAML 1.2.2, 8.1)
pub record BlockText (folds : Bool) (n : ℕ) (text : List ℕ) (body : List Line) (value : List ℕ) : Type 0 where
  pub header : Header
  pub rows : List Row
  pub is_header : IsHeader folds text header
  pub are_rows : Rows n body rows header.digit
  pub spelled : Content header.folds header.chomp None 0 rows value
