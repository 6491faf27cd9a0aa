-- A text of good lines is read as their tokens.
use Rattle.std.proofs.Common.{◌≡◌, ℕ, zero, suc, ◌+◌, ◌-◌, ◌^◌, ◌<◌, ◌==◌, ◌∙◌, Bool, true, ◌&&◌, List, [], ◌∷◌, ◌++◌, length, take, drop, replicate, Some, refl, sym, ap, subst, arith, append_assoc, length-append, add-zero}
use Rattle.std.proofs.lemmas.List.{length-replicate}
use Rattle.std.specs.List.{list_all}
use Rattle.std.proofs.Math.Seq.{drop-append_seam, take-append_seam}
use Rattle.c_tokens.specs.declared.token.Token.{Token}
use Rattle.c_tokens.specs.Bytes.{is_blank}
use Rattle.c_tokens.specs.Pieces.{Longest}
use Rattle.c_tokens.specs.Reading.{next, after, past, Ending, Reads, Between, AToken}
use Rattle.c_tokens.proofs.Choices.{both, not_true}
use Rattle.c_tokens.proofs.Scanned.{longest_found}
use Rattle.demo_laws.specs.Lines.{Piece, piece_text, line_text, text_of, place, spot, line_tokens, tokens_from, goes_on, Stands, AllStand, LinesStand}

next_is : (n : ℕ) → n < 2 ^ 32 - 1 → next n ≡ n + 1
next_is n small = omega arith

after_byte : (l c b : ℕ) (f : Bool) → goes_on b ≡ true → c < 2 ^ 32 - 1 → after (place l c f) b ≡ place l (c + 1) (f && is_blank b)
after_byte l c b f on small = rw (not_true (b == 10) on, next_is c small) refl

-- the place behind bytes that end no line
past_bytes : (l c : ℕ) (f : Bool) (w : List ℕ) → list_all goes_on w ≡ true → c + length w < 2 ^ 32 → (g : Bool) × (past (place l c f) w ≡ place l (c + length w) g)
past_bytes l c f [] on small = (f, ap (λ n. place l n f) (sym (add-zero c)))
past_bytes l c f (b ∷ w) on small =
    let parts = both (goes_on b) (list_all goes_on w) on in
    let here : after (place l c f) b ≡ place l (c + 1) (f && is_blank b) = after_byte l c b f parts.0 (omega arith) in
    let more = past_bytes l (c + 1) (f && is_blank b) w parts.1 (omega arith) in
    let sum : c + 1 + length w ≡ c + suc (length w) = omega arith in
    (more.0, ap (λ at. past at w) here ∙ more.1 ∙ ap (λ n. place l n more.0) sum)

-- blanks are passed
pub reads_blanks : (d : Bool) (n l c : ℕ) (f : Bool) (text : List ℕ) (ts : List Token) (end : Ending) → c + n < 2 ^ 32 →
    ((g : Bool) → Reads d (place l (c + n) g) text ts end) → Reads d (place l c f) (replicate n 32 ++ text) ts end
reads_blanks d zero l c f text ts end small reads = subst (λ n. Reads d (place l n f) text ts end) (add-zero c) (reads f)
reads_blanks d (suc n) l c f text ts end small reads =
    let sum : c + suc n ≡ c + 1 + n = omega arith in
    let here : past (place l c f) (32 ∷ []) ≡ place l (c + 1) (f && true) = after_byte l c 32 f refl (omega arith) in
    let more : Reads d (place l (c + 1) (f && true)) (replicate n 32 ++ text) ts end =
    reads_blanks d n l (c + 1) (f && true) text ts end (omega arith) (λ g. subst (λ m. Reads d (place l m g) text ts end) sum (reads g)) in
    Between {n = 1} refl (subst (λ at. Reads d at (replicate n 32 ++ text) ts end) (sym here) more)

-- the end of a line is passed
reads_line_end : (l c : ℕ) (f : Bool) (text : List ℕ) (ts : List Token) (end : Ending) → l < 2 ^ 32 - 1 → ((g : Bool) → Reads true (place (l + 1) 1 g) text ts end) →
    Reads true (place l c f) (10 ∷ text) ts end
reads_line_end l c f text ts end small reads =
    let here : past (place l c f) (10 ∷ []) ≡ place (l + 1) 1 true = ap (λ n. place n 1 true) (next_is l small) in
    Between {n = 1} refl (subst (λ at. Reads true at text ts end) (sym here) (reads true))

taken : (w rest : List ℕ) → take (length w) (w ++ rest) ≡ w
taken w rest = take-append_seam w rest

-- a token is read
pub reads_token : (d : Bool) (l c : ℕ) (f : Bool) (x : Piece) (rest : List ℕ) (ts : List Token) (end : Ending) → Stands x rest → c + length x.spelling < 2 ^ 32 →
    ((g : Bool) → Reads d (place l (c + length x.spelling) g) rest ts end) →
    Reads d (place l c f) (x.spelling ++ rest) (record { kind = x.kind; spot = spot l c } ∷ ts) end
reads_token d l c f x rest ts end stands small reads =
    let long : Longest (take (length x.spelling) (x.spelling ++ rest)) (Some x.kind) (x.spelling ++ rest) (drop (length x.spelling) (x.spelling ++ rest)) =
    longest_found (x.spelling ++ rest) (length x.spelling) (Some x.kind) stands.found in
    let behind = past_bytes l c f x.spelling stands.one_line small in
    let front : take (length x.spelling) (x.spelling ++ rest) ≡ x.spelling = taken x.spelling rest in
    let left : drop (length x.spelling) (x.spelling ++ rest) ≡ rest = drop-append_seam x.spelling rest in
    let longest : Longest x.spelling (Some x.kind) (x.spelling ++ rest) rest =
    subst (λ w. Longest w (Some x.kind) (x.spelling ++ rest) rest) front (subst (λ r. Longest (take (length x.spelling) (x.spelling ++ rest)) (Some x.kind) (x.spelling ++ rest) r) left long) in
    AToken (stands.no_gap (d && f)) longest (subst (λ at. Reads d at rest ts end) (sym behind.1) (reads behind.0))

-- the tokens of a line are read
reads_line : (l c : ℕ) (f : Bool) (xs : List Piece) (rest : List ℕ) (ts : List Token) (end : Ending) → AllStand xs rest → l < 2 ^ 32 - 1 → c + length (line_text xs) < 2 ^ 32 →
    ((g : Bool) → Reads true (place (l + 1) 1 g) rest ts end) → Reads true (place l c f) (line_text xs ++ rest) (line_tokens l c xs ++ ts) end
reads_line l c f [] rest ts end stand low wide reads = reads_line_end l c f rest ts end low reads
reads_line l c f (x ∷ xs) rest ts end stand low wide reads =
    let text = line_text xs ++ rest in
    let shape : (piece_text x ++ line_text xs) ++ rest ≡ replicate x.blanks 32 ++ (x.spelling ++ text) = simp append_assoc in
    let size : length (piece_text x ++ line_text xs) ≡ x.blanks + length x.spelling + length (line_text xs) = simp (length-append, length-replicate) in
    let d = c + x.blanks in
    let more : (g : Bool) → Reads true (place l (d + length x.spelling) g) text (line_tokens l (d + length x.spelling) xs ++ ts) end =
    λ g. reads_line l (d + length x.spelling) g xs rest ts end stand.1 low (omega (arith, size, wide)) reads in
    let here : (g : Bool) → Reads true (place l d g) (x.spelling ++ text) (line_tokens l c (x ∷ xs) ++ ts) end =
    λ g. reads_token true l d g x text (line_tokens l (d + length x.spelling) xs ++ ts) end stand.0 (omega (arith, size, wide)) more in
    subst (λ t. Reads true (place l c f) t (line_tokens l c (x ∷ xs) ++ ts) end) (sym shape)
    (reads_blanks true x.blanks l c f (x.spelling ++ text) (line_tokens l c (x ∷ xs) ++ ts) end (omega (arith, size, wide)) here)

-- the tokens of lines are read
pub reads_lines : (l : ℕ) (f : Bool) (lines : List (List Piece)) (rest : List ℕ) (ts : List Token) (end : Ending) → LinesStand lines rest → l + length lines < 2 ^ 32 - 1 →
    length (text_of lines) < 2 ^ 31 → ((g : Bool) → Reads true (place (l + length lines) 1 g) rest ts end) →
    Reads true (place l 1 f) (text_of lines ++ rest) (tokens_from l lines ++ ts) end
reads_lines l f [] rest ts end stand low short reads = subst (λ n. Reads true (place n 1 f) rest ts end) (add-zero l) (reads f)
reads_lines l f (xs ∷ lines) rest ts end stand low short reads =
    let size : length (line_text xs ++ text_of lines) ≡ length (line_text xs) + length (text_of lines) = length-append (line_text xs) (text_of lines) in
    let sum : l + length (xs ∷ lines) ≡ l + 1 + length lines = omega arith in
    let more : (g : Bool) → Reads true (place (l + 1) 1 g) (text_of lines ++ rest) (tokens_from (l + 1) lines ++ ts) end =
    λ g. reads_lines (l + 1) g lines rest ts end stand.1 (omega (arith, sum)) (omega (arith, size)) (λ h. subst (λ n. Reads true (place n 1 h) rest ts end) sum (reads h)) in
    let here : Reads true (place l 1 f) (line_text xs ++ (text_of lines ++ rest)) (line_tokens l 1 xs ++ (tokens_from (l + 1) lines ++ ts)) end =
    reads_line l 1 f xs (text_of lines ++ rest) (tokens_from (l + 1) lines ++ ts) end stand.0 (omega arith) (omega (arith, size)) more in
    let P : List ℕ → List Token → Type 0 = λ text tokens. Reads true (place l 1 f) text tokens end in
    subst (λ text. P text ((line_tokens l 1 xs ++ tokens_from (l + 1) lines) ++ ts)) (sym (append_assoc (line_text xs) (text_of lines) rest))
    (subst (P (line_text xs ++ (text_of lines ++ rest))) (sym (append_assoc (line_tokens l 1 xs) (tokens_from (l + 1) lines) ts)) here)
