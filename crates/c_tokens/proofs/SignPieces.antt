-- Signs: the first row of the table that stands here is the longest.
use Rattle.std.proofs.Common.{◌≡◌, ◌≤◌, ◌∙◌, ℕ, Bool, true, false, cond, not, ◌&&◌, ◌==◌, nat_le, List, [], ◌∷◌, ◌++◌, length, drop, Option, Some, None, refl, sym, ap, arith, inl, inr}
use Rattle.std.specs.List.{list_all}
use Rattle.std.proofs.lemmas.Bool.{eqb-true, eq-eqb, leb-true}
use Rattle.c_tokens.specs.declared.token.Punct.{Punct}
use Rattle.c_tokens.specs.Bytes.{is_letter, is_digit, quote, double_quote}
use Rattle.c_tokens.specs.Signs.{signs}
use Rattle.c_tokens.specs.Numbers.{is_spelled}
use Rattle.c_tokens.specs.Characters.{Pairs}
use Rattle.c_tokens.specs.Scan.{begins, sign_among}
use Rattle.c_tokens.proofs.Choices.{both, not_true, some_pair, pair_passes}

-- a row stands before no longer spelling, and before none of its own
stands_first : List ℕ → List (List ℕ × Punct) → Bool
stands_first w rows = list_all (λ row. nat_le (length row.0) (length w) && not (is_spelled w row.0)) rows

in_order : List (List ℕ × Punct) → Bool
in_order [] = true
in_order (row ∷ rows) = stands_first row.0 rows && in_order rows

table_in_order : in_order signs ≡ true
unfolding in_order stands_first
table_in_order = refl

begins_itself : (w rest : List ℕ) → begins w (w ++ rest) ≡ true
begins_itself [] rest = refl
begins_itself (b ∷ w) rest = rw (eq-eqb b b refl) (begins_itself w rest)

-- two pieces of one length that stand here are one
same_piece : (w v rest : List ℕ) → begins w (v ++ rest) ≡ true → length v ≡ length w → is_spelled w v ≡ true
same_piece [] [] rest e size = refl
same_piece [] (b ∷ v) rest e size = absurd (omega arith)
same_piece (a ∷ w) [] rest e size = absurd (omega arith)
same_piece (a ∷ w) (b ∷ v) rest e size =
    let parts = both (b == a) (begins w (v ++ rest)) e in
    rw parts.0 (same_piece w v rest parts.1 (omega arith))

-- a sign that stands here is the one found, or is shorter
abbrev pub Bounds : Option (ℕ × Punct) → ℕ → Punct → Type 0
Bounds None n s = ⊥
Bounds (Some found) n s = (n ≤ found.0) × (n ≡ found.0 → s ≡ found.1)

later_row : (w : List ℕ) (rows : List (List ℕ × Punct)) → stands_first w rows ≡ true → (v : List ℕ) (s : Punct) → Pairs rows v s → (length v ≤ length w) × (is_spelled w v ≡ false)
unfolding stands_first
later_row w rows all v s h =
    let here = both _ _ (pair_passes (λ x y. nat_le (length x) (length w) && not (is_spelled w x)) rows all v s h) in
    (leb-true (length v) (length w) here.0, not_true (is_spelled w v) here.1)

row_case : (w : List ℕ) (t : Punct) (rows : List (List ℕ × Punct)) (v : List ℕ) (s : Punct) (rest : List ℕ) → (length v ≤ length w) × (is_spelled w v ≡ false) →
    (here : Bool) → begins w (v ++ rest) ≡ here → Bounds (sign_among rows (v ++ rest)) (length v) s →
    Bounds (cond here (Some (length w, t)) (sign_among rows (v ++ rest))) (length v) s
row_case w t rows v s rest apart true e later = (apart.0, λ size. absurd (let yes = same_piece w v rest e size in let no = apart.1 in let never : true ≡ false = sym yes ∙ no in cc))
row_case w t rows v s rest apart false e later = later

row_found : (rows : List (List ℕ × Punct)) → in_order rows ≡ true → (v : List ℕ) (s : Punct) → Pairs rows v s → (rest : List ℕ) → Bounds (sign_among rows (v ++ rest)) (length v) s
unfolding in_order
row_found [] order v s h rest = absurd h
row_found ((w, t) ∷ rows) order v s (inl h) rest =
    let here : begins w (v ++ rest) ≡ true = ap (λ x. begins x (v ++ rest)) h.0 ∙ begins_itself v rest in
    let size : length w ≡ length v = ap length h.0 in
    rw here (omega (arith, size), λ same. sym h.1)
row_found ((w, t) ∷ rows) order v s (inr h) rest =
    let parts = both (stands_first w rows) (in_order rows) order in
    row_case w t rows v s rest (later_row w rows parts.0 v s h) (begins w (v ++ rest)) refl (row_found rows parts.1 v s h rest)

pub sign_found : (v : List ℕ) (s : Punct) → Pairs signs v s → (rest : List ℕ) → Bounds (sign_among signs (v ++ rest)) (length v) s
sign_found v s h rest = row_found signs table_in_order v s h rest

-- What is found is a sign.

pub record SignHere (rows : List (List ℕ × Punct)) (text : List ℕ) (n : ℕ) (s : Punct) : Type 0 where
  pub spelling : List ℕ
  pub rest : List ℕ
  pub listed : Pairs rows spelling s
  pub parts : text ≡ spelling ++ rest
  pub size : length spelling ≡ n

stands : (w text : List ℕ) → begins w text ≡ true → text ≡ w ++ drop (length w) text
stands [] text e = refl
stands (a ∷ w) [] e = absurd (cc)
stands (a ∷ w) (b ∷ text) e =
    let parts = both (b == a) (begins w text) e in
    ap (λ c. c ∷ text) (eqb-true b a parts.0) ∙ ap (λ t. a ∷ t) (stands w text parts.1)

here_case : (w : List ℕ) (t : Punct) (rows : List (List ℕ × Punct)) (text : List ℕ) (n : ℕ) (s : Punct) (here : Bool) → begins w text ≡ here →
    cond here (Some (length w, t)) (sign_among rows text) ≡ Some (n, s) → (sign_among rows text ≡ Some (n, s) → SignHere rows text n s) → SignHere ((w, t) ∷ rows) text n s
here_case w t rows text n s true b e later = record {
  spelling = w;
  rest = drop (length w) text;
  listed = inl (refl, (some_pair e).1);
  parts = stands w text b;
  size = (some_pair e).0;
}
here_case w t rows text n s false b e later =
    let found = later e in
    record { spelling = found.spelling; rest = found.rest; listed = inr found.listed; parts = found.parts; size = found.size }

pub sign_here : (rows : List (List ℕ × Punct)) (text : List ℕ) (n : ℕ) (s : Punct) → sign_among rows text ≡ Some (n, s) → SignHere rows text n s
sign_here [] text n s e = absurd (cc)
sign_here ((w, t) ∷ rows) text n s e = here_case w t rows text n s (begins w text) refl e (sign_here rows text n s)

-- no sign begins as another piece does
is_apart : List ℕ → Bool
is_apart [] = false
is_apart (b ∷ w) = not (is_letter b) && (not (is_digit b) && (not (b == quote) && not (b == double_quote)))

table_apart : list_all (λ row. is_apart row.0) signs ≡ true
unfolding is_apart
table_apart = refl

pub record Apart (w : List ℕ) : Type 0 where
  pub first : ℕ
  pub others : List ℕ
  pub parts : w ≡ first ∷ others
  pub letter : is_letter first ≡ false
  pub digit : is_digit first ≡ false
  pub quoted : (first == quote) ≡ false
  pub double : (first == double_quote) ≡ false

apart_from : (w : List ℕ) → is_apart w ≡ true → Apart w
unfolding is_apart
apart_from [] e = absurd (cc)
apart_from (b ∷ w) e =
    let one = both (not (is_letter b)) _ e in
    let two = both (not (is_digit b)) _ one.1 in
    let three = both (not (b == quote)) _ two.1 in
    record {
      first = b;
      others = w;
      parts = refl;
      letter = not_true (is_letter b) one.0;
      digit = not_true (is_digit b) two.0;
      quoted = not_true (b == quote) three.0;
      double = not_true (b == double_quote) three.1;
    }

pub sign_apart : (v : List ℕ) (s : Punct) → Pairs signs v s → Apart v
unfolding is_apart
sign_apart v s h = apart_from v (pair_passes (λ x y. is_apart x) signs table_apart v s h)
