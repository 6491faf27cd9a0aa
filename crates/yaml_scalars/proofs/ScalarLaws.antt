-- Block scalars: the function gives what the relation says, and nothing else.
use Rattle.std.proofs.Common.{◌≡◌, ℕ, zero, suc, ◌+◌, ◌-◌, List, [], ◌∷◌, ◌++◌, map, Bool, true, false, refl, sym, ap, ◌∙◌, subst, cond, inl, inr, ◌⊎◌, append_assoc, append-nil, Option, Some, None, arith, ◌==◌, ◌||◌, nat_lt, if◌then◌else◌}
use Rattle.std.proofs.lemmas.Bool.{cond-true, cond-false, eqb-true, ltb-true, lt-ltb, and_parts, and_from, or_parts}
use Rattle.yaml_lines.specs.Line.{Line}
use Rattle.yaml_scalars.specs.declared.header.Chomp.{Chomp}
use Rattle.yaml_scalars.specs.declared.header.Chomp.TheVariants.{Strip, Clip, Keep}
use Rattle.yaml_scalars.specs.declared.header.Header.{Header}
use Rattle.yaml_lines.specs.Chunks.{Each, ◌>>=◌, provided}
use Rattle.yaml_lines.specs.Marks.{blank, is_end, all_quiet, is_tail, count_of, begins_blank}
use Rattle.yaml_scalars.specs.BlockScalar.{is_digit, is_chomp, chomp_of, header_by, after_digit, after_sign, header_of, Row, row_at, empty_row, is_empty_row, has_break, between, chomped, content, is_spaces, belongs, while, past, rows_at, no_deeper, rows_found, rows_of, content_of, block_scalar, Tail, IsSign, Minus, Plus, IsHeader, Bare, Digit, Sign, DigitSign, SignDigit, Content, Over, Then, RowsAt, Rows, ByDigit, ByLine, NoContent, BlockText}
use Rattle.yaml_lines.proofs.Parts.{chosen, bind_some, provided_some}
use Rattle.std.proofs.lemmas.Option.{same_Some}
use Rattle.yaml_scalars.proofs.PlainLaws.{quiet_sound, quiet_complete, passed}

tail_sound : (text : List ℕ) → is_tail text ≡ true → Tail text
tail_sound [] e = tt
tail_sound (c ∷ cs) e = and_parts _ _ e

tail_complete : (text : List ℕ) → Tail text → is_tail text ≡ true
tail_complete [] h = refl
tail_complete (c ∷ cs) h = and_from _ _ h.0 h.1

-- headers
abbrev head_of : Bool → ℕ → Chomp → Header
head_of folds digit chomp = record { folds = folds; digit = digit; chomp = chomp }

by_header : (folds : Bool) (d : ℕ) (chomp : Chomp) (rest : List ℕ) (h : Header) → header_by folds d chomp rest ≡ Some h → Tail rest × (head_of folds d chomp ≡ h)
by_header folds d chomp rest h e =
    let p = provided_some (is_tail rest) (Some (head_of folds d chomp)) h e in
    (tail_sound rest p.0, same_Some _ _ p.1)

header_back : (folds : Bool) (d : ℕ) (chomp : Chomp) (rest : List ℕ) → Tail rest → header_by folds d chomp rest ≡ Some (head_of folds d chomp)
header_back folds d chomp rest t = passed (is_tail rest) (head_of folds d chomp) (tail_complete rest t)

sign_is : (c : ℕ) → is_chomp c ≡ true → IsSign c (chomp_of c)
sign_is c e = at (c == 43) refl
  where
    at : (b : Bool) → (c == 43) ≡ b → IsSign c (chomp_of c)
    at true f = subst (λ x. IsSign x (chomp_of x)) (sym (eqb-true c 43 f)) Plus
    at false f =
        let other : (c == 45) ≡ true = sym (ap (λ b. b || (c == 45)) f) ∙ e in
        subst (λ x. IsSign x (chomp_of x)) (sym (eqb-true c 45 other)) Minus

header_sound : (folds : Bool) (text : List ℕ) (h : Header) → header_of folds text ≡ Some h → IsHeader folds text h
header_sound folds [] h e = let b = by_header folds 0 Clip [] h e in subst (IsHeader folds []) b.1 (Bare [] b.0)
header_sound folds (c ∷ cs) h e =
    elim (chosen (is_digit c) _ _ (Some h) e) [
      | inl d ↦ behind_digit cs d.0 d.1
      | inr d ↦ elim (chosen (is_chomp c) _ _ (Some h) d.1) [
        | inl s ↦ behind_sign cs s.0 s.1
        | inr s ↦ let b = by_header folds 0 Clip (c ∷ cs) h s.1 in subst (IsHeader folds (c ∷ cs)) b.1 (Bare (c ∷ cs) b.0)
      ]
    ]
  where
    behind_digit : (xs : List ℕ) → is_digit c ≡ true → after_digit folds (c - 48) xs ≡ Some h → IsHeader folds (c ∷ xs) h
    behind_digit [] d f = let b = by_header folds (c - 48) Clip [] h f in subst (IsHeader folds (c ∷ [])) b.1 (Digit c [] d b.0)
    behind_digit (x ∷ xs) d f =
        elim (chosen (is_chomp x) _ _ (Some h) f) [
          | inl s ↦ let b = by_header folds (c - 48) (chomp_of x) xs h s.1 in subst (IsHeader folds (c ∷ x ∷ xs)) b.1 (DigitSign c x (chomp_of x) xs d (sign_is x s.0) b.0)
          | inr s ↦ let b = by_header folds (c - 48) Clip (x ∷ xs) h s.1 in subst (IsHeader folds (c ∷ x ∷ xs)) b.1 (Digit c (x ∷ xs) d b.0)
        ]

    behind_sign : (xs : List ℕ) → is_chomp c ≡ true → after_sign folds (chomp_of c) xs ≡ Some h → IsHeader folds (c ∷ xs) h
    behind_sign [] d f = let b = by_header folds 0 (chomp_of c) [] h f in subst (IsHeader folds (c ∷ [])) b.1 (Sign c (chomp_of c) [] (sign_is c d) b.0)
    behind_sign (x ∷ xs) d f =
        elim (chosen (is_digit x) _ _ (Some h) f) [
          | inl s ↦ let b = by_header folds (x - 48) (chomp_of c) xs h s.1 in subst (IsHeader folds (c ∷ x ∷ xs)) b.1 (SignDigit c x (chomp_of c) xs (sign_is c d) s.0 b.0)
          | inr s ↦ let b = by_header folds 0 (chomp_of c) (x ∷ xs) h s.1 in subst (IsHeader folds (c ∷ x ∷ xs)) b.1 (Sign c (chomp_of c) (x ∷ xs) (sign_is c d) b.0)
        ]

blank_is : (c : ℕ) → blank c ≡ true → (c ≡ 32) ⊎ (c ≡ 9)
blank_is c e = at (c == 32) refl
  where
    at : (b : Bool) → (c == 32) ≡ b → (c ≡ 32) ⊎ (c ≡ 9)
    at true f = inl (eqb-true c 32 f)
    at false f = let other : (c == 9) ≡ true = sym (ap (λ b. b || (c == 9)) f) ∙ e in inr (eqb-true c 9 other)

by_blank : (P : ℕ → Type 0) (c : ℕ) → blank c ≡ true → P 32 → P 9 → P c
by_blank P c e x y = elim (blank_is c e) [ inl h ↦ subst P (sym h) x | inr h ↦ subst P (sym h) y ]

bare_back : (folds : Bool) (rest : List ℕ) → Tail rest → header_of folds rest ≡ header_by folds 0 Clip rest
bare_back folds [] t = refl
bare_back folds (c ∷ cs) t = by_blank (λ x. header_of folds (x ∷ cs) ≡ header_by folds 0 Clip (x ∷ cs)) c t.0 refl refl

digit_back : (folds : Bool) (d : ℕ) (rest : List ℕ) → Tail rest → after_digit folds d rest ≡ header_by folds d Clip rest
digit_back folds d [] t = refl
digit_back folds d (c ∷ cs) t = by_blank (λ x. after_digit folds d (x ∷ cs) ≡ header_by folds d Clip (x ∷ cs)) c t.0 refl refl

sign_back : (folds : Bool) (chomp : Chomp) (rest : List ℕ) → Tail rest → after_sign folds chomp rest ≡ header_by folds 0 chomp rest
sign_back folds chomp [] t = refl
sign_back folds chomp (c ∷ cs) t = by_blank (λ x. after_sign folds chomp (x ∷ cs) ≡ header_by folds 0 chomp (x ∷ cs)) c t.0 refl refl

by_sign : (P : ℕ → Chomp → Type 0) (x : ℕ) (y : Chomp) → IsSign x y → P 45 Strip → P 43 Keep → P x y
by_sign P _ _ Minus a b = a
by_sign P _ _ Plus a b = b

header_complete : (folds : Bool) (text : List ℕ) (h : Header) → IsHeader folds text h → header_of folds text ≡ Some h
header_complete folds _ _ (Bare rest t) = bare_back folds rest t ∙ header_back folds 0 Clip rest t
header_complete folds _ _ (Digit d rest e t) = cond-true (is_digit d) _ _ e ∙ digit_back folds (d - 48) rest t ∙ header_back folds (d - 48) Clip rest t
header_complete folds _ _ (Sign s chomp rest g t) = by_sign (λ x y. header_of folds (x ∷ rest) ≡ after_sign folds y rest) s chomp g refl refl ∙ sign_back folds chomp rest t ∙ header_back folds 0 chomp rest t
header_complete folds _ _ (DigitSign d s chomp rest e g t) =
    cond-true (is_digit d) _ _ e ∙ by_sign (λ x y. after_digit folds (d - 48) (x ∷ rest) ≡ header_by folds (d - 48) y rest) s chomp g refl refl ∙ header_back folds (d - 48) chomp rest t
header_complete folds _ _ (SignDigit s d chomp rest g e t) =
    by_sign (λ x y. header_of folds (x ∷ d ∷ rest) ≡ after_sign folds y (d ∷ rest)) s chomp g refl refl ∙ cond-true (is_digit d) _ _ e ∙ header_back folds (d - 48) chomp rest t

-- the elements that pass, and those from the first on that doesn't
module _ {X : Type 0} (p : X → Bool) where
  while_whole : (xs : List X) → xs ≡ while p xs ++ past p xs
  while_whole [] = refl
  while_whole (x ∷ xs) = at (while_whole xs) (p x) refl
    where
      at : xs ≡ while p xs ++ past p xs → (b : Bool) → p x ≡ b → x ∷ xs ≡ while p (x ∷ xs) ++ past p (x ∷ xs)
      at h true e = rw e (ap (λ ys. x ∷ ys) h)
      at h false e = rw e refl

  while_each : (xs : List X) → Each p (while p xs)
  while_each [] = tt
  while_each (x ∷ xs) = at (while_each xs) (p x) refl
    where
      at : Each p (while p xs) → (b : Bool) → p x ≡ b → Each p (while p (x ∷ xs))
      at h true e = rw e (e, h)
      at h false e = rw e tt

  past_ends : (xs : List X) → while p (past p xs) ≡ []
  past_ends [] = refl
  past_ends (x ∷ xs) = at (past_ends xs) (p x) refl
    where
      at : while p (past p xs) ≡ [] → (b : Bool) → p x ≡ b → while p (past p (x ∷ xs)) ≡ []
      at h true e = ap (while p) (cond-true (p x) _ _ e) ∙ h
      at h false e = ap (while p) (cond-false (p x) _ _ e) ∙ cond-false (p x) _ _ e

  stays : (xs : List X) → while p xs ≡ [] → past p xs ≡ xs
  stays [] e = refl
  stays (x ∷ xs) e = at (p x) refl e
    where
      at : (b : Bool) → p x ≡ b → cond b (x ∷ while p xs) [] ≡ [] → past p (x ∷ xs) ≡ x ∷ xs
      at true f g = absurd (cc)
      at false f g = cond-false (p x) _ _ f

  first_fails : (x : X) (xs : List X) → while p (x ∷ xs) ≡ [] → p x ≡ false
  first_fails x xs e = at (p x) refl e
    where
      at : (b : Bool) → p x ≡ b → cond b (x ∷ while p xs) [] ≡ [] → p x ≡ false
      at true f g = absurd (cc)
      at false f g = f

  while_again : (xs ys : List X) → Each p xs → while p ys ≡ [] → while p (xs ++ ys) ≡ xs
  while_again [] ys h e = e
  while_again (x ∷ xs) ys h e = cond-true (p x) _ _ h.0 ∙ ap (λ zs. x ∷ zs) (while_again xs ys h.1 e)

  past_again : (xs ys : List X) → Each p xs → while p ys ≡ [] → past p (xs ++ ys) ≡ ys
  past_again [] ys h e = stays ys e
  past_again (x ∷ xs) ys h e = cond-true (p x) _ _ h.0 ∙ past_again xs ys h.1 e

pub while_parts : {X : Type 0} (p : X → Bool) (xs : List X) → (xs ≡ while p xs ++ past p xs) × Each p (while p xs) × (while p (past p xs) ≡ [])
while_parts p xs = (while_whole p xs, while_each p xs, past_ends p xs)

pub while_back : {X : Type 0} (p : X → Bool) (xs ys : List X) → Each p xs → while p ys ≡ [] → (while p (xs ++ ys) ≡ xs) × (past p (xs ++ ys) ≡ ys)
while_back p xs ys h e = (while_again p xs ys h e, past_again p xs ys h e)

-- rows
rows_at_sound : (m : ℕ) (body : List Line) (rows : List Row) → rows_at m body ≡ Some rows → RowsAt m body rows
rows_at_sound m body rows e =
    let p = provided_some (all_quiet (past (belongs m) body)) (Some (map (row_at m) (while (belongs m) body))) rows e in
    record {
      lines = while (belongs m) body;
      others = past (belongs m) body;
      whole = while_whole (belongs m) body;
      content = while_each (belongs m) body;
      no_more = past_ends (belongs m) body;
      after = quiet_sound _ p.0;
      are = sym (same_Some _ _ p.1);
    }

rows_at_complete : (m : ℕ) (body : List Line) (rows : List Row) → RowsAt m body rows → rows_at m body ≡ Some rows
rows_at_complete m body rows h =
    let w = while_back (belongs m) h.lines h.others h.content h.no_more in
    ap (rows_at m) h.whole ∙ passed (all_quiet (past (belongs m) (h.lines ++ h.others))) _ (ap all_quiet w.1 ∙ quiet_complete h.others h.after)
    ∙ ap (λ ls. Some (map (row_at m) ls)) w.0 ∙ ap Some (sym h.are)

not_deep : (n : ℕ) (l : Line) (ls : List Line) → is_spaces l ≡ false → nat_lt n l.indent ≡ false → while (λ x. is_spaces x || nat_lt n x.indent) (l ∷ ls) ≡ []
not_deep n l ls a b = rw (a, b) refl

rows_sound : (n d : ℕ) (body : List Line) (rows : List Row) → rows_of n d body ≡ Some rows → Rows n body rows d
rows_sound n (suc d) body rows e = ByDigit d (rows_at_sound (n + suc d) body rows e)
rows_sound n zero body rows e = at (past is_spaces body) refl e
  where
    at : (rest : List Line) → past is_spaces body ≡ rest → rows_found n body (while is_spaces body) rest ≡ Some rows → Rows n body rows 0
    at [] f g = NoContent (while is_spaces body) [] (while_whole is_spaces body ∙ ap (λ xs. while is_spaces body ++ xs) f) (while_each is_spaces body) refl tt (sym (same_Some _ _ g))
    at (l ∷ ls) f g =
        let whole : body ≡ while is_spaces body ++ (l ∷ ls) = while_whole is_spaces body ∙ ap (λ xs. while is_spaces body ++ xs) f in
        let loud : is_spaces l ≡ false = first_fails is_spaces l ls (sym (ap (while is_spaces) f) ∙ past_ends is_spaces body) in
        elim (chosen (nat_lt n l.indent) _ _ (Some rows) g) [
          | inl h ↦
              let p = provided_some (no_deeper l.indent (while is_spaces body)) (rows_at l.indent body) rows h.1 in
              ByLine (while is_spaces body) l ls whole (while_each is_spaces body) loud (ltb-true n l.indent h.0) p.0 (rows_at_sound l.indent body rows p.1)
          | inr h ↦
              let p = provided_some (all_quiet (l ∷ ls)) (Some (map empty_row (while is_spaces body))) rows h.1 in
              NoContent (while is_spaces body) (l ∷ ls) whole (while_each is_spaces body) (not_deep n l ls loud h.0) (quiet_sound (l ∷ ls) p.0) (sym (same_Some _ _ p.1))
        ]

no_spaces : (l : Line) (ls : List Line) → is_spaces l ≡ false → while is_spaces (l ∷ ls) ≡ []
no_spaces l ls e = cond-false (is_spaces l) _ _ e

found_by : (n : ℕ) (body spaces rest : List Line) → body ≡ spaces ++ rest → Each is_spaces spaces → while is_spaces rest ≡ [] → rows_of n 0 body ≡ rows_found n body spaces rest
found_by n body spaces rest e h z =
    let w = while_back is_spaces spaces rest h z in
    ap (λ xs. rows_found n body xs (past is_spaces body)) (ap (while is_spaces) e ∙ w.0) ∙ ap (rows_found n body spaces) (ap (past is_spaces) e ∙ w.1)

rows_complete : (n d : ℕ) (body : List Line) (rows : List Row) → Rows n body rows d → rows_of n d body ≡ Some rows
rows_complete n _ body rows (ByDigit d h) = rows_at_complete (n + suc d) body rows h
rows_complete n _ body rows (ByLine spaces first others e h l lt deep at) =
    found_by n body spaces (first ∷ others) e h (no_spaces first others l) ∙ cond-true (nat_lt n first.indent) _ _ (lt-ltb n first.indent lt)
    ∙ ap (λ b. provided b (rows_at first.indent body)) deep ∙ rows_at_complete first.indent body rows at
rows_complete n _ body rows (NoContent spaces [] e h z q are) = found_by n body spaces [] e h refl ∙ ap Some (sym are)
rows_complete n _ body rows (NoContent spaces (l ∷ ls) e h z q are) =
    let both = or_parts _ _ (first_fails (λ x. is_spaces x || nat_lt n x.indent) l ls z) in
    found_by n body spaces (l ∷ ls) e h (no_spaces l ls both.0) ∙ cond-false (nat_lt n l.indent) _ _ both.1
    ∙ passed (all_quiet (l ∷ ls)) (map empty_row spaces) (quiet_complete (l ∷ ls) q) ∙ ap Some (sym are)

-- content
count_pushed : (es : List Row) (r : Row) (p : ℕ) → p + count_of has_break (es ++ r ∷ []) ≡ (if r.1 then suc (p + count_of has_break es) else p + count_of has_break es)
count_pushed [] r p = at r.1
  where
    at : (b : Bool) → p + cond b (suc 0) 0 ≡ cond b (suc (p + 0)) (p + 0)
    at true = omega arith
    at false = refl
count_pushed (e ∷ es) r p = at (has_break e) (count_pushed es r p)
  where
    at : (b : Bool) → p + count_of has_break (es ++ r ∷ []) ≡ cond r.1 (suc (p + count_of has_break es)) (p + count_of has_break es) →
        p + cond b (suc (count_of has_break (es ++ r ∷ []))) (count_of has_break (es ++ r ∷ [])) ≡ cond r.1 (suc (p + cond b (suc (count_of has_break es)) (count_of has_break es))) (p + cond b (suc (count_of has_break es)) (count_of has_break es))
    at false h = h
    at true h = more r.1 h
      where
        more : (c : Bool) → p + count_of has_break (es ++ r ∷ []) ≡ cond c (suc (p + count_of has_break es)) (p + count_of has_break es) →
            p + suc (count_of has_break (es ++ r ∷ [])) ≡ cond c (suc (p + suc (count_of has_break es))) (p + suc (count_of has_break es))
        more true h = omega (arith, h)
        more false h = omega (arith, h)

each_row : (es : List Row) (r : Row) → Each is_empty_row es → is_end r.0 ≡ true → Each is_empty_row (es ++ r ∷ [])
each_row [] r h e = (e, tt)
each_row (x ∷ es) r h e = (h.0, each_row es r h.1 e)

module _ (folds : Bool) (chomp : Chomp) where
  content_on : (before : Option Bool) (p : ℕ) (empties rows : List Row) → Each is_empty_row empties → Content folds chomp before p (empties ++ rows) (content folds chomp before (p + count_of has_break empties) rows)
  content_on before p empties [] h = subst (λ xs. Content folds chomp before p xs (chomped chomp before (p + count_of has_break empties))) (sym (append-nil empties)) (Over before p empties h)
  content_on before p empties (r ∷ rs) h = at (λ b q es g. content_on b q es rs g) (is_end r.0) refl
    where
      at : ((b : Option Bool) (q : ℕ) (es : List Row) → Each is_empty_row es → Content folds chomp b q (es ++ rs) (content folds chomp b (q + count_of has_break es) rs)) → (v : Bool) → is_end r.0 ≡ v →
          Content folds chomp before p (empties ++ (r ∷ rs)) (content folds chomp before (p + count_of has_break empties) (r ∷ rs))
      at ih true e =
          let q : ℕ = p + count_of has_break empties in
          subst (Content folds chomp before p (empties ++ (r ∷ rs))) (ap (λ n. content folds chomp before n rs) (count_pushed empties r p) ∙ sym (cond-true (is_end r.0) _ _ e))
          (subst (λ xs. Content folds chomp before p xs (content folds chomp before (p + count_of has_break (empties ++ r ∷ [])) rs)) (append_assoc empties (r ∷ []) rs) (ih before p (empties ++ r ∷ []) (each_row empties r h e)))
      at ih false e =
          let q : ℕ = if r.1 then 1 else 0 in
          let zero_more : q + 0 ≡ q = omega arith in
          let more : Content folds chomp (Some (begins_blank r.0)) q rs (content folds chomp (Some (begins_blank r.0)) q rs) =
          subst (λ n. Content folds chomp (Some (begins_blank r.0)) q rs (content folds chomp (Some (begins_blank r.0)) n rs)) zero_more (ih (Some (begins_blank r.0)) q [] tt) in
          subst (Content folds chomp before p (empties ++ (r ∷ rs))) (sym (cond-false (is_end r.0) _ _ e))
          (Then before p empties r.0 r.1 rs (content folds chomp (Some (begins_blank r.0)) q rs) h e more)

  rows_skipped : (before : Option Bool) (p : ℕ) (es rest : List Row) → Each is_empty_row es → content folds chomp before p (es ++ rest) ≡ content folds chomp before (p + count_of has_break es) rest
  rows_skipped before p [] rest h = let same : p ≡ p + 0 = omega arith in ap (λ n. content folds chomp before n rest) same
  rows_skipped before p (e ∷ es) rest h =
      cond-true (is_end e.0) _ _ h.0 ∙ rows_skipped before (if e.1 then suc p else p) es rest h.1 ∙ ap (λ n. content folds chomp before n rest) (at e.1)
    where
      at : (b : Bool) → cond b (suc p) p + count_of has_break es ≡ p + cond b (suc (count_of has_break es)) (count_of has_break es)
      at true = omega arith
      at false = refl

  content_complete : (before : Option Bool) (p : ℕ) (rows : List Row) (value : List ℕ) → Content folds chomp before p rows value → content folds chomp before p rows ≡ value
  content_complete _ _ _ _ (Over before p empties h) = ap (content folds chomp before p) (sym (append-nil empties)) ∙ rows_skipped before p empties [] h
  content_complete _ _ _ _ (Then before p empties text ended rows more h e c) =
      rows_skipped before p empties ((text, ended) ∷ rows) h ∙ cond-false (is_end text) _ _ e
      ∙ ap (λ xs. between folds before (p + count_of has_break empties) (begins_blank text) ++ (text ++ xs)) (content_complete (Some (begins_blank text)) (if ended then 1 else 0) rows more c)

pub block_text_sound : (folds : Bool) (n : ℕ) (text : List ℕ) (body : List Line) (value : List ℕ) → block_scalar folds n text body ≡ Some value → BlockText folds n text body value
block_text_sound folds n text body value e =
    let h = bind_some (header_of folds text) _ value e in
    let rows = bind_some (rows_of n h.0.digit body) _ value h.2 in
    let none : 0 + 0 ≡ 0 = refl in
    record {
      header = h.0;
      rows = rows.0;
      is_header = header_sound folds text h.0 h.1;
      are_rows = rows_sound n h.0.digit body rows.0 rows.1;
      spelled = subst (Content h.0.folds h.0.chomp None 0 rows.0) (same_Some (content h.0.folds h.0.chomp None 0 rows.0) value rows.2) (content_on h.0.folds h.0.chomp None 0 [] rows.0 tt);
    }

pub block_text_complete : (folds : Bool) (n : ℕ) (text : List ℕ) (body : List Line) (value : List ℕ) → BlockText folds n text body value → block_scalar folds n text body ≡ Some value
block_text_complete folds n text body value b =
    ap (λ (o : Option Header). o >>= λ h. content_of h (rows_of n h.digit body)) (header_complete folds text b.header b.is_header)
    ∙ ap (content_of b.header) (rows_complete n b.header.digit body b.rows b.are_rows)
    ∙ ap Some (content_complete b.header.folds b.header.chomp None 0 b.rows value b.spelled)
