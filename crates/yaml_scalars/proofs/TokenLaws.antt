-- Tokens: the function gives what the relation says, and nothing else.
use Rattle.std.proofs.Common.{◌≡◌, ℕ, zero, suc, ◌+◌, ◌-◌, ◌≤◌, List, [], ◌∷◌, ◌++◌, length, take, drop, Bool, true, false, refl, sym, ap, ◌∙◌, subst, cond, inl, inr, append_assoc, Option, Some, arith, ◌==◌, ◌&&◌, ◌||◌, true≢false, length-append, length-drop}
use Rattle.std.proofs.lemmas.Bool.{cond-true, cond-false, eqb-true, false_from_ne_true, not-true, and_parts, and_from, or_parts, or_cases}
use Rattle.std.proofs.lemmas.List.{take-append-drop}
use Rattle.std.specs.Str.{encode_utf8_all}
use Rattle.yaml_scalars.specs.declared.token.Token.{Token}
use Rattle.yaml_scalars.specs.declared.token.Token.TheVariants as token
use Rattle.yaml_lines.specs.Chunks.{NoneOf, ◌>>=◌}
use Rattle.yaml_lines.specs.Marks.{blank, is_end, begins_with, gap, trimmed, without_end, unless_blank}
use Rattle.yaml_lines.specs.Lines.{is_break}
use Rattle.yaml_scalars.specs.Plain.{flow_sign, is_sign, plain_start, flow_parted, flow_stops, cut, first_to, Part}
use Rattle.yaml_scalars.specs.Quoted.{white, Step, Refused, Closed, Stands, double_step, single_step, on_step, quoted, Double, Single}
use Rattle.yaml_scalars.specs.Tokens.{sign_of, with_quote, plain_word, is_quote, word, key_colon, is_key, token_of, comment_front, one_more, tokens, WordAt, PlainWord, DoubleWord, SingleWord, EndsLine, Lexed, NoMore, Blank, CommentLine, Comment, Sign, IsWord, IsKey}
use Rattle.yaml_lines.proofs.Parts.{chosen, bind_some, provided_some}
use Rattle.std.proofs.lemmas.Option.{same_Some}
use Rattle.yaml_lines.proofs.ChunkLaws.{gap_whole, gap_blanks, gap_again}
use Rattle.yaml_scalars.proofs.PlainLaws.{part_sound, part_complete, passed}
use Rattle.yaml_scalars.proofs.QuotedLaws.{double_sound, double_complete, single_sound, single_complete}
use Rattle.yaml_scalars.proofs.TokenSteps.{tokens_skip}

pub by_flow : (P : ℕ → Type 0) (c : ℕ) → flow_sign c ≡ true → P 44 → P 91 → P 93 → P 123 → P 125 → P c
by_flow P c e p44 p91 p93 p123 p125 =
    elim (or_cases _ _ e) [
      | inl h ↦ elim (or_cases _ _ h) [
        | inl g ↦ elim (or_cases _ _ g) [
          | inl w ↦ elim (or_cases _ _ w) [ inl v ↦ subst P (sym (eqb-true c 44 v)) p44 | inr v ↦ subst P (sym (eqb-true c 91 v)) p91 ]
          | inr w ↦ subst P (sym (eqb-true c 93 w)) p93
        ]
        | inr g ↦ subst P (sym (eqb-true c 123 g)) p123
      ]
      | inr h ↦ subst P (sym (eqb-true c 125 h)) p125
    ]

-- the first character of a plain scalar
pub starts : (c : ℕ) (cs : List ℕ) → plain_start flow_parted (c ∷ cs) ≡ true → (is_sign c ≡ false) × (blank c ≡ false)
starts c cs e = or_parts _ _ (not-true _ (and_parts _ _ e).0)

pub no_sign : (c k : ℕ) → is_sign k ≡ true → is_sign c ≡ false → (c == k) ≡ false
no_sign c k s e = false_from_ne_true (c == k) (λ h. true≢false (sym s ∙ subst (λ x. is_sign x ≡ false) (eqb-true c k h) e))

no_flow : (c : ℕ) → is_sign c ≡ false → flow_sign c ≡ false
no_flow c e = false_from_ne_true (flow_sign c) (λ h. true≢false (sym (by_flow (λ x. is_sign x ≡ true) c h refl refl refl refl refl) ∙ e))

-- what ends within a text
within : (step : ℕ → List ℕ → Step) (k : ℕ) (text : List ℕ) (r : List ℕ × ℕ) → quoted step k text ≡ Some r → r.1 ≤ length text
within step k [] r e = absurd (cc)
within step (suc k) (c ∷ cs) r e =
    let q = bind_some (quoted step k cs) _ r e in
    let same : suc q.0.1 ≡ r.1 = ap (λ (p : List ℕ × ℕ). p.1) (same_Some (q.0.0, suc q.0.1) r q.2) in
    let more : q.0.1 ≤ length cs = within step k cs q.0 q.1 in
    omega (arith, same, more)
within step zero (c ∷ cs) r e = at (λ k q f. within step k cs q f) (step c cs) e
  where
    at : ((k : ℕ) (q : List ℕ × ℕ) → quoted step k cs ≡ Some q → q.1 ≤ length cs) → (s : Step) → on_step s (λ k. quoted step k cs) ≡ Some r → r.1 ≤ suc (length cs)
    at ih Refused g = absurd (cc)
    at ih Closed g = let same : 1 ≡ r.1 = ap (λ (p : List ℕ × ℕ). p.1) (same_Some ([], 1) r g) in omega (arith, same)
    at ih (Stands v k) g =
        let q = bind_some (quoted step k cs) _ r g in
        let same : suc q.0.1 ≡ r.1 = ap (λ (p : List ℕ × ℕ). p.1) (same_Some (v ++ q.0.0, suc q.0.1) r q.2) in
        let more : q.0.1 ≤ length cs = ih k q.0 q.1 in
        omega (arith, same, more)

taken_length : (k : ℕ) (xs : List ℕ) → k ≤ length xs → length (take k xs) ≡ k
taken_length zero xs h = refl
taken_length (suc k) [] h = absurd (omega arith)
taken_length (suc k) (x ∷ xs) h = ap suc (taken_length k xs (omega arith))

-- a plain scalar has a character
unless_some : (c : ℕ) (xs : List ℕ) → blank c ≡ false → is_end (unless_blank c xs) ≡ false
unless_some c [] e = rw e refl
unless_some c (x ∷ xs) e = refl

plain_some : (c : ℕ) (cs : List ℕ) → flow_stops false c cs ≡ false → blank c ≡ false → is_end (without_end (cut flow_stops false (c ∷ cs)).0) ≡ false
plain_some c cs e b =
    ap (λ (r : List ℕ × List ℕ). is_end (without_end r.0)) (cond-false (flow_stops false c cs) ([], c ∷ cs) (first_to c (cut flow_stops (blank c) cs)) e)
    ∙ unless_some c (without_end (cut flow_stops (blank c) cs).0) b

-- where a character goes on with a word
goes : (c : ℕ) (cs : List ℕ) → white c ≡ false → (c == 13) ≡ false → (c == 35) ≡ false → flow_sign c ≡ false → plain_start flow_parted (c ∷ cs) ≡ true → flow_stops false c cs ≡ false
goes c cs w r h f p =
    let feed : (c == 10) ≡ false = (or_parts _ _ w).1 in
    let colon : ((c == 58) && flow_parted cs) ≡ false = false_from_ne_true _ (λ e. let both = and_parts _ _ e in
    let mark : ((((c == 45) || (c == 63)) || (c == 58)) && flow_parted cs) ≡ true = and_from _ _ (ap (λ b. ((c == 45) || (c == 63)) || b) both.0 ∙ or_true ((c == 45) || (c == 63))) both.1 in
    true≢false (sym mark ∙ not-true _ (and_parts _ _ p).1)) in
    rw (feed, r, f, colon, h) refl
  where
    or_true : (b : Bool) → (b || true) ≡ true
    or_true true = refl
    or_true false = refl

-- the scalar at the front of a text
pub record Front (c : ℕ) (cs value : List ℕ) (count : ℕ) : Type 0 where
  pub spelled : List ℕ
  pub rest : List ℕ
  pub whole : c ∷ cs ≡ spelled ++ rest
  pub counted : length spelled ≡ count
  pub some : is_end spelled ≡ false
  pub at : WordAt (is_quote c) spelled value rest

with_quote_some : (o : Option (List ℕ × ℕ)) (w : List ℕ × ℕ) → with_quote o ≡ Some w → (r : List ℕ × ℕ) × (o ≡ Some r) × ((r.0, suc r.1) ≡ w)
with_quote_some o w e = let r = bind_some o _ w e in (r.0, r.1, same_Some _ _ r.2)

word_sound : (c : ℕ) (cs : List ℕ) (w : List ℕ × ℕ) → (white c ≡ false) × ((c == 13) ≡ false) × ((c == 35) ≡ false) × (flow_sign c ≡ false) → word c cs ≡ Some w → Front c cs w.0 w.1
word_sound c cs w known e =
    elim (chosen (c == 34) _ _ (Some w) e) [
      | inl h ↦
          let r = with_quote_some (quoted double_step 0 cs) w h.1 in
          let k = r.0.1 in
          let c_is = eqb-true c 34 h.0 in
          let d : Double (take k cs ++ drop k cs) r.0.0 (drop k cs) = subst (λ xs. Double xs r.0.0 (drop k cs)) (sym (take-append-drop k cs)) (double_sound cs r.0 r.1) in
          let one : WordAt (is_quote 34) (34 ∷ take k cs) r.0.0 (drop k cs) = DoubleWord (take k cs) r.0.0 (drop k cs) d in
          subst (λ (p : List ℕ × ℕ). Front c cs p.0 p.1) r.2
          (record {
            spelled = c ∷ take k cs;
            rest = drop k cs;
            whole = ap (λ xs. c ∷ xs) (sym (take-append-drop k cs));
            counted = ap suc (taken_length k cs (within double_step 0 cs r.0 r.1));
            some = refl;
            at = subst (λ x. WordAt (is_quote x) (x ∷ take k cs) r.0.0 (drop k cs)) (sym c_is) one;
          })
      | inr h ↦ elim (chosen (c == 39) _ _ (Some w) h.1) [
        | inl g ↦
            let r = with_quote_some (quoted single_step 0 cs) w g.1 in
            let k = r.0.1 in
            let c_is = eqb-true c 39 g.0 in
            let d : Single (take k cs ++ drop k cs) r.0.0 (drop k cs) = subst (λ xs. Single xs r.0.0 (drop k cs)) (sym (take-append-drop k cs)) (single_sound cs r.0 r.1) in
            let one : WordAt (is_quote 39) (39 ∷ take k cs) r.0.0 (drop k cs) = SingleWord (take k cs) r.0.0 (drop k cs) d in
            subst (λ (p : List ℕ × ℕ). Front c cs p.0 p.1) r.2
            (record {
              spelled = c ∷ take k cs;
              rest = drop k cs;
              whole = ap (λ xs. c ∷ xs) (sym (take-append-drop k cs));
              counted = ap suc (taken_length k cs (within single_step 0 cs r.0 r.1));
              some = refl;
              at = subst (λ x. WordAt (is_quote x) (x ∷ take k cs) r.0.0 (drop k cs)) (sym c_is) one;
            })
        | inr g ↦
            let text : List ℕ = c ∷ cs in
            let value : List ℕ = without_end (cut flow_stops false text).0 in
            let p = provided_some (plain_start flow_parted text) (Some (value, length value)) w g.1 in
            let part = part_sound flow_stops text in
            let after : List ℕ = (cut flow_stops false text).1 in
            let whole : text ≡ value ++ (part.gap ++ after) = part.whole ∙ append_assoc value part.gap after in
            let s = starts c cs p.0 in
            let plain : is_quote c ≡ false = rw (h.0, g.0) refl in
            let some : is_end value ≡ false = plain_some c cs (goes c cs known.0 known.1 known.2 known.3 p.0) s.1 in
            let at : WordAt false value value (part.gap ++ after) =
            PlainWord value (part.gap ++ after) after part.gap some refl (subst (λ xs. Part flow_stops xs value after) whole part) (subst (λ xs. plain_start flow_parted xs ≡ true) whole p.0) in
            subst (λ (q : List ℕ × ℕ). Front c cs q.0 q.1) (same_Some (value, length value) w p.1)
            (record { spelled = value; rest = part.gap ++ after; whole = whole; counted = refl; some = some; at = subst (λ b. WordAt b value value (part.gap ++ after)) (sym plain) at })
      ]
    ]

-- the comment behind `#`
comment_parts : (cs : List ℕ) → NoneOf is_break (comment_front cs) × (cs ≡ comment_front cs ++ drop (length (comment_front cs)) cs) × EndsLine (drop (length (comment_front cs)) cs)
comment_parts [] = (tt, refl, tt)
comment_parts (c ∷ cs) = at (comment_parts cs) (is_break c) refl
  where
    at : NoneOf is_break (comment_front cs) × (cs ≡ comment_front cs ++ drop (length (comment_front cs)) cs) × EndsLine (drop (length (comment_front cs)) cs) → (b : Bool) → is_break c ≡ b →
        NoneOf is_break (comment_front (c ∷ cs)) × (c ∷ cs ≡ comment_front (c ∷ cs) ++ drop (length (comment_front (c ∷ cs))) (c ∷ cs)) × EndsLine (drop (length (comment_front (c ∷ cs))) (c ∷ cs))
    at h true e =
        let same : [] ≡ comment_front (c ∷ cs) = sym (cond-true (is_break c) _ _ e) in
        subst (λ w. NoneOf is_break w × (c ∷ cs ≡ w ++ drop (length w) (c ∷ cs)) × EndsLine (drop (length w) (c ∷ cs))) same (tt, refl, e)
    at h false e =
        let same : c ∷ comment_front cs ≡ comment_front (c ∷ cs) = sym (cond-false (is_break c) _ _ e) in
        subst (λ w. NoneOf is_break w × (c ∷ cs ≡ w ++ drop (length w) (c ∷ cs)) × EndsLine (drop (length w) (c ∷ cs))) same ((e, h.0), ap (λ xs. c ∷ xs) h.1, h.2)

comment_again : (front rest : List ℕ) → NoneOf is_break front → EndsLine rest → comment_front (front ++ rest) ≡ front
comment_again [] [] h e = refl
comment_again [] (c ∷ cs) h e = cond-true (is_break c) _ _ e
comment_again (c ∷ front) rest h e = cond-false (is_break c) _ _ h.0 ∙ ap (λ xs. c ∷ xs) (comment_again front rest h.1 e)

front_dropped : (front rest : List ℕ) → drop (length front) (front ++ rest) ≡ rest
front_dropped [] rest = refl
front_dropped (c ∷ front) rest = front_dropped front rest

front_taken : (front rest : List ℕ) → take (length front) (front ++ rest) ≡ front
front_taken [] rest = refl
front_taken (c ∷ front) rest = ap (λ xs. c ∷ xs) (front_taken front rest)

-- behind the first character of a text
behind_first : (c : ℕ) (cs spelled rest : List ℕ) → c ∷ cs ≡ spelled ++ rest → is_end spelled ≡ false → drop (length spelled - 1) cs ≡ rest
behind_first c cs [] rest e h = absurd (cc)
behind_first c cs (d ∷ ds) rest e h =
    let tail : cs ≡ ds ++ rest = ap (drop 1) e in
    let one : suc (length ds) - 1 ≡ length ds = omega arith in
    ap (λ n. drop n cs) one ∙ ap (drop (length ds)) tail ∙ front_dropped ds rest

colon_is : (q : Bool) (text : List ℕ) → key_colon q text ≡ true → text ≡ 58 ∷ drop 1 text
colon_is q [] e = absurd (cc)
colon_is q (c ∷ cs) e = ap (λ x. x ∷ cs) (eqb-true c 58 (and_parts _ _ e).0)

more_sound : (t : Token) (o : Option (List Token)) (ts : List Token) → one_more t o ≡ Some ts → (us : List Token) × (o ≡ Some us) × (t ∷ us ≡ ts)
more_sound t o ts e = let r = bind_some o _ ts e in (r.0, r.1, same_Some _ _ r.2)

word_lexed : (behind : Bool) (c : ℕ) (cs value : List ℕ) (n : ℕ) (ts : List Token) → Front c cs value n → ((k : ℕ) (us : List Token) → tokens false k cs ≡ Some us → Lexed false (drop k cs) us) →
    one_more (token_of (is_quote c) (c ∷ cs) value n).0 (tokens false (token_of (is_quote c) (c ∷ cs) value n).1 cs) ≡ Some ts → Lexed behind (c ∷ cs) ts
word_lexed behind c cs value n ts f ih e = at (is_key (is_quote c) (take n (c ∷ cs)) value (drop n (c ∷ cs))) refl e
  where
    taken : take n (c ∷ cs) ≡ f.spelled
    taken = ap (λ k. take k (c ∷ cs)) (sym f.counted) ∙ ap (take (length f.spelled)) f.whole ∙ front_taken f.spelled f.rest

    left : drop n (c ∷ cs) ≡ f.rest
    left = ap (λ k. drop k (c ∷ cs)) (sym f.counted) ∙ ap (drop (length f.spelled)) f.whole ∙ front_dropped f.spelled f.rest

    key_is : is_key (is_quote c) (take n (c ∷ cs)) value (drop n (c ∷ cs)) ≡ is_key (is_quote c) f.spelled value f.rest
    key_is = ap (λ xs. is_key (is_quote c) xs value (drop n (c ∷ cs))) taken ∙ ap (is_key (is_quote c) f.spelled value) left

    at : (b : Bool) → is_key (is_quote c) (take n (c ∷ cs)) value (drop n (c ∷ cs)) ≡ b →
        one_more (cond {A = Token × ℕ} b (token.Key (encode_utf8_all value), n + length (gap (drop n (c ∷ cs)))) (token.Word (encode_utf8_all value), n - 1)).0
        (tokens false (cond {A = Token × ℕ} b (token.Key (encode_utf8_all value), n + length (gap (drop n (c ∷ cs)))) (token.Word (encode_utf8_all value), n - 1)).1 cs) ≡ Some ts →
        Lexed behind (c ∷ cs) ts
    at false g h =
        let m = more_sound (token.Word (encode_utf8_all value)) (tokens false (n - 1) cs) ts h in
        let rest_is : drop (n - 1) cs ≡ f.rest = ap (λ k. drop (k - 1) cs) (sym f.counted) ∙ behind_first c cs f.spelled f.rest f.whole f.some in
        let more : Lexed false f.rest m.0 = subst (λ xs. Lexed false xs m.0) rest_is (ih (n - 1) m.0 m.1) in
        subst (Lexed behind (c ∷ cs)) m.2 (subst (λ xs. Lexed behind xs (token.Word (encode_utf8_all value) ∷ m.0)) (sym f.whole)
        (IsWord behind (is_quote c) f.spelled value f.rest m.0 f.at (sym key_is ∙ g) more))
    at true g h =
        let m = more_sound (token.Key (encode_utf8_all value)) (tokens false (n + length (gap (drop n (c ∷ cs)))) cs) ts h in
        let here : is_key (is_quote c) f.spelled value f.rest ≡ true = sym key_is ∙ g in
        let after : List ℕ = drop 1 (trimmed f.rest) in
        let colon : trimmed f.rest ≡ 58 ∷ after = colon_is (is_quote c) (trimmed f.rest) (and_parts _ _ (and_parts _ _ here).1).1 in
        let rest_is : f.rest ≡ gap f.rest ++ (58 ∷ after) = gap_whole f.rest ∙ ap (λ xs. gap f.rest ++ xs) colon in
        let text_is : c ∷ cs ≡ (f.spelled ++ (gap f.rest ++ (58 ∷ []))) ++ after =
        f.whole ∙ ap (λ xs. f.spelled ++ xs) (rest_is ∙ sym (append_assoc (gap f.rest) (58 ∷ []) after)) ∙ sym (append_assoc f.spelled (gap f.rest ++ (58 ∷ [])) after) in
        let counts : length (f.spelled ++ (gap f.rest ++ (58 ∷ []))) - 1 ≡ n + length (gap (drop n (c ∷ cs))) =
        omega (arith, length-append f.spelled (gap f.rest ++ (58 ∷ [])), length-append (gap f.rest) (58 ∷ []), f.counted, ap (λ xs. length (gap xs)) left) in
        let dropped : drop (n + length (gap (drop n (c ∷ cs)))) cs ≡ after =
        ap (λ k. drop k cs) (sym counts) ∙ behind_first c cs (f.spelled ++ (gap f.rest ++ (58 ∷ []))) after text_is (some_more f.spelled (gap f.rest ++ (58 ∷ [])) f.some) in
        let more : Lexed false after m.0 = subst (λ xs. Lexed false xs m.0) dropped (ih _ m.0 m.1) in
        let W : List ℕ → Type 0 = λ xs. WordAt (is_quote c) f.spelled value xs in
        let K : List ℕ → Type 0 = λ xs. is_key (is_quote c) f.spelled value xs ≡ true in
        subst (Lexed behind (c ∷ cs)) m.2 (subst (λ xs. Lexed behind xs (token.Key (encode_utf8_all value) ∷ m.0)) (sym (f.whole ∙ ap (λ xs. f.spelled ++ xs) rest_is))
        (IsKey behind (is_quote c) f.spelled value (gap f.rest) after m.0 (subst W rest_is f.at) (gap_blanks f.rest).0 (subst K rest_is here) more))
      where
        some_more : (xs ys : List ℕ) → is_end xs ≡ false → is_end (xs ++ ys) ≡ false
        some_more [] ys e = absurd (cc)
        some_more (x ∷ xs) ys e = refl

lexed_sound : (behind : Bool) (k : ℕ) (text : List ℕ) (ts : List Token) → tokens behind k text ≡ Some ts → Lexed behind (drop k text) ts
lexed_sound behind zero [] ts e = subst (Lexed behind []) (same_Some [] ts e) (NoMore behind)
lexed_sound behind (suc k) [] ts e = subst (Lexed behind []) (same_Some [] ts e) (NoMore behind)
lexed_sound behind (suc k) (c ∷ cs) ts e = lexed_sound behind k cs ts e
lexed_sound behind zero (c ∷ cs) ts e =
    let ih : (b : Bool) (n : ℕ) (us : List Token) → tokens b n cs ≡ Some us → Lexed b (drop n cs) us = λ b n us g. lexed_sound b n cs us g in
    elim (chosen (white c) _ _ (Some ts) e) [
      | inl h ↦ Blank behind c cs ts h.0 (ih true 0 ts h.1)
      | inr h ↦ elim (chosen (c == 13) _ _ (Some ts) h.1) [
        | inl g ↦ elim (chosen (begins_with 35 (trimmed cs)) _ _ (Some ts) g.1)
            [ inl w ↦ subst (λ x. Lexed behind (x ∷ cs) ts) (sym (eqb-true c 13 g.0)) (CommentLine behind cs ts w.0 (ih true 0 ts w.1)) | inr w ↦ absurd (cc) ]
        | inr g ↦ elim (chosen (c == 35) _ _ (Some ts) g.1) [
          | inl w ↦ elim (chosen behind _ _ (Some ts) w.1) [
            | inl v ↦
                let p = comment_parts cs in
                let one : Lexed true (35 ∷ cs) ts = subst (λ xs. Lexed true (35 ∷ xs) ts) (sym p.1) (Comment (comment_front cs) (drop (length (comment_front cs)) cs) ts p.0 p.2 (ih true (length (comment_front cs)) ts v.1)) in
                subst (λ b. Lexed b (c ∷ cs) ts) (sym v.0) (subst (λ x. Lexed true (x ∷ cs) ts) (sym (eqb-true c 35 w.0)) one)
            | inr v ↦ absurd (cc)
          ]
          | inr w ↦ elim (chosen (flow_sign c) _ _ (Some ts) w.1) [
            | inl v ↦ let m = more_sound (sign_of c) (tokens false 0 cs) ts v.1 in subst (Lexed behind (c ∷ cs)) m.2 (Sign behind c cs m.0 v.0 (ih false 0 m.0 m.1))
            | inr v ↦
                let r = bind_some (word c cs) _ ts v.1 in
                word_lexed behind c cs r.0.0 r.0.1 ts (word_sound c cs r.0 (h.0, g.0, w.0, v.0) r.1) (ih false) r.2
          ]
        ]
      ]
    ]

-- the relation's scalar, as the code finds it
pub record Back (quote : Bool) (spelled value rest : List ℕ) : Type 0 where
  pub c : ℕ
  pub cs : List ℕ
  pub whole : spelled ++ rest ≡ c ∷ cs
  pub found : word c cs ≡ Some (value, length spelled)
  pub quote_is : is_quote c ≡ quote
  pub some : is_end spelled ≡ false
  pub no_white : white c ≡ false
  pub no_return : (c == 13) ≡ false
  pub no_hash : (c == 35) ≡ false
  pub no_flow : flow_sign c ≡ false

not_stopped : (c : ℕ) (xs : List ℕ) → flow_stops false c xs ≡ false → ((c == 10) ≡ false) × ((c == 13) ≡ false)
not_stopped c xs e = or_parts _ _ (or_parts _ _ (or_parts _ _ (or_parts _ _ e).0).0).0

word_back : (quote : Bool) (spelled value rest : List ℕ) → WordAt quote spelled value rest → Back quote spelled value rest
word_back _ _ _ _ (PlainWord [] rest part space some e p s) = absurd (cc)
word_back _ _ _ _ (PlainWord (c ∷ vs) rest part space some e p s) =
    let st = starts c (vs ++ rest) s in
    let run = not_stopped c ((vs ++ p.gap) ++ part) p.runs.0 in
    let again = part_complete flow_stops (c ∷ (vs ++ rest)) (c ∷ vs) part p in
    let plain : plain_word (c ∷ (vs ++ rest)) ≡ Some (c ∷ vs, length (c ∷ vs)) =
    passed (plain_start flow_parted (c ∷ (vs ++ rest))) (without_end (cut flow_stops false (c ∷ (vs ++ rest))).0, length (without_end (cut flow_stops false (c ∷ (vs ++ rest))).0)) s
    ∙ ap (λ (xs : List ℕ). Some (xs, length xs)) again.0 in
    let no34 = no_sign c 34 refl st.0 in
    let no39 = no_sign c 39 refl st.0 in
    record {
      c = c;
      cs = vs ++ rest;
      whole = refl;
      found = cond-false (c == 34) _ _ no34 ∙ cond-false (c == 39) _ _ no39 ∙ plain;
      quote_is = rw (no34, no39) refl;
      some = refl;
      no_white = rw (st.1, run.0) refl;
      no_return = run.1;
      no_hash = no_sign c 35 refl st.0;
      no_flow = no_flow c st.0;
    }
word_back _ _ _ _ (DoubleWord spelled value rest d) =
    let f = double_complete (spelled ++ rest) value rest d in
    let in_text = within double_step 0 (spelled ++ rest) (value, f.count) f.is in
    let counts : f.count ≡ length spelled = omega (arith, in_text, ap length f.left, length-drop f.count (spelled ++ rest), length-append spelled rest) in
    record {
      c = 34;
      cs = spelled ++ rest;
      whole = refl;
      found = ap with_quote f.is ∙ ap (λ (n : ℕ). Some (value, suc n)) counts;
      quote_is = refl;
      some = refl;
      no_white = refl;
      no_return = refl;
      no_hash = refl;
      no_flow = refl;
    }
word_back _ _ _ _ (SingleWord spelled value rest d) =
    let f = single_complete (spelled ++ rest) value rest d in
    let in_text = within single_step 0 (spelled ++ rest) (value, f.count) f.is in
    let counts : f.count ≡ length spelled = omega (arith, in_text, ap length f.left, length-drop f.count (spelled ++ rest), length-append spelled rest) in
    record {
      c = 39;
      cs = spelled ++ rest;
      whole = refl;
      found = ap with_quote f.is ∙ ap (λ (n : ℕ). Some (value, suc n)) counts;
      quote_is = refl;
      some = refl;
      no_white = refl;
      no_return = refl;
      no_hash = refl;
      no_flow = refl;
    }

abbrev picked : Bool → List ℕ → ℕ → List ℕ → Token × ℕ
picked b value n rest = cond {A = Token × ℕ} b (token.Key (encode_utf8_all value), n + length (gap rest)) (token.Word (encode_utf8_all value), n - 1)

word_tokens : (behind quote : Bool) (spelled value rest : List ℕ) (w : Back quote spelled value rest) (b : Bool) → is_key quote spelled value rest ≡ b →
    tokens behind 0 (spelled ++ rest) ≡ one_more (picked b value (length spelled) rest).0 (tokens false (picked b value (length spelled) rest).1 w.cs)
word_tokens behind quote spelled value rest w b e =
    let n : ℕ = length spelled in
    let taken : take n (w.c ∷ w.cs) ≡ spelled = ap (take n) (sym w.whole) ∙ front_taken spelled rest in
    let left : drop n (w.c ∷ w.cs) ≡ rest = ap (drop n) (sym w.whole) ∙ front_dropped spelled rest in
    let key_is : is_key (is_quote w.c) (take n (w.c ∷ w.cs)) value (drop n (w.c ∷ w.cs)) ≡ b =
    ap (λ q. is_key q (take n (w.c ∷ w.cs)) value (drop n (w.c ∷ w.cs))) w.quote_is ∙ ap (λ xs. is_key quote xs value (drop n (w.c ∷ w.cs))) taken ∙ ap (is_key quote spelled value) left ∙ e in
    let picks : token_of (is_quote w.c) (w.c ∷ w.cs) value n ≡ picked b value n rest =
    ap (λ v. picked v value n (drop n (w.c ∷ w.cs))) key_is ∙ ap (picked b value n) left in
    ap (tokens behind 0) w.whole ∙ cond-false (white w.c) _ _ w.no_white ∙ cond-false (w.c == 13) _ _ w.no_return ∙ cond-false (w.c == 35) _ _ w.no_hash ∙ cond-false (flow_sign w.c) _ _ w.no_flow
    ∙ ap (λ (o : Option (List ℕ × ℕ)). o >>= λ r. let t = token_of (is_quote w.c) (w.c ∷ w.cs) r.0 r.1 in one_more t.0 (tokens false t.1 w.cs)) w.found
    ∙ ap (λ (t : Token × ℕ). one_more t.0 (tokens false t.1 w.cs)) picks

pub lexed_complete : (behind : Bool) (text : List ℕ) (ts : List Token) → Lexed behind text ts → tokens behind 0 text ≡ Some ts
lexed_complete _ _ _ (NoMore behind) = refl
lexed_complete _ _ _ (Blank behind c text ts e l) = cond-true (white c) _ _ e ∙ lexed_complete true text ts l
lexed_complete _ _ _ (CommentLine behind text ts e l) = cond-true (begins_with 35 (trimmed text)) _ _ e ∙ lexed_complete true text ts l
lexed_complete _ _ _ (Comment front rest ts n e l) =
    ap (λ (xs : List ℕ). tokens true (length xs) (front ++ rest)) (comment_again front rest n e) ∙ tokens_skip true (length front) (front ++ rest)
    ∙ ap (tokens true 0) (front_dropped front rest) ∙ lexed_complete true rest ts l
lexed_complete _ _ _ (Sign behind c text ts e l) =
    by_flow (λ x. tokens behind 0 (x ∷ text) ≡ one_more (sign_of x) (tokens false 0 text)) c e refl refl refl refl refl ∙ ap (one_more (sign_of c)) (lexed_complete false text ts l)
lexed_complete _ _ _ (IsWord behind quote spelled value rest ts w k l) =
    let b = word_back quote spelled value rest w in
    word_tokens behind quote spelled value rest b false k
    ∙ ap (one_more (token.Word (encode_utf8_all value))) (tokens_skip false (length spelled - 1) b.cs ∙ ap (tokens false 0) (behind_first b.c b.cs spelled rest (sym b.whole) b.some) ∙ lexed_complete false rest ts l)
lexed_complete _ _ _ (IsKey behind quote spelled value blanks rest ts w each k l) =
    let b = word_back quote spelled value (blanks ++ (58 ∷ rest)) w in
    let gap_is : gap (blanks ++ (58 ∷ rest)) ≡ blanks = (gap_again blanks (58 ∷ rest) each refl).0 in
    let text_is : b.c ∷ b.cs ≡ (spelled ++ (blanks ++ (58 ∷ []))) ++ rest =
    sym b.whole ∙ ap (λ xs. spelled ++ xs) (sym (append_assoc blanks (58 ∷ []) rest)) ∙ sym (append_assoc spelled (blanks ++ (58 ∷ [])) rest) in
    let counts : length (spelled ++ (blanks ++ (58 ∷ []))) - 1 ≡ length spelled + length (gap (blanks ++ (58 ∷ rest))) =
    omega (arith, length-append spelled (blanks ++ (58 ∷ [])), length-append blanks (58 ∷ []), ap length gap_is) in
    word_tokens behind quote spelled value (blanks ++ (58 ∷ rest)) b true k
    ∙ ap (one_more (token.Key (encode_utf8_all value))) (tokens_skip false (length spelled + length (gap (blanks ++ (58 ∷ rest)))) b.cs ∙ ap (λ n. tokens false 0 (drop n b.cs)) (sym counts)
    ∙ ap (tokens false 0) (behind_first b.c b.cs (spelled ++ (blanks ++ (58 ∷ []))) rest text_is (some_more spelled (blanks ++ (58 ∷ [])) b.some)) ∙ lexed_complete false rest ts l)
  where
    some_more : (xs ys : List ℕ) → is_end xs ≡ false → is_end (xs ++ ys) ≡ false
    some_more [] ys e = absurd (cc)
    some_more (x ∷ xs) ys e = refl

pub tokens_sound : (behind : Bool) (text : List ℕ) (ts : List Token) → tokens behind 0 text ≡ Some ts → Lexed behind text ts
tokens_sound behind text ts e = lexed_sound behind 0 text ts e
