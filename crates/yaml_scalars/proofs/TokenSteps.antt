-- Tokens one by one.
use Rattle.std.proofs.Common.{◌≡◌, ℕ, zero, suc, ◌+◌, ◌-◌, ◌<◌, List, [], ◌∷◌, ◌++◌, length, drop, Bool, true, false, refl, sym, ap, ◌∙◌, cond, append_assoc, Option, Some, None, arith, ◌==◌, append-nil, take, nat_le, ◌&&◌}
use Rattle.std.proofs.lemmas.List.{drop-drop}
use Rattle.std.proofs.lemmas.Str.{chars_from_encodes}
use Rattle.std.specs.Str.{chars, IsUtf8}
use Rattle.std.proofs.lemmas.Option.{same_Some}
use lib.Utf8.{encodes}
use Rattle.yaml_scalars.specs.declared.fault.YamlFault.{YamlFault}
use Rattle.yaml_scalars.specs.declared.fault.YamlFault.TheVariants.{Bytes, Grammar, Duplicate, OutOfMemory}
use Rattle.yaml_scalars.specs.Gives.{Fails, with_text}
use Rattle.yaml_scalars.specs.declared.token.Token.{Token}
use Rattle.yaml_scalars.specs.declared.token.Token.TheVariants as token
use Rattle.yaml_lines.specs.Chunks.{◌>>=◌}
use Rattle.yaml_lines.specs.Marks.{begins_with, trimmed, gap}
use Rattle.yaml_scalars.specs.Plain.{flow_sign}
use Rattle.yaml_scalars.specs.Quoted.{white}
use Rattle.yaml_scalars.specs.Tokens.{tokens, token_step, word_step, advanced, word, token_of, is_quote, one_more, sign_of, comment_front, first_word, first_quote, word_token, on_one_line, max_key, key_colon, is_key}

-- elements that come behind others
abbrev pub together : {Y : Type 0} → List Y → Option (List Y) → Option (List Y)
together ys None = None
together ys (Some more) = Some (ys ++ more)

pub tokens_skip : (behind : Bool) (k : ℕ) (cs : List ℕ) → tokens behind k cs ≡ tokens behind 0 (drop k cs)
tokens_skip behind zero [] = refl
tokens_skip behind (suc k) [] = refl
tokens_skip behind zero (c ∷ cs) = refl
tokens_skip behind (suc k) (c ∷ cs) = tokens_skip behind k cs

-- what a step gives, and what follows it
abbrev pub onward : List ℕ → Option (List Token × (Bool × ℕ)) → Option (List Token)
onward cs None = None
onward cs (Some s) = together s.0 (tokens s.1.0 s.1.1 cs)

together_nil : (o : Option (List Token)) → o ≡ together [] o
together_nil None = refl
together_nil (Some ts) = refl

together_one : (t : Token) (o : Option (List Token)) → one_more t o ≡ together (t ∷ []) o
together_one t None = refl
together_one t (Some ts) = refl

onward_word : (is_quoted : Bool) (text cs : List ℕ) (o : Option (List ℕ × ℕ)) →
    (o >>= λ w. let t = token_of is_quoted text w.0 w.1 in one_more t.0 (tokens false t.1 cs)) ≡ onward cs (word_step is_quoted text o)
onward_word is_quoted text cs None = refl
onward_word is_quoted text cs (Some w) = together_one _ _

pub tokens_step : (behind : Bool) (c : ℕ) (cs : List ℕ) → tokens behind 0 (c ∷ cs) ≡ onward cs (token_step behind (c ∷ cs))
tokens_step behind c cs = at_white (white c) refl
  where
    at_flow : (b : Bool) → cond b (one_more (sign_of c) (tokens false 0 cs)) (word c cs >>= λ w. let t = token_of (is_quote c) (c ∷ cs) w.0 w.1 in one_more t.0 (tokens false t.1 cs))
        ≡ onward cs (cond b (Some (sign_of c ∷ [], (false, 0))) (word_step (is_quote c) (c ∷ cs) (word c cs)))
    at_flow true = together_one _ _
    at_flow false = onward_word (is_quote c) (c ∷ cs) cs (word c cs)

    at_hash : (b : Bool) → cond b (cond behind (tokens true (length (comment_front cs)) cs) None) (cond (flow_sign c) (one_more (sign_of c) (tokens false 0 cs)) (word c cs >>= λ w. let t = token_of (is_quote c) (c ∷ cs) w.0 w.1 in one_more t.0 (tokens false t.1 cs)))
        ≡ onward cs (cond b (cond behind (Some ([], (true, length (comment_front cs)))) None) (cond (flow_sign c) (Some (sign_of c ∷ [], (false, 0))) (word_step (is_quote c) (c ∷ cs) (word c cs))))
    at_hash true = at_behind behind
      where
        at_behind : (b : Bool) → cond b (tokens true (length (comment_front cs)) cs) None ≡ onward cs (cond b (Some ([], (true, length (comment_front cs)))) None)
        at_behind true = together_nil _
        at_behind false = refl
    at_hash false = at_flow (flow_sign c)

    at_return : (b : Bool) → cond b (cond (begins_with 35 (trimmed cs)) (tokens true 0 cs) None) (cond (c == 35) (cond behind (tokens true (length (comment_front cs)) cs) None) (cond (flow_sign c) (one_more (sign_of c) (tokens false 0 cs)) (word c cs >>= λ w. let t = token_of (is_quote c) (c ∷ cs) w.0 w.1 in one_more t.0 (tokens false t.1 cs))))
        ≡ onward cs (cond b (cond (begins_with 35 (trimmed cs)) (Some ([], (true, 0))) None) (cond (c == 35) (cond behind (Some ([], (true, length (comment_front cs)))) None) (cond (flow_sign c) (Some (sign_of c ∷ [], (false, 0))) (word_step (is_quote c) (c ∷ cs) (word c cs)))))
    at_return true = at_comment (begins_with 35 (trimmed cs))
      where
        at_comment : (b : Bool) → cond b (tokens true 0 cs) None ≡ onward cs (cond b (Some ([], (true, 0))) None)
        at_comment true = together_nil _
        at_comment false = refl
    at_return false = at_hash (c == 35)

    at_white : (b : Bool) → white c ≡ b → tokens behind 0 (c ∷ cs) ≡ onward cs (token_step behind (c ∷ cs))
    at_white true e = rw e (together_nil _)
    at_white false e = rw e (at_return (c == 13))

-- the loop's step: `left` is what is left of the text
pub tokens_on : (behind next : Bool) (left : List ℕ) (more : ℕ) (out new : List Token) → 0 < length left →
    advanced out (token_step behind left) ≡ Some ((next, more), new) → together new (tokens next 0 (drop (1 + more) left)) ≡ together out (tokens behind 0 left)
tokens_on behind next [] more out new h e = absurd (omega arith)
tokens_on behind next (c ∷ cs) more out new h e = at_step (token_step behind (c ∷ cs)) refl e
  where
    further : drop more cs ≡ drop (1 + more) (c ∷ cs)
    further = drop-drop more 1 (c ∷ cs)

    joins : (ys : List Token) (o : Option (List Token)) → together (out ++ ys) o ≡ together out (together ys o)
    joins ys None = refl
    joins ys (Some ts) = ap Some (append_assoc out ys ts)

    at_step : (s : Option (List Token × (Bool × ℕ))) → token_step behind (c ∷ cs) ≡ s → advanced out s ≡ Some ((next, more), new) →
        together new (tokens next 0 (drop (1 + more) (c ∷ cs))) ≡ together out (tokens behind 0 (c ∷ cs))
    at_step None k g = absurd (cc)
    at_step (Some (ys, (b, m))) k g =
        let p : ((b, m), out ++ ys) ≡ ((next, more), new) = same_Some _ _ g in
        let n : new ≡ out ++ ys = sym (ap (λ (r : (Bool × ℕ) × List Token). r.1) p) in
        let nb : next ≡ b = sym (ap (λ (r : (Bool × ℕ) × List Token). r.0.0) p) in
        let nm : more ≡ m = sym (ap (λ (r : (Bool × ℕ) × List Token). r.0.1) p) in
        ap (λ xs. together new (tokens next 0 xs)) (sym further) ∙ ap (together new) (sym (tokens_skip next more cs))
        ∙ ap (λ xs. together xs (tokens next more cs)) n ∙ ap (λ x. together (out ++ ys) (tokens x more cs)) nb ∙ ap (λ x. together (out ++ ys) (tokens b x cs)) nm
        ∙ joins ys (tokens b m cs) ∙ ap (together out) (sym (ap (onward cs) k)) ∙ ap (together out) (sym (tokens_step behind c cs))

-- a step that is refused
none_of : (out : List Token) (s : Option (List Token × (Bool × ℕ))) → advanced out s ≡ None → s ≡ None
none_of out None e = refl
none_of out (Some s) e = absurd (cc)

tokens_none : (behind : Bool) (left : List ℕ) (out : List Token) → 0 < length left → advanced out (token_step behind left) ≡ None → together out (tokens behind 0 left) ≡ None
tokens_none behind [] out h e = absurd (omega arith)
tokens_none behind (c ∷ cs) out h e = ap (together out) (tokens_step behind c cs ∙ ap (onward cs) (none_of out (token_step behind (c ∷ cs)) e))

pub tokens_fail : (fault : YamlFault) (behind : Bool) (text left : List ℕ) (out : List Token) → 0 < length left →
    together out (tokens behind 0 left) ≡ tokens false 0 text → Fails fault (advanced out (token_step behind left)) → Fails fault (tokens false 0 text)
tokens_fail Bytes behind text left out h s e = e
tokens_fail Grammar behind text left out h s e = sym s ∙ tokens_none behind left out h e
tokens_fail Duplicate behind text left out h s e = e
tokens_fail OutOfMemory behind text left out h s e = tt

pub step_return : (behind : Bool) (c : ℕ) (cs text : List ℕ) (out : List Token) → text ≡ c ∷ cs → c ≡ 13 → begins_with 35 (trimmed cs) ≡ true → advanced out (token_step behind text) ≡ Some ((true, 0), out)
step_return behind c cs text out t e h =
    ap (λ xs. advanced out (token_step behind xs)) (t ∙ ap (λ x. x ∷ cs) e)
    ∙ ap (λ (b : Bool). advanced out (cond b (Some ([], (true, 0))) None)) h ∙ ap (λ xs. Some ((true, 0), xs)) (append-nil out)

-- what the code has read of a scalar
pub record WordIs (text out : List ℕ) (count : ℕ) : Type 0 where
  pub value : List ℕ
  pub is : first_word text ≡ Some (value, count)
  pub bytes : out ≡ encodes value

word_at : (text out : List ℕ) (count : ℕ) (o : Option (List ℕ × ℕ)) → first_word text ≡ o → with_text [] o ≡ Some (out, count) → WordIs text out count
word_at text out count None k e = absurd (cc)
word_at text out count (Some (v, n)) k e =
    let p : (encodes v, n) ≡ (out, count) = same_Some _ _ e in
    record { value = v; is = k ∙ ap (λ m. Some (v, m)) (ap (λ (r : List ℕ × ℕ). r.1) p); bytes = sym (ap (λ (r : List ℕ × ℕ). r.0) p) }

pub scalar_is : (text out : List ℕ) (count : ℕ) (b : Bool) → with_text [] (first_word text) ≡ Some (out, count) → IsUtf8 out →
    b ≡ (on_one_line (take count text) && (nat_le (length (chars out)) max_key && key_colon (first_quote text) (trimmed (drop count text)))) →
    word_token text ≡ Some (cond b (token.Key out, count + length (gap (drop count text))) (token.Word out, count - 1))
scalar_is text out count b e u k =
    let w = word_at text out count (first_word text) refl e in
    let same : w.value ≡ chars out = chars_from_encodes w.value out u (sym w.bytes) in
    let key : is_key (first_quote text) (take count text) w.value (drop count text) ≡ b =
    ap (λ xs. is_key (first_quote text) (take count text) xs (drop count text)) same ∙ sym k in
    ap (λ (o : Option (List ℕ × ℕ)). o >>= λ w. Some (token_of (first_quote text) text w.0 w.1)) w.is
    ∙ ap (λ (v : Bool). Some (cond v (token.Key (encodes w.value), count + length (gap (drop count text))) (token.Word (encodes w.value), count - 1))) key
    ∙ ap (λ (xs : List ℕ). Some (cond b (token.Key xs, count + length (gap (drop count text))) (token.Word xs, count - 1))) (sym w.bytes)

pub key_by : (b q : Bool) (s v r text out : List ℕ) (count : ℕ) → b ≡ (on_one_line s && (nat_le (length (chars v)) max_key && key_colon q (trimmed r))) →
    s ≡ take count text → v ≡ out → q ≡ first_quote text → r ≡ drop count text →
    b ≡ (on_one_line (take count text) && (nat_le (length (chars out)) max_key && key_colon (first_quote text) (trimmed (drop count text))))
key_by b q s v r text out count h hs hv hq hr =
    h ∙ ap (λ x. on_one_line x && (nat_le (length (chars v)) max_key && key_colon q (trimmed r))) hs
    ∙ ap (λ x. on_one_line (take count text) && (nat_le (length (chars x)) max_key && key_colon q (trimmed r))) hv
    ∙ ap (λ x. on_one_line (take count text) && (nat_le (length (chars out)) max_key && key_colon x (trimmed r))) hq
    ∙ ap (λ x. on_one_line (take count text) && (nat_le (length (chars out)) max_key && key_colon (first_quote text) (trimmed x))) hr

pub token_by : (text out v : List ℕ) (b : Bool) (n m k : ℕ) → word_token text ≡ Some (cond b (token.Key out, n) (token.Word out, m)) → b ≡ true → v ≡ out → k ≡ n → word_token text ≡ Some (token.Key v, k)
token_by text out v b n m k h t hv hk =
    h ∙ ap (λ (x : Bool). Some (cond x (token.Key out, n) (token.Word out, m))) t ∙ ap (λ (x : List ℕ). Some (token.Key x, n)) (sym hv) ∙ ap (λ (x : ℕ). Some (token.Key v, x)) (sym hk)

pub word_by : (text out v : List ℕ) (b : Bool) (n m k : ℕ) → word_token text ≡ Some (cond b (token.Key out, n) (token.Word out, m)) → b ≡ false → v ≡ out → k ≡ m → word_token text ≡ Some (token.Word v, k)
word_by text out v b n m k h t hv hk =
    h ∙ ap (λ (x : Bool). Some (cond x (token.Key out, n) (token.Word out, m))) t ∙ ap (λ (x : List ℕ). Some (token.Word x, m)) (sym hv) ∙ ap (λ (x : ℕ). Some (token.Word v, x)) (sym hk)
