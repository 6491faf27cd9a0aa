-- Keys, and values that begin on a line: the functions give what the relations say, and nothing else.
use Rattle.std.proofs.Common.{◌≡◌, ℕ, suc, ◌≤◌, List, [], ◌∷◌, ◌++◌, length, drop, Bool, true, false, refl, sym, ap, ◌∙◌, subst, cond, inl, inr, Option, Some, None, ◌==◌, ◌&&◌, ◌||◌, not, nat_le}
use Rattle.std.proofs.lemmas.Bool.{cond-true, cond-false, eqb-true, not-true, leb-true, le-leb, and_parts, and_from, or_parts}
use Rattle.std.specs.Str.{encode_utf8_all}
use Rattle.yaml_lines.specs.Line.{Line}
use Rattle.wv_yaml.specs.declared.tree.Tree.{Tree}
use Rattle.wv_yaml.specs.declared.tree.Tree.TheVariants as tree
use Rattle.yaml_scalars.specs.declared.token.Token.{Token}
use Rattle.yaml_lines.specs.Chunks.{◌>>=◌, provided}
use Rattle.yaml_lines.specs.Marks.{is_end, gap, trimmed, without_end, nothing, parted, all_quiet}
use Rattle.yaml_scalars.specs.Plain.{is_sign, plain_start, stops, cut, goes_on, plain_lines, Part}
use Rattle.yaml_lines.specs.Lines.{joined}
use Rattle.yaml_scalars.specs.Quoted.{quoted, double_step, single_step, Double, Single}
use Rattle.yaml_scalars.specs.BlockScalar.{block_scalar}
use Rattle.yaml_scalars.specs.Tokens.{max_key, tokens, is_silent}
use Rattle.wv_yaml.specs.Flow.{flow}
use Rattle.wv_yaml.specs.Inline.{colon, quoted_key, key, named, key_bytes, as_text, quoted_alone, flow_text, opens_flow, scalar, inline, KeyEnd, KeyAt, PlainKey, DoubleKey, SingleKey, KeyText, FlowText, Silent, Inline, PlainOver, PlainThen, InDouble, InSingle, Literal, Folded, InFlow}
use Rattle.yaml_lines.proofs.Parts.{chosen, bind_some, provided_some}
use Rattle.std.proofs.lemmas.Option.{same_Some}
use Rattle.yaml_lines.proofs.ChunkLaws.{gap_whole, gap_blanks, gap_again}
use Rattle.yaml_scalars.proofs.PlainLaws.{part_sound, part_complete, goes_on_sound, goes_on_complete, end_is, comment_is, quiet_sound, quiet_complete, passed}
use Rattle.yaml_scalars.proofs.QuotedLaws.{double_sound, double_complete, single_sound, single_complete}
use Rattle.yaml_scalars.proofs.ScalarLaws.{block_text_sound, block_text_complete}
use Rattle.yaml_scalars.proofs.TokenLaws.{tokens_sound, lexed_complete, no_sign}
use Rattle.yaml_scalars.proofs.FoldOut.{plain_first}
use Rattle.wv_yaml.proofs.FlowLaws.{flow_sound, flow_complete}

-- a colon
pub record Colon (name xs : List ℕ) (q : List ℕ × List ℕ) : Type 0 where
  pub whole : xs ≡ 58 ∷ q.1
  pub apart : parted q.1 ≡ true
  pub short : length name ≤ max_key
  pub name_is : name ≡ q.0

colon_sound : (name xs : List ℕ) (q : List ℕ × List ℕ) → colon name xs ≡ Some q → Colon name xs q
colon_sound name [] q e = absurd (cc)
colon_sound name (c ∷ cs) q e =
    let p : (((c == 58) && (parted cs && nat_le (length name) max_key)) ≡ true) × (Some (name, cs) ≡ Some q) = provided_some _ _ q e in
    let same : (name, cs) ≡ q = same_Some _ _ p.1 in
    let both = and_parts _ _ p.0 in
    let more = and_parts _ _ both.1 in
    subst (Colon name (c ∷ cs)) same (record { whole = ap (λ x. x ∷ cs) (eqb-true c 58 both.0); apart = more.0; short = leb-true (length name) max_key more.1; name_is = refl })

colon_back : (name rest : List ℕ) → parted rest ≡ true → length name ≤ max_key → colon name (58 ∷ rest) ≡ Some (name, rest)
colon_back name rest p s = passed (parted rest && nat_le (length name) max_key) (name, rest) (and_from _ _ p (le-leb _ _ s))

key_end : (name xs : List ℕ) (q : List ℕ × List ℕ) → Colon name (trimmed xs) q → (xs ≡ gap xs ++ (58 ∷ q.1)) × KeyEnd q.0 (gap xs) q.1
key_end name xs q c =
    (gap_whole xs ∙ ap (λ ys. gap xs ++ ys) c.whole, record { blanks = (gap_blanks xs).0; apart = c.apart; short = subst (λ ys. length ys ≤ max_key) c.name_is c.short })

key_sound : (text : List ℕ) (k : List ℕ × List ℕ) → key text ≡ Some k → KeyAt text k.0 k.1
key_sound [] k e = absurd (cc)
key_sound (c ∷ cs) k e =
    elim (chosen (c == 34) _ _ (Some k) e) [
      | inl h ↦
          let r = bind_some (quoted double_step 0 cs) _ k h.1 in
          let col = colon_sound r.0.0 (trimmed (drop r.0.1 cs)) k r.2 in
          let z = key_end r.0.0 (drop r.0.1 cs) k col in
          let d : Double cs k.0 (gap (drop r.0.1 cs) ++ (58 ∷ k.1)) = subst (λ v. Double cs v (gap (drop r.0.1 cs) ++ (58 ∷ k.1))) col.name_is (subst (λ xs. Double cs r.0.0 xs) z.0 (double_sound cs r.0 r.1)) in
          subst (λ x. KeyAt (x ∷ cs) k.0 k.1) (sym (eqb-true c 34 h.0)) (DoubleKey cs k.0 (gap (drop r.0.1 cs)) k.1 d z.1)
      | inr h ↦ elim (chosen (c == 39) _ _ (Some k) h.1) [
        | inl g ↦
            let r = bind_some (quoted single_step 0 cs) _ k g.1 in
            let col = colon_sound r.0.0 (trimmed (drop r.0.1 cs)) k r.2 in
            let z = key_end r.0.0 (drop r.0.1 cs) k col in
            let d : Single cs k.0 (gap (drop r.0.1 cs) ++ (58 ∷ k.1)) = subst (λ v. Single cs v (gap (drop r.0.1 cs) ++ (58 ∷ k.1))) col.name_is (subst (λ xs. Single cs r.0.0 xs) z.0 (single_sound cs r.0 r.1)) in
            subst (λ x. KeyAt (x ∷ cs) k.0 k.1) (sym (eqb-true c 39 g.0)) (SingleKey cs k.0 (gap (drop r.0.1 cs)) k.1 d z.1)
        | inr g ↦
            let text : List ℕ = c ∷ cs in
            let p = provided_some (plain_start parted text) (colon (without_end (cut stops false text).0) (cut stops false text).1) k g.1 in
            let col = colon_sound (without_end (cut stops false text).0) (cut stops false text).1 k p.1 in
            let part : Part stops text k.0 (58 ∷ k.1) = subst (λ v. Part stops text v (58 ∷ k.1)) col.name_is (subst (λ xs. Part stops text (without_end (cut stops false text).0) xs) col.whole (part_sound stops text)) in
            PlainKey text k.0 k.1 p.0 part (record { blanks = tt; apart = col.apart; short = subst (λ ys. length ys ≤ max_key) col.name_is col.short })
      ]
    ]

-- the first character of a plain scalar
pub first_plain : (c : ℕ) (cs : List ℕ) → plain_start parted (c ∷ cs) ≡ true → is_sign c ≡ false
first_plain c cs e = (or_parts _ _ (not-true _ (and_parts _ _ e).0)).0

quoted_back : (step_of : List ℕ → Option (List ℕ × ℕ)) (inner name gap_of rest : List ℕ) (n : ℕ) → step_of inner ≡ Some (name, n) → drop n inner ≡ gap_of ++ (58 ∷ rest) → KeyEnd name gap_of rest →
    quoted_key step_of inner ≡ Some (name, rest)
quoted_back step_of inner name gap_of rest n e d k =
    ap (λ (o : Option (List ℕ × ℕ)). o >>= λ r. colon r.0 (trimmed (drop r.1 inner))) e ∙ ap (λ xs. colon name (trimmed xs)) d
    ∙ ap (colon name) (gap_again gap_of (58 ∷ rest) k.blanks refl).1 ∙ colon_back name rest k.apart k.short

key_complete : (text name rest : List ℕ) → KeyAt text name rest → key text ≡ Some (name, rest)
key_complete _ _ _ (PlainKey [] name rest s p k) = absurd (cc)
key_complete _ _ _ (PlainKey (c ∷ cs) name rest s p k) =
    let sign = first_plain c cs s in
    let w = part_complete stops (c ∷ cs) name (58 ∷ rest) p in
    cond-false (c == 34) _ _ (no_sign c 34 refl sign) ∙ cond-false (c == 39) _ _ (no_sign c 39 refl sign)
    ∙ ap (λ b. provided b (colon (without_end (cut stops false (c ∷ cs)).0) (cut stops false (c ∷ cs)).1)) s
    ∙ ap (λ v. colon v (cut stops false (c ∷ cs)).1) w.0 ∙ ap (colon name) w.1 ∙ colon_back name rest k.apart k.short
key_complete _ _ _ (DoubleKey inner name g rest d k) =
    let f = double_complete inner name (g ++ (58 ∷ rest)) d in quoted_back (quoted double_step 0) inner name g rest f.count f.is f.left k
key_complete _ _ _ (SingleKey inner name g rest d k) =
    let f = single_complete inner name (g ++ (58 ∷ rest)) d in quoted_back (quoted single_step 0) inner name g rest f.count f.is f.left k

pub key_text_sound : (text : List ℕ) (k : List ℕ × List ℕ) → key_bytes text ≡ Some k → KeyText text k.0 k.1
key_text_sound text k e =
    let r = bind_some (key text) _ k e in
    let same : (encode_utf8_all r.0.0, r.0.1) ≡ k = same_Some _ _ r.2 in
    subst (λ (q : List ℕ × List ℕ). KeyText text q.0 q.1) same (r.0.0, key_sound text r.0 r.1, refl)

pub key_text_complete : (text name rest : List ℕ) → KeyText text name rest → key_bytes text ≡ Some (name, rest)
key_text_complete text name rest k = ap named (key_complete text k.0 rest k.1) ∙ ap (λ (xs : List ℕ). Some (xs, rest)) (sym k.2)

-- flow collections
pub flow_text_sound : (d : ℕ) (text : List ℕ) (t : Tree) → flow_text d text ≡ Some t → FlowText d text t
flow_text_sound d text t e =
    let ts = bind_some (tokens false 0 text) _ t e in
    (ts.0, tokens_sound false text ts.0 ts.1, flow_sound d ts.0 t ts.2)

pub flow_text_complete : (d : ℕ) (text : List ℕ) (t : Tree) → FlowText d text t → flow_text d text ≡ Some t
flow_text_complete d text t h = ap (λ (o : Option (List Token)). o >>= λ ts. flow d ts) (lexed_complete false text h.0 h.1) ∙ flow_complete d h.0 t h.2

silent_sound : (text : List ℕ) → is_silent text ≡ true → Silent text
silent_sound text e = at (tokens false 0 text) refl e
  where
    at : (o : Option (List Token)) → tokens false 0 text ≡ o → elim o [ None ↦ false | Some ts ↦ is_end ts ] ≡ true → Silent text
    at None f g = absurd (cc)
    at (Some ts) f g = tokens_sound false text [] (f ∙ ap Some (end_is ts g))

silent_complete : (text : List ℕ) → Silent text → is_silent text ≡ true
silent_complete text h = ap (λ (o : Option (List Token)). elim o [ None ↦ false | Some ts ↦ is_end ts ]) (lexed_complete false text [] h)

-- values
plain_sound : (d : ℕ) (here : Bool) (n : ℕ) (text : List ℕ) (body : List Line) (v : List ℕ) → plain_lines n text body ≡ Some v → Inline d here n body text (tree.Text (encode_utf8_all v))
plain_sound d here n text body v e = at (plain_start parted text) refl e
  where
    part : Part stops text (without_end (cut stops false text).0) (cut stops false text).1
    part = part_sound stops text

    ends : plain_start parted text ≡ true →
        cond (is_end (cut stops false text).1) (goes_on n 0 body >>= λ more. Some (without_end (cut stops false text).0 ++ more)) (provided (nothing (cut stops false text).1 && all_quiet body) (Some (without_end (cut stops false text).0))) ≡ Some v →
        Inline d here n body text (tree.Text (encode_utf8_all v))
    ends s f =
        elim (chosen (is_end (cut stops false text).1) _ _ (Some v) f) [
          | inl g ↦
              let more = bind_some (goes_on n 0 body) _ v g.1 in
              subst (λ xs. Inline d here n body text (tree.Text (encode_utf8_all xs))) (same_Some _ _ more.2)
              (PlainOver text (without_end (cut stops false text).0) more.0 s (subst (λ r. Part stops text (without_end (cut stops false text).0) r) (end_is _ g.0) part) (goes_on_sound n [] body more.0 tt more.1))
          | inr g ↦
              let p = provided_some (nothing (cut stops false text).1 && all_quiet body) (Some (without_end (cut stops false text).0)) v g.1 in
              let both = and_parts _ _ p.0 in
              let comment = comment_is (cut stops false text).1 g.0 both.0 in
              subst (λ xs. Inline d here n body text (tree.Text (encode_utf8_all xs))) (same_Some _ _ p.1)
              (PlainThen text (without_end (cut stops false text).0) comment.0 s (subst (λ r. Part stops text (without_end (cut stops false text).0) r) comment.1 part) (quiet_sound body both.1))
        ]

    at : (b : Bool) → plain_start parted text ≡ b →
        cond (not b) None (cond (is_end (cut stops false text).1) (goes_on n 0 body >>= λ more. Some (without_end (cut stops false text).0 ++ more)) (provided (nothing (cut stops false text).1 && all_quiet body) (Some (without_end (cut stops false text).0)))) ≡ Some v →
        Inline d here n body text (tree.Text (encode_utf8_all v))
    at true s f = ends s f
    at false s f = absurd (cc)

scalar_sound : (d : ℕ) (here : Bool) (n : ℕ) (text : List ℕ) (body : List Line) (v : List ℕ) → scalar here n text body ≡ Some v → Inline d here n body text (tree.Text (encode_utf8_all v))
scalar_sound d here n [] body v e = absurd (cc)
scalar_sound d here n (c ∷ cs) body v e =
    elim (chosen (c == 34) _ _ (Some v) e) [
      | inl h ↦
          let r = bind_some (quoted double_step 0 (joined (suc n) cs body)) _ v h.1 in
          let p = provided_some (is_silent (drop r.0.1 (joined (suc n) cs body))) (Some r.0.0) v r.2 in
          let one : Inline d here n body (34 ∷ cs) (tree.Text (encode_utf8_all r.0.0)) = InDouble cs r.0.0 (drop r.0.1 (joined (suc n) cs body)) (double_sound (joined (suc n) cs body) r.0 r.1) (silent_sound _ p.0) in
          subst (λ xs. Inline d here n body (c ∷ cs) (tree.Text (encode_utf8_all xs))) (same_Some r.0.0 v p.1) (subst (λ x. Inline d here n body (x ∷ cs) (tree.Text (encode_utf8_all r.0.0))) (sym (eqb-true c 34 h.0)) one)
      | inr h ↦ elim (chosen (c == 39) _ _ (Some v) h.1) [
        | inl g ↦
            let r = bind_some (quoted single_step 0 (joined (suc n) cs body)) _ v g.1 in
            let p = provided_some (is_silent (drop r.0.1 (joined (suc n) cs body))) (Some r.0.0) v r.2 in
            let one : Inline d here n body (39 ∷ cs) (tree.Text (encode_utf8_all r.0.0)) = InSingle cs r.0.0 (drop r.0.1 (joined (suc n) cs body)) (single_sound (joined (suc n) cs body) r.0 r.1) (silent_sound _ p.0) in
            subst (λ xs. Inline d here n body (c ∷ cs) (tree.Text (encode_utf8_all xs))) (same_Some r.0.0 v p.1) (subst (λ x. Inline d here n body (x ∷ cs) (tree.Text (encode_utf8_all r.0.0))) (sym (eqb-true c 39 g.0)) one)
        | inr g ↦ elim (chosen ((c == 124) || (c == 62)) _ _ (Some v) g.1) [
          | inl w ↦ elim (chosen here _ _ (Some v) w.1) [ inl y ↦ block (c == 62) refl w.0 y.0 y.1 | inr y ↦ absurd (cc) ]
          | inr w ↦ plain_sound d here n (c ∷ cs) body v w.1
        ]
      ]
    ]
  where
    block : (b : Bool) → (c == 62) ≡ b → ((c == 124) || (c == 62)) ≡ true → here ≡ true → block_scalar (c == 62) n cs body ≡ Some v → Inline d here n body (c ∷ cs) (tree.Text (encode_utf8_all v))
    block true f g h s =
        subst (λ x. Inline d here n body (x ∷ cs) (tree.Text (encode_utf8_all v))) (sym (eqb-true c 62 f))
        (Folded cs v h (block_text_sound true n cs body v (ap (λ b. block_scalar b n cs body) (sym f) ∙ s)))
    block false f g h s =
        let other : (c == 124) ≡ true = sym (ap (λ b. (c == 124) || b) f ∙ or_no (c == 124)) ∙ g in
        subst (λ x. Inline d here n body (x ∷ cs) (tree.Text (encode_utf8_all v))) (sym (eqb-true c 124 other))
        (Literal cs v h (block_text_sound false n cs body v (ap (λ b. block_scalar b n cs body) (sym f) ∙ s)))
      where
        or_no : (b : Bool) → (b || false) ≡ b
        or_no true = refl
        or_no false = refl

pub inline_sound : (d : ℕ) (here : Bool) (n : ℕ) (text : List ℕ) (body : List Line) (t : Tree) → inline d here n text body ≡ Some t → Inline d here n body text t
inline_sound d here n [] body t e = absurd (cc)
inline_sound d here n (c ∷ cs) body t e =
    elim (chosen (opens_flow c) _ _ (Some t) e) [
      | inl h ↦ InFlow c cs t h.0 (flow_text_sound d (joined (suc n) (c ∷ cs) body) t h.1)
      | inr h ↦
          let v = bind_some (scalar here n (c ∷ cs) body) _ t h.1 in
          subst (Inline d here n body (c ∷ cs)) (same_Some (tree.Text (encode_utf8_all v.0)) t v.2) (scalar_sound d here n (c ∷ cs) body v.0 v.1)
    ]

-- a plain scalar's first character leads to it
plain_way : (d : ℕ) (here : Bool) (n c : ℕ) (cs : List ℕ) (body : List Line) → is_sign c ≡ false → inline d here n (c ∷ cs) body ≡ as_text (plain_lines n (c ∷ cs) body)
plain_way d here n c cs body s =
    rw (no_sign c 91 refl s, no_sign c 123 refl s, no_sign c 34 refl s, no_sign c 39 refl s, no_sign c 124 refl s, no_sign c 62 refl s) refl

alone_back : (inside : List ℕ → Option (List ℕ × ℕ)) (text value rest : List ℕ) (n : ℕ) → inside text ≡ Some (value, n) → drop n text ≡ rest → Silent rest → quoted_alone inside text ≡ Some value
alone_back inside text value rest n e d s =
    ap (λ (o : Option (List ℕ × ℕ)). o >>= λ r. provided (is_silent (drop r.1 text)) (Some r.0)) e ∙ passed (is_silent (drop n text)) value (ap is_silent d ∙ silent_complete rest s)

pub inline_complete : (d : ℕ) (here : Bool) (n : ℕ) (text : List ℕ) (body : List Line) (t : Tree) → Inline d here n body text t → inline d here n text body ≡ Some t
inline_complete d here n _ body _ (PlainOver [] value more s p c) = absurd (cc)
inline_complete d here n _ body _ (PlainOver (x ∷ xs) value more s p c) =
    let w = part_complete stops (x ∷ xs) value [] p in
    plain_way d here n x xs body (first_plain x xs s)
    ∙ ap as_text (plain_first n (x ∷ xs) body s ∙ cond-true (is_end (cut stops false (x ∷ xs)).1) _ _ (ap is_end w.1)
    ∙ ap (λ (o : Option (List ℕ)). o >>= λ ys. Some (without_end (cut stops false (x ∷ xs)).0 ++ ys)) (goes_on_complete n body more c) ∙ ap (λ v. Some (v ++ more)) w.0)
inline_complete d here n _ body _ (PlainThen [] value comment s p q) = absurd (cc)
inline_complete d here n _ body _ (PlainThen (x ∷ xs) value comment s p q) =
    let w = part_complete stops (x ∷ xs) value (35 ∷ comment) p in
    plain_way d here n x xs body (first_plain x xs s)
    ∙ ap as_text (plain_first n (x ∷ xs) body s ∙ cond-false (is_end (cut stops false (x ∷ xs)).1) _ _ (ap is_end w.1)
    ∙ passed (nothing (cut stops false (x ∷ xs)).1 && all_quiet body) (without_end (cut stops false (x ∷ xs)).0) (and_from _ _ (ap nothing w.1) (quiet_complete body q)) ∙ ap Some w.0)
inline_complete d here n _ body _ (InDouble inner value rest q s) =
    let f = double_complete (joined (suc n) inner body) value rest q in ap as_text (alone_back (quoted double_step 0) (joined (suc n) inner body) value rest f.count f.is f.left s)
inline_complete d here n _ body _ (InSingle inner value rest q s) =
    let f = single_complete (joined (suc n) inner body) value rest q in ap as_text (alone_back (quoted single_step 0) (joined (suc n) inner body) value rest f.count f.is f.left s)
inline_complete d here n _ body _ (Literal header value h b) = ap as_text (cond-true here _ _ h ∙ block_text_complete false n header body value b)
inline_complete d here n _ body _ (Folded header value h b) = ap as_text (cond-true here _ _ h ∙ block_text_complete true n header body value b)
inline_complete d here n _ body _ (InFlow c cs t o f) = cond-true (opens_flow c) _ _ o ∙ flow_text_complete d (joined (suc n) (c ∷ cs) body) t f
