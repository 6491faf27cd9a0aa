-- The parts of a flow collection one by one.
use Rattle.std.proofs.Common.{◌≡◌, ℕ, zero, suc, ◌+◌, ◌-◌, ◌<◌, List, [], ◌∷◌, ◌++◌, length, take, drop, get_or, Bool, true, false, refl, sym, ap, ◌∙◌, cond, append_assoc, Option, Some, None, arith, IsTrue, drop-cons, le_refl, ◌&&◌, ◌==◌}
use Rattle.std.proofs.lemmas.List.{take_more, take_all}
use Rattle.yaml_scalars.specs.declared.token.Token.{Token}
use Rattle.yaml_scalars.specs.declared.token.Token.TheVariants as token
use Rattle.yaml_lines.specs.Chunks.{◌>>=◌, provided, collected}
use Rattle.yaml_lines.specs.Marks.{is_end}
use Rattle.wv_yaml.specs.Flow.{is_comma, open_after, new_part, to_part, parts, without_empty_last, entries_of, before_last, flow, flow_value, flow_pair, as_list, as_map, closes_list, closes_map}
use Rattle.yaml_scalars.proofs.TokenSteps.{together}

pub together_step : {Y : Type 0} (ys : List Y) (y : Y) (o : Option (List Y)) → together (ys ++ y ∷ []) o ≡ together ys (o >>= λ more. Some (y ∷ more))
together_step ys y None = refl
together_step ys y (Some more) = ap Some (append_assoc ys (y ∷ []) more)

-- a part that no comma follows is not empty
last_part : (t : Token) (ts : List Token) → (parts 0 (t ∷ ts)).1 ≡ [] → is_end (parts 0 (t ∷ ts)).0 ≡ false
last_part t ts e = at_comma (is_comma t && (0 == 0)) e
  where
    at_comma : (b : Bool) → (cond b (new_part (parts 0 ts)) (to_part t (parts (open_after 0 t) ts))).1 ≡ [] → is_end (cond b (new_part (parts 0 ts)) (to_part t (parts (open_after 0 t) ts))).0 ≡ false
    at_comma true h = absurd (cc)
    at_comma false h = refl

-- the parts behind a comma
pub after_comma : (p : List Token) (rest : List Token) → without_empty_last p ((parts 0 rest).0 ∷ (parts 0 rest).1) ≡ p ∷ entries_of rest
after_comma p [] = refl
after_comma p (t ∷ ts) = at_parts (parts 0 (t ∷ ts)) refl
  where
    some : (r : List Token × List (List Token)) → parts 0 (t ∷ ts) ≡ r → r.1 ≡ [] → is_end r.0 ≡ false
    some r e h = ap (λ (q : List Token × List (List Token)). is_end q.0) (sym e) ∙ last_part t ts (ap (λ (q : List Token × List (List Token)). q.1) e ∙ h)

    at_parts : (r : List Token × List (List Token)) → parts 0 (t ∷ ts) ≡ r → without_empty_last p (r.0 ∷ r.1) ≡ p ∷ without_empty_last r.0 r.1
    at_parts (q, []) e = cond-last
      where
        cond-last : cond (is_end q) (p ∷ []) (p ∷ q ∷ []) ≡ p ∷ q ∷ []
        cond-last = ap (λ b. cond b (p ∷ []) (p ∷ q ∷ [])) (some (q, []) e refl)
    at_parts (q, r ∷ rs) e = refl

entries_by : (ts : List Token) → 0 < length ts → entries_of ts ≡ without_empty_last (parts 0 ts).0 (parts 0 ts).1
entries_by [] h = absurd (omega arith)
entries_by (t ∷ ts) h = refl

pub entries_next : (left : List Token) (len : ℕ) → len < length left → take len left ≡ (parts 0 left).0 →
    (parts 0 left).1 ≡ (parts 0 (drop (len + 1) left)).0 ∷ (parts 0 (drop (len + 1) left)).1 → entries_of left ≡ take len left ∷ entries_of (drop (len + 1) left)
entries_next left len h f o =
    let lt : 0 < length left = omega arith in
    entries_by left lt ∙ ap (without_empty_last (parts 0 left).0) o ∙ ap (λ q. without_empty_last q ((parts 0 (drop (len + 1) left)).0 ∷ (parts 0 (drop (len + 1) left)).1)) (sym f)
    ∙ after_comma (take len left) (drop (len + 1) left)

pub flow_next : {Y : Type 0} (f : List Token → Option Y) (left part more : List Token) (len : ℕ) (ys new : List Y) (y : Y) → len < length left → take len left ≡ (parts 0 left).0 →
    (parts 0 left).1 ≡ (parts 0 (drop (len + 1) left)).0 ∷ (parts 0 (drop (len + 1) left)).1 → part ≡ take len left → more ≡ drop (len + 1) left → f part ≡ Some y → new ≡ ys ++ y ∷ [] →
    together new (collected f (entries_of more)) ≡ together ys (collected f (entries_of left))
flow_next {Y} f left part more len ys new y h t o p m g n =
    let rest : Option (List Y) = collected f (entries_of (drop (len + 1) left)) in
    ap (λ xs. together new (collected f (entries_of xs))) m ∙ ap (λ xs. together xs rest) n ∙ together_step ys y rest
    ∙ ap (together ys) (sym (ap (collected f) (entries_next left len h t o) ∙ ap (λ (o1 : Option Y). o1 >>= λ y1. rest >>= λ ys1. Some (y1 ∷ ys1)) (ap f (sym p) ∙ g)))

-- a closing token at the end
before_append : (closes : Token → Bool) (xs : List Token) (t : Token) → before_last closes (xs ++ t ∷ []) ≡ provided (closes t) (Some xs)
before_append closes [] t = refl
before_append closes (x ∷ xs) t = more xs (before_append closes xs t)
  where
    passed : (b : Bool) (ys : List Token) → (provided b (Some ys) >>= λ front. Some (x ∷ front)) ≡ provided b (Some (x ∷ ys))
    passed true ys = refl
    passed false ys = refl

    more : (ys : List Token) → before_last closes (ys ++ t ∷ []) ≡ provided (closes t) (Some ys) → before_last closes (x ∷ (ys ++ t ∷ [])) ≡ provided (closes t) (Some (x ∷ ys))
    more [] h = passed (closes t) []
    more (y ∷ ys) h = ap (λ (o : Option (List Token)). o >>= λ front. Some (x ∷ front)) h ∙ passed (closes t) (y ∷ ys)

ends_with : (ts : List Token) (t : Token) → 0 < length ts → t ≡ get_or ts (length ts - 1) t → ts ≡ take (length ts - 1) ts ++ t ∷ []
ends_with ts t h is =
    let n : ℕ = length ts - 1 in
    let lt : length ts - 1 < length ts = omega arith in
    let one : length ts ≡ length ts - 1 + 1 = omega arith in
    sym (take_all (length ts) ts (le_refl (length ts))) ∙ ap (λ k. take k ts) one ∙ take_more ts (length ts - 1) t lt ∙ ap (λ x. take (length ts - 1) ts ++ x ∷ []) (sym is)

pub closed_is : (closes : Token → Bool) (ts : List Token) (t : Token) (b : Bool) → 0 < length ts → t ≡ get_or ts (length ts - 1) t → closes t ≡ b →
    before_last closes ts ≡ provided b (Some (take (length ts - 1) ts))
closed_is closes ts t b h is e =
    ap (before_last closes) (ends_with ts t h is) ∙ before_append closes (take (length ts - 1) ts) t ∙ ap (λ v. provided v (Some (take (length ts - 1) ts))) e

-- a list and a map by their tokens
pub flow_list_is : (d : ℕ) (ts rest inner : List Token) → 0 < d → ts ≡ token.OpenList ∷ rest → before_last closes_list rest ≡ Some inner →
    flow d ts ≡ as_list (collected (flow (d - 1)) (entries_of inner))
unfolding flow
flow_list_is zero ts rest inner h t e = absurd (omega arith)
flow_list_is (suc d) ts rest inner h t e =
    let same : d ≡ suc d - 1 = omega arith in
    ap (flow_value (flow d)) t ∙ ap (λ (o : Option (List Token)). o >>= λ xs. as_list (collected (flow d) (entries_of xs))) e
    ∙ ap (λ k. as_list (collected (flow k) (entries_of inner))) same

pub flow_map_is : (d : ℕ) (ts rest inner : List Token) → 0 < d → ts ≡ token.OpenMap ∷ rest → before_last closes_map rest ≡ Some inner →
    flow d ts ≡ as_map (collected (flow_pair (flow (d - 1))) (entries_of inner))
unfolding flow
flow_map_is zero ts rest inner h t e = absurd (omega arith)
flow_map_is (suc d) ts rest inner h t e =
    let same : d ≡ suc d - 1 = omega arith in
    ap (flow_value (flow d)) t ∙ ap (λ (o : Option (List Token)). o >>= λ xs. as_map (collected (flow_pair (flow d)) (entries_of xs))) e
    ∙ ap (λ k. as_map (collected (flow_pair (flow k)) (entries_of inner))) same

pub true_is : (b : Bool) → IsTrue b → b ≡ true
true_is b h = h

pub opens_with : (ts rest : List Token) (t u : Token) → 0 < length ts → t ≡ get_or ts 0 t → rest ≡ drop 1 ts → t ≡ u → ts ≡ u ∷ rest
opens_with ts rest t u h is r e = drop-cons ts 0 t h ∙ ap (λ x. x ∷ drop 1 ts) (sym is) ∙ ap (λ xs. t ∷ xs) (sym r) ∙ ap (λ x. x ∷ rest) e
