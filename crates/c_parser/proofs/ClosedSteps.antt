-- The tokens before a semicolon, pair by pair, and the name among them, token by token.
use Rattle.std.proofs.Common.{◌≡◌, ℕ, zero, suc, nat_lt, if◌then◌else◌, ◌-◌, ◌<◌, ◌++◌, Bool, true, false, List, [], ◌∷◌, length, take, drop, Option, Some, None, refl, sym, ap, ◌∙◌, append_assoc, arith, length-append}
use Rattle.c_core.specs.declared.number.Spot.{Spot}
use Rattle.c_tokens.specs.declared.token.Token.{Token}
use Rattle.c_tokens.specs.declared.token.TokenKind.{TokenKind}
use Rattle.c_tokens.specs.declared.token.TokenKind.TheVariants as kind
use Rattle.c_tokens.specs.declared.token.Punct.{Punct}
use Rattle.c_tokens.specs.declared.token.Punct.TheVariants as sign
use Rattle.c_parser.specs.Signs.{◌>>=◌, is_sign, sign_at, word_at, sign_of, word_of, place}
use Rattle.c_parser.specs.Brackets.{NoBracket, Opening, bracket, bracket_of, stacked, skipped, behind}
use Rattle.c_parser.specs.ReadExpressions.{Read}
use Rattle.c_parser.specs.Items.{depth_behind, outside, closed_word, or_later, closed_name}
use Rattle.c_parser.specs.ReadItems.{to_semicolon}
use Rattle.c_parser.proofs.ReadLaws.{bind_some}

-- these tokens stand before
abbrev pub ahead : List Token → Read (List Token) → Read (List Token)
ahead front o = o >>= λ r. Some (front ++ r.0, r.1)

pub ahead_more : (front mid : List Token) (o : Read (List Token)) → ahead front (ahead mid o) ≡ ahead (front ++ mid) o
ahead_more front mid None = refl
ahead_more front mid (Some r) = ap (λ (ts : List Token). Some (ts, r.1)) (sym (append_assoc front mid r.0))

ahead_none : (o : Read (List Token)) → o ≡ ahead [] o
ahead_none None = refl
ahead_none (Some r) = refl

pub plain_here : (b : ℕ) (t : Token) (ts : List Token) → is_sign sign.Semicolon (t ∷ ts) ≡ false → bracket_of (sign_of t.kind) ≡ NoBracket → to_semicolon b [] (t ∷ ts) ≡ ahead (t ∷ []) (to_semicolon b [] ts)
plain_here b t ts e f = rw (to_semicolon, e, f) refl

record Passing (b : ℕ) (stack : List Punct) (ts end : List Token) : Type 0 where
  pub mid : List Token
  pub whole : ts ≡ mid ++ end
  pub same : to_semicolon b stack ts ≡ ahead mid (to_semicolon b [] end)

turn : (b : ℕ) (c : Punct) (stack s : List Punct) (t : Token) (ts : List Token) → stacked b (c ∷ stack) (bracket t) ≡ Some s → to_semicolon b (c ∷ stack) (t ∷ ts) ≡ ahead (t ∷ []) (to_semicolon b s ts)
turn b c stack s t ts e = rw e refl

passing : (b : ℕ) (stack : List Punct) (ts end : List Token) → skipped b stack ts ≡ Some end → Passing b stack ts end
passing b [] ts end e = let f : ts ≡ end = cc in record { mid = []; whole = f; same = ap (to_semicolon b []) f ∙ ahead_none (to_semicolon b [] end) }
passing b (c ∷ stack) [] end e = absurd (cc)
passing b (c ∷ stack) (t ∷ ts) end e =
    let h = bind_some (stacked b (c ∷ stack) (bracket t)) (λ (s : List Punct). skipped b s ts) end e in
    let p = passing b h.0 ts end h.2 in
    record {
      mid = t ∷ p.mid;
      whole = ap (λ (us : List Token). t ∷ us) p.whole;
      same = turn b c stack h.0 t ts h.1 ∙ ap (ahead (t ∷ [])) p.same ∙ ahead_more (t ∷ []) p.mid (to_semicolon b [] end);
    }

stopping : (b : ℕ) (c : Punct) (stack : List Punct) (ts : List Token) → skipped b (c ∷ stack) ts ≡ None → to_semicolon b (c ∷ stack) ts ≡ None
stopping b c stack [] e = refl
stopping b c stack (t ∷ ts) e = step (stacked b (c ∷ stack) (bracket t)) (λ (d : Punct) (s : List Punct). stopping b d s ts) e
  where
    step : (o : Option (List Punct)) → ((d : Punct) (s : List Punct) → skipped b (d ∷ s) ts ≡ None → to_semicolon b (d ∷ s) ts ≡ None) →
        (o >>= λ (s : List Punct). skipped b s ts) ≡ None → (o >>= λ (s : List Punct). ahead (t ∷ []) (to_semicolon b s ts)) ≡ None
    step None again f = refl
    step (Some []) again f = absurd (cc)
    step (Some (d ∷ s)) again f = rw (again d s f) refl

pub pair_here : (b : ℕ) (c : Punct) (t : Token) (ts end : List Token) → is_sign sign.Semicolon (t ∷ ts) ≡ false → bracket_of (sign_of t.kind) ≡ Opening c → behind b c ts ≡ Some end →
    (mid : List Token) × (t ∷ ts ≡ mid ++ end) × (to_semicolon b [] (t ∷ ts) ≡ ahead mid (to_semicolon b [] end))
pair_here b c t ts end e f g =
    elim (nat_lt 0 b) as (λ (v : Bool). nat_lt 0 b ≡ v → (if v then skipped b (c ∷ []) ts else None) ≡ Some end → (mid : List Token) × (t ∷ ts ≡ mid ++ end) × (to_semicolon b [] (t ∷ ts) ≡ ahead mid (to_semicolon b [] end))) [
      | true ↦ (λ l h.
          let p = passing b (c ∷ []) ts end h in
          (t ∷ p.mid, ap (λ (us : List Token). t ∷ us) p.whole, rw (to_semicolon, e, f, l, p.same) (ahead_more (t ∷ []) p.mid (to_semicolon b [] end))))
      | false ↦ (λ l h. absurd (let k : None ≡ Some end = h in cc))
    ] refl g

pub pair_none : (b : ℕ) (c : Punct) (t : Token) (ts : List Token) → is_sign sign.Semicolon (t ∷ ts) ≡ false → bracket_of (sign_of t.kind) ≡ Opening c → behind b c ts ≡ None → to_semicolon b [] (t ∷ ts) ≡ None
pair_none b c t ts e f g =
    elim (nat_lt 0 b) as (λ (v : Bool). nat_lt 0 b ≡ v → (if v then skipped b (c ∷ []) ts else None) ≡ None → to_semicolon b [] (t ∷ ts) ≡ None) [
      | true ↦ (λ l h. rw (to_semicolon, e, f, l, stopping b c [] ts h) refl)
      | false ↦ (λ l h. rw (to_semicolon, e, f, l) refl)
    ] refl g

pub front_is : (front rest : List Token) → take (length (front ++ rest) - length rest) (front ++ rest) ≡ front
front_is front rest = ap (λ (n : ℕ). take n (front ++ rest)) (omega (arith, length-append front rest)) ∙ taken front rest
  where
    taken : (front rest : List Token) → take (length front) (front ++ rest) ≡ front
    taken [] rest = refl
    taken (t ∷ front) rest = ap (λ (us : List Token). t ∷ us) (taken front rest)

-- The name.

same_head : (s : Punct) (ts : List Token) → is_sign s (outside 0 ts) ≡ is_sign s ts
same_head s [] = refl
same_head s (t ∷ ts) = refl

no_word : (b : Bool) → closed_word b None ≡ None
no_word true = refl
no_word false = refl

or_first : (o : Option (List ℕ)) (p : Spot) (later : Option (List ℕ × Spot)) (n : List ℕ × Spot) → or_later o p None ≡ Some n → or_later o p later ≡ Some n
or_first None p later n e = absurd (cc)
or_first (Some w) p later n e = e

or_second : (o : Option (List ℕ)) (p : Spot) (later : Option (List ℕ × Spot)) → or_later o p None ≡ None → or_later o p later ≡ later
or_second None p later e = refl
or_second (Some w) p later e = absurd (cc)

-- a token after which a name may be told by the next one alone
next_tells : (k : TokenKind) (ts : List Token) → closed_word (is_sign sign.ParenOpen (outside (depth_behind 0 (bracket_of (sign_of k))) ts)) (word_of k) ≡ closed_word (is_sign sign.ParenOpen ts) (word_of k)
next_tells (kind.Word w) ts = ap (λ (b : Bool). closed_word b (Some w)) (same_head sign.ParenOpen ts)
next_tells (kind.Number v d u l) ts = no_word _ ∙ sym (no_word _)
next_tells (kind.Char v) ts = no_word _ ∙ sym (no_word _)
next_tells kind.Str ts = no_word _ ∙ sym (no_word _)
next_tells (kind.Punct s) ts = no_word _ ∙ sym (no_word _)

abbrev pub told : List Token → Option (List ℕ × Spot)
told ts = or_later (closed_word (is_sign sign.ParenOpen (drop 1 ts)) (word_at ts)) (place ts) None

pub name_found : (t : Token) (ts : List Token) (n : List ℕ × Spot) → told (t ∷ ts) ≡ Some n → closed_name (outside 0 (t ∷ ts)) ≡ Some n
name_found t ts n e =
    ap (λ (o : Option (List ℕ)). or_later o t.spot (closed_name (outside (depth_behind 0 (bracket_of (sign_of t.kind))) ts))) (next_tells t.kind ts) ∙ or_first _ t.spot _ n e

pub name_later : (t : Token) (ts : List Token) → told (t ∷ ts) ≡ None → closed_name (outside 0 (t ∷ ts)) ≡ closed_name (outside (depth_behind 0 (bracket_of (sign_of t.kind))) ts)
name_later t ts e =
    ap (λ (o : Option (List ℕ)). or_later o t.spot (closed_name (outside (depth_behind 0 (bracket_of (sign_of t.kind))) ts))) (next_tells t.kind ts) ∙ or_second _ t.spot _ e

-- The same at the front of tokens, of which some are left.

pub found_here : (ts : List Token) (n : List ℕ × Spot) → 0 < length ts → told ts ≡ Some n → closed_name (outside 0 ts) ≡ Some n
found_here [] n l e = absurd (omega arith)
found_here (t ∷ ts) n l e = name_found t ts n e

pub later_here : (ts : List Token) (d : ℕ) → 0 < length ts → (d ≡ 0 → told ts ≡ None) → closed_name (outside (depth_behind d (bracket_of (sign_at ts))) (drop 1 ts)) ≡ closed_name (outside d ts)
later_here [] d l e = absurd (omega arith)
later_here (t ∷ ts) zero l e = sym (name_later t ts (e refl))
later_here (t ∷ ts) (suc d) l e = refl

-- so much of the tokens has been passed
pub record Fronted (b : ℕ) (ts rest : List Token) : Type 0 where
  pub front : List Token
  pub whole : ts ≡ front ++ rest
  pub same : to_semicolon b [] ts ≡ ahead front (to_semicolon b [] rest)

join : (b : ℕ) (ts rest mid end : List Token) → Fronted b ts rest → rest ≡ mid ++ end → to_semicolon b [] rest ≡ ahead mid (to_semicolon b [] end) → Fronted b ts end
join b ts rest mid end f w s = record {
  front = f.front ++ mid;
  whole = f.whole ∙ ap (λ (us : List Token). f.front ++ us) w ∙ sym (append_assoc f.front mid end);
  same = f.same ∙ ap (ahead f.front) s ∙ ahead_more f.front mid (to_semicolon b [] end);
}

pub fronted_plain : (b : ℕ) (ts rest : List Token) → Fronted b ts rest → 0 < length rest → is_sign sign.Semicolon rest ≡ false → bracket_of (sign_at rest) ≡ NoBracket → Fronted b ts (drop 1 rest)
fronted_plain b ts [] f l e k = absurd (omega arith)
fronted_plain b ts (t ∷ rest) f l e k = join b ts (t ∷ rest) (t ∷ []) rest f refl (plain_here b t rest e k)

pub fronted_pair : (b : ℕ) (c : Punct) (ts rest end : List Token) → Fronted b ts rest → is_sign sign.Semicolon rest ≡ false → bracket_of (sign_at rest) ≡ Opening c → behind b c (drop 1 rest) ≡ Some end → Fronted b ts end
fronted_pair b c ts [] end f e k g = absurd (cc)
fronted_pair b c ts (t ∷ rest) end f e k g = let p = pair_here b c t rest end e k g in join b ts (t ∷ rest) p.0 end f p.1 p.2

pub fronted_unpaired : (b : ℕ) (c : Punct) (ts rest : List Token) → Fronted b ts rest → is_sign sign.Semicolon rest ≡ false → bracket_of (sign_at rest) ≡ Opening c → behind b c (drop 1 rest) ≡ None → to_semicolon b [] ts ≡ None
fronted_unpaired b c ts [] f e k g = absurd (cc)
fronted_unpaired b c ts (t ∷ rest) f e k g = f.same ∙ ap (ahead f.front) (pair_none b c t rest e k g)
