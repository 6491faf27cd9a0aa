-- Passing brackets pair by pair, attributes and specifiers one by one.
use Rattle.std.proofs.Common.{◌≡◌, ℕ, zero, suc, ◌+◌, ◌-◌, ◌≤◌, ◌<◌, ◌++◌, Bool, true, false, nat_lt, List, [], ◌∷◌, length, drop, Option, Some, None, if◌then◌else◌, refl, sym, ap, ◌∙◌, subst, arith, length-append, append_assoc, slice_index, append-nil}
use Rattle.std.specs.Prelude.{Result, Err}
use Rattle.std.specs.Borrow.{Bor}
use Rattle.c_parser.specs.declared.fault.Unread.{Unread}
use Rattle.c_parser.specs.declared.fault.Unread.TheVariants.{Unspelled, OutOfMemory}
use Rattle.c_parser.specs.Gives.{Fails, Closes}
use Rattle.c_parser.specs.Passes.{Counted, Passes}
use Rattle.std.proofs.lemmas.Bool.{cond-true, lt-ltb}
use Rattle.std.proofs.lemmas.Bool.Decides.{nat_tests}
use Rattle.c_tokens.specs.declared.token.Token.{Token}
use Rattle.c_tokens.specs.declared.token.Punct.{Punct}
use Rattle.c_parser.specs.Signs.{◌>>=◌, same_sign, sign_at, word_at, is_sign}
use Rattle.c_parser.specs.Words.{TypeWord, Void, Bool', Char, Short, Int, Long, Signed, Unsigned, same_word, times}
use Rattle.c_parser.specs.TypeCounts.{word_view, counted, number_of}
use Rattle.c_parser.specs.declared.type_words.TypeWord.{TypeWord as Word}
use Rattle.c_parser.specs.declared.type_words.TypeWord.TheVariants as word
use Rattle.c_parser.specs.Brackets.{Bracket, NoBracket, Opening, Closing, bracket, bracket_of, stacked, skipped, behind}
use Rattle.c_parser.specs.ReadExpressions.{Read}
use Rattle.c_parser.specs.Declarations.{is_spelled_attribute, behind_pair, behind_attributes, part_at, NoPart, TypePart, OtherPart, AttributePart, read_part, read_specifiers}

pub bound : {A B : Type 0} (o : Option A) (f : A → Option B) (y : B) → (o >>= f) ≡ Some y → (x : A) × ((o ≡ Some x) × (f x ≡ Some y))
bound None f y e = absurd (cc)
bound (Some x) f y e = (x, (refl, e))

lt_shift : (a n m : ℕ) → nat_lt (a + m) (n + m) ≡ nat_lt a n
lt_shift a n m = grind (arith, nat_tests)

room_same : (b n : ℕ) (xs stack : List Punct) → b ≡ n + length stack → nat_lt (suc (length (xs ++ stack))) b ≡ nat_lt (suc (length xs)) n
room_same b n xs stack e =
    let f : suc (length (xs ++ stack)) ≡ suc (length xs) + length stack = omega (arith, length-append xs stack) in
    ap (λ (x : ℕ). nat_lt x b) f ∙ ap (nat_lt (suc (length xs) + length stack)) e ∙ lt_shift (suc (length xs)) n (length stack)

-- the upper part of the stack is skipped first
split : (b n : ℕ) (xs stack : List Punct) (ts : List Token) → b ≡ n + length stack → skipped b (xs ++ stack) ts ≡ (skipped n xs ts >>= skipped b stack)
split b n [] stack ts e = refl
split b n (c ∷ xs) stack [] e = refl
split b n (c ∷ xs) stack (t ∷ ts) e =
    step (bracket t) (split b n (c ∷ xs) stack ts e) (λ (d : Punct). split b n (d ∷ c ∷ xs) stack ts e) (split b n xs stack ts e)
  where
    step : (k : Bracket) → skipped b (c ∷ (xs ++ stack)) ts ≡ (skipped n (c ∷ xs) ts >>= skipped b stack) →
        ((d : Punct) → skipped b (d ∷ c ∷ (xs ++ stack)) ts ≡ (skipped n (d ∷ c ∷ xs) ts >>= skipped b stack)) →
        skipped b (xs ++ stack) ts ≡ (skipped n xs ts >>= skipped b stack) →
        (stacked b (c ∷ (xs ++ stack)) k >>= λ (s : List Punct). skipped b s ts) ≡ ((stacked n (c ∷ xs) k >>= λ (s : List Punct). skipped n s ts) >>= skipped b stack)
    step NoBracket same more less = same
    step (Opening d) same more less =
        rw (room_same b n xs stack e) (
        elim (nat_lt (suc (length xs)) n) as (λ (v : Bool). ((if v then Some (d ∷ c ∷ (xs ++ stack)) else None) >>= λ (s : List Punct). skipped b s ts) ≡ (((if v then Some (d ∷ c ∷ xs) else None) >>= λ (s : List Punct). skipped n s ts) >>= skipped b stack)) [
          | true ↦ more d
          | false ↦ refl
        ])
    step (Closing d) same more less =
        elim (same_sign d c) as (λ (v : Bool). ((if v then Some (xs ++ stack) else None) >>= λ (s : List Punct). skipped b s ts) ≡ (((if v then Some xs else None) >>= λ (s : List Punct). skipped n s ts) >>= skipped b stack)) [
          | true ↦ less
          | false ↦ refl
        ]

-- a pair in a pair
pub nested : (b : ℕ) (c d : Punct) (ts : List Token) → 0 < b → bracket_of (sign_at ts) ≡ Opening d → skipped b (c ∷ []) ts ≡ (behind (b - 1) d (drop 1 ts) >>= skipped b (c ∷ []))
nested b c d [] some e = absurd (cc)
nested b c d (t ∷ ts) some e =
    rw e (
    let same : nat_lt 1 b ≡ nat_lt 0 (b - 1) = grind (arith, nat_tests) in
    rw same (
    elim (nat_lt 0 (b - 1)) as (λ (v : Bool). ((if v then Some (d ∷ c ∷ []) else None) >>= λ (s : List Punct). skipped b s ts) ≡ ((if v then skipped (b - 1) (d ∷ []) ts else None) >>= skipped b (c ∷ []))) [
      | true ↦ split b (b - 1) (d ∷ []) (c ∷ []) ts (omega arith)
      | false ↦ refl
    ]))

pub nested_read : (b : ℕ) (c d : Punct) (ts rest : List Token) → 0 < b → bracket_of (sign_at ts) ≡ Opening d → behind (b - 1) d (drop 1 ts) ≡ Some rest → skipped b (c ∷ []) rest ≡ skipped b (c ∷ []) ts
nested_read b c d ts rest some e f = sym (nested b c d ts some e ∙ rw f refl)

pub nested_none : (b : ℕ) (c d : Punct) (ts : List Token) → 0 < b → bracket_of (sign_at ts) ≡ Opening d → behind (b - 1) d (drop 1 ts) ≡ None → skipped b (c ∷ []) ts ≡ None
nested_none b c d ts some e f = nested b c d ts some e ∙ rw f refl

pub plain : (b : ℕ) (c : Punct) (ts : List Token) → 0 < length ts → bracket_of (sign_at ts) ≡ NoBracket → skipped b (c ∷ []) (drop 1 ts) ≡ skipped b (c ∷ []) ts
plain b c [] some e = absurd (omega arith)
plain b c (t ∷ ts) some e = rw e refl

pub behind_some : (b : ℕ) (c : Punct) (ts : List Token) → 0 < b → behind b c ts ≡ skipped b (c ∷ []) ts
behind_some b c ts some = cond-true _ _ _ (lt-ltb 0 b some)

skipped_shorter : (b : ℕ) (stack : List Punct) (ts rest : List Token) → skipped b stack ts ≡ Some rest → length rest ≤ length ts
skipped_shorter b [] ts rest e = let f : ts ≡ rest = cc in let g = ap (length {A = Token}) f in omega arith
skipped_shorter b (c ∷ stack) [] rest e = absurd (cc)
skipped_shorter b (c ∷ stack) (t ∷ ts) rest e =
    let h = bound (stacked b (c ∷ stack) (bracket t)) (λ (s : List Punct). skipped b s ts) rest e in
    let le = skipped_shorter b h.0 ts rest h.1.1 in
    omega arith

pub behind_shorter : (b : ℕ) (c : Punct) (ts rest : List Token) → behind b c ts ≡ Some rest → length rest ≤ length ts
behind_shorter b c ts rest e =
    elim (nat_lt 0 b) as (λ (v : Bool). (if v then skipped b (c ∷ []) ts else None) ≡ Some rest → length rest ≤ length ts) [
      | true ↦ (λ f. skipped_shorter b (c ∷ []) ts rest f)
      | false ↦ (λ f. absurd (let g : None ≡ Some rest = f in cc))
    ] e

pub nested_shorter : (b : ℕ) (c d : Punct) (ts rest : List Token) → bracket_of (sign_at ts) ≡ Opening d → behind b c (drop 1 ts) ≡ Some rest → length rest < length ts
nested_shorter b c d [] rest e f = absurd (cc)
nested_shorter b c d (t ∷ ts) rest e f = let g = behind_shorter b c ts rest f in omega arith

fails_whole : {A B : Type 0} (e : Unread) (o : Option A) (w : Option B) → Fails e o → (o ≡ None → w ≡ None) → Fails e w
fails_whole Unspelled o w f g = g f
fails_whole OutOfMemory o w f g = tt

-- a part's fault is the fault of the whole
pub stopped_by : {X A B : Type 0} (R : Result X Unread → Option B → Type 0) → ((e : Unread) (w : Option B) → Fails e w → R (Err e) w) →
    (result : Result X Unread) (e : Unread) (o : Option A) (w : Option B) → result ≡ Err e → Fails e o → (o ≡ None → w ≡ None) → R result w
stopped_by {X = X} R put result e o w r f g = subst (λ (x : Result X Unread). R x w) (sym r) (put e w (fails_whole e o w f g))

-- where a sign did not close
pub stopped_open : {X B : Type 0} (R : Result X Unread → Option B → Type 0) → ((e : Unread) (w : Option B) → Fails e w → R (Err e) w) →
    (result : Result X Unread) (e : Unread) (s : Punct) (ts : List Token) (w : Option B) → result ≡ Err e → Closes s ts (Err e) → (is_sign s ts ≡ false → w ≡ None) → R result w
stopped_open {X = X} R put result Unspelled s ts w r f g = subst (λ (x : Result X Unread). R x w) (sym r) (put Unspelled w (g f))
stopped_open R put result OutOfMemory s ts w r f g = absurd f

pub stopped : {A : Type 0} (result : Result (Bor (List Token)) Unread) (e : Unread) (o : Option A) (w : Option (List Token)) → result ≡ Err e → Fails e o → (o ≡ None → w ≡ None) → Passes result w
stopped result e o w r f g = stopped_by Passes (λ e w h. h) result e o w r f g

pub attributes_more : (b n m : ℕ) (ts rest : List Token) → n ≡ suc m → is_spelled_attribute (word_at ts) ≡ true → behind_pair b (drop 1 ts) ≡ Some rest → behind_attributes b n ts ≡ behind_attributes b m rest
attributes_more b n m ts rest e a p = rw (e, behind_attributes, a, p) refl

-- the words before these have been read
abbrev pub onto : List TypeWord → Read (List TypeWord) → Read (List TypeWord)
onto words o = o >>= λ r. Some (words ++ r.0, r.1)

-- specifiers have been read as far as rest, and n further ones at most may follow
pub record Begun (b all n : ℕ) (outside : Bool) (ts : List Token) (ns : List ℕ) (rest : List Token) : Type 0 where
  pub words : List TypeWord
  pub counts : ns ≡ counted words
  pub few : length words + n ≤ all
  pub same : read_specifiers b all outside ts ≡ onto words (read_specifiers b n outside rest)

onto_more : (words : List TypeWord) (t : TypeWord) (o : Read (List TypeWord)) → onto words (o >>= λ r. Some (t ∷ r.0, r.1)) ≡ onto (words ++ t ∷ []) o
onto_more words t None = refl
onto_more words t (Some r) = ap (λ (ws : List TypeWord). Some (ws, r.1)) (sym (append_assoc words (t ∷ []) r.0))

module _ (b all n m : ℕ) (outside : Bool) (ts : List Token) (ns : List ℕ) (rest : List Token) (e : n ≡ suc m) where
  pub begun_type : Begun b all n outside ts ns rest → (w : Word) (ks : List ℕ) → ((words : List TypeWord) → ns ≡ counted words → ks ≡ counted (words ++ word_view w ∷ [])) →
      part_at outside rest ≡ TypePart (word_view w) → Begun b all m outside ts ks (drop 1 rest)
  begun_type x w ks more p = record {
    words = x.words ++ word_view w ∷ [];
    counts = more x.words x.counts;
    few = let f = x.few in omega (arith, f, e, length-append x.words (word_view w ∷ []));
    same = x.same ∙ rw (e, read_specifiers, p) (onto_more x.words (word_view w) (read_specifiers b m outside (drop 1 rest)));
  }

  pub begun_other : Begun b all n outside ts ns rest → part_at outside rest ≡ OtherPart → Begun b all m outside ts ns (drop 1 rest)
  begun_other x p = record { words = x.words; counts = x.counts; few = let f = x.few in omega (arith, f, e); same = x.same ∙ rw (e, read_specifiers, p) refl }

  pub begun_attribute : Begun b all n outside ts ns rest → (end : List Token) → part_at outside rest ≡ AttributePart → behind_pair b (drop 1 rest) ≡ Some end → Begun b all m outside ts ns end
  begun_attribute x end p q = record { words = x.words; counts = x.counts; few = let f = x.few in omega (arith, f, e); same = x.same ∙ rw (e, read_specifiers, p, read_part, q) refl }

  pub begun_unpaired : Begun b all n outside ts ns rest → part_at outside rest ≡ AttributePart → behind_pair b (drop 1 rest) ≡ None → read_specifiers b all outside ts ≡ None
  begun_unpaired x p q = x.same ∙ rw (e, read_specifiers, p, read_part, q) refl

onto_nothing : (words : List TypeWord) (ts : List Token) → onto words (Some ([], ts)) ≡ Some (words, ts)
onto_nothing words ts = ap (λ (ws : List TypeWord). Some (ws, ts)) (append-nil words)

pub begun_done : (b all n : ℕ) (outside : Bool) (ts : List Token) (ns : List ℕ) (rest : List Token) → Begun b all n outside ts ns rest → part_at outside rest ≡ NoPart → Counted ns rest (read_specifiers b all outside ts)
begun_done b all zero outside ts ns rest x p = record { words = x.words; counts = x.counts; same = x.same ∙ onto_nothing x.words rest }
begun_done b all (suc n) outside ts ns rest x p = record { words = x.words; counts = x.counts; same = x.same ∙ rw (read_specifiers, p) (onto_nothing x.words rest) }

times_few : (w : TypeWord) (ws : List TypeWord) → times w ws ≤ length ws
times_few w [] = omega arith
times_few w (v ∷ ws) =
    let f = times_few w ws in
    elim (same_word v w) as (λ (x : Bool). (if x then suc (times w ws) else times w ws) ≤ suc (length ws)) [ true ↦ omega arith | false ↦ omega arith ]

-- no word stands more often than there are words
pub counted_few : (w : Word) (ws : List TypeWord) → slice_index (counted ws) (number_of w) ≤ length ws
counted_few word.Void ws = times_few Void ws
counted_few word.Bool ws = times_few Bool' ws
counted_few word.Char ws = times_few Char ws
counted_few word.Short ws = times_few Short ws
counted_few word.Int ws = times_few Int ws
counted_few word.Long ws = times_few Long ws
counted_few word.Signed ws = times_few Signed ws
counted_few word.Unsigned ws = times_few Unsigned ws

pub begun_few : (b all n : ℕ) (outside : Bool) (ts : List Token) (ns : List ℕ) (rest : List Token) → Begun b all n outside ts ns rest → (w : Word) → slice_index ns (number_of w) + n ≤ all
begun_few b all n outside ts ns rest x w =
    let f = x.few in
    let g = counted_few w x.words in
    rw (x.counts) (omega (arith, f, g))
