-- What stands between the quotes of the canonical form is read as the text that was written.
use Rattle.std.proofs.Common.{◌≡◌, ℕ, zero, suc, ◌+◌, ◌*◌, ◌/◌, ◌%◌, ◌-◌, ◌<◌, ◌≤◌, List, [], ◌∷◌, ◌++◌, Bool, true, false, refl, sym, ap, ◌∙◌, subst, cond, inl, inr, ◌⊎◌, append_assoc, Option, Some, arith, ◌==◌, ◌&&◌, ◌||◌, nat_lt, nat_le}
use Rattle.std.proofs.lemmas.Bool.{cond-false, eqb-true, ltb-true, lt-ltb, leb-true, and_parts, or_parts, or_cases}
use Rattle.std.proofs.Math.Nat.{div-lt_iff_lt-mul, mod-eq-sub-div-mul, div-mul-le_self, lt-div-mul-add}
use Rattle.std.specs.List.{flat_map}
use Rattle.yaml_lines.specs.Chunks.{Each, ◌>>=◌}
use Rattle.yaml_lines.specs.Marks.{count_of}
use Rattle.yaml_lines.specs.Lines.{within}
use Rattle.wv_yaml.specs.Canon.{hex_of, escaped}
use Rattle.yaml_scalars.specs.Quoted.{is_feed, white, white_front, digit, number, is_character, DoublePiece, DoubleOther, DoubleBlanks, Simple, Numbered, Close, More, Double}

abbrev is_space : ℕ → Bool
is_space c = c == 32

digit_of : (n : ℕ) → n < 16 → digit (hex_of n) ≡ Some n
digit_of zero h = refl
digit_of (suc zero) h = refl
digit_of (suc (suc zero)) h = refl
digit_of (suc (suc (suc zero))) h = refl
digit_of (suc (suc (suc (suc zero)))) h = refl
digit_of (suc (suc (suc (suc (suc zero))))) h = refl
digit_of (suc (suc (suc (suc (suc (suc zero)))))) h = refl
digit_of (suc (suc (suc (suc (suc (suc (suc zero))))))) h = refl
digit_of (suc (suc (suc (suc (suc (suc (suc (suc zero)))))))) h = refl
digit_of (suc (suc (suc (suc (suc (suc (suc (suc (suc zero))))))))) h = refl
digit_of (suc (suc (suc (suc (suc (suc (suc (suc (suc (suc zero)))))))))) h = refl
digit_of (suc (suc (suc (suc (suc (suc (suc (suc (suc (suc (suc zero))))))))))) h = refl
digit_of (suc (suc (suc (suc (suc (suc (suc (suc (suc (suc (suc (suc zero)))))))))))) h = refl
digit_of (suc (suc (suc (suc (suc (suc (suc (suc (suc (suc (suc (suc (suc zero))))))))))))) h = refl
digit_of (suc (suc (suc (suc (suc (suc (suc (suc (suc (suc (suc (suc (suc (suc zero)))))))))))))) h = refl
digit_of (suc (suc (suc (suc (suc (suc (suc (suc (suc (suc (suc (suc (suc (suc (suc zero))))))))))))))) h = refl
digit_of (suc (suc (suc (suc (suc (suc (suc (suc (suc (suc (suc (suc (suc (suc (suc (suc n)))))))))))))))) h = absurd (omega arith)

two_digits : (c : ℕ) → c < 256 → number 2 0 (hex_of (c / 16) ∷ hex_of (c % 16) ∷ []) ≡ Some c
two_digits c lt =
    let high : c / 16 < 16 = (div-lt_iff_lt-mul (omega arith)).1 (omega arith) in
    let rest : c % 16 ≡ c - c / 16 * 16 = mod-eq-sub-div-mul c 16 in
    let under : c / 16 * 16 ≤ c = div-mul-le_self c 16 in
    let over : c < c / 16 * 16 + 16 = lt-div-mul-add (omega arith) in
    let low : c % 16 < 16 = omega (arith, rest, under, over) in
    let whole : 16 * (16 * 0 + c / 16) + c % 16 ≡ c = omega (arith, rest, under, over) in
    ap (λ (o : Option ℕ). o >>= λ d. number 1 (16 * 0 + d) (hex_of (c % 16) ∷ [])) (digit_of (c / 16) high)
    ∙ ap (λ (o : Option ℕ). o >>= λ d. Some (16 * (16 * 0 + c / 16) + d)) (digit_of (c % 16) low) ∙ ap Some whole

small_character : (c : ℕ) → c < 256 → is_character c ≡ true
small_character c lt = let e : nat_lt c 0xD800 ≡ true = lt-ltb c 0xD800 (omega arith) in ap (λ b. b || (nat_le 0xE000 c && nat_lt c 0x11_0000)) e

-- a piece, and that no white space stands first in it
pub record Written (c : ℕ) (spelled rest : List ℕ) : Type 0 where
  pub piece : DoublePiece rest spelled (c ∷ [])
  pub no_white : white_front (spelled ++ rest) ≡ []

escape_at : (c k : ℕ) (text rest : List ℕ) → (c == k) ≡ true → Written k text rest → Written c text rest
escape_at c k text rest e w = subst (λ x. Written x text rest) (sym (eqb-true c k e)) w

controls : (c : ℕ) → (nat_lt c 32 || within 0x7F 0x9F c) ≡ true → c < 256
controls c e =
    elim (or_cases _ _ e) [
      | inl h ↦ let lt : c < 32 = ltb-true c 32 h in omega arith
      | inr h ↦ let le : c ≤ 0x9F = leb-true c 0x9F (and_parts _ _ h).1 in omega arith
    ]

last_two : (c : ℕ) → within 0xFFFE 0xFFFF c ≡ true → (c ≡ 0xFFFE) ⊎ (c ≡ 0xFFFF)
last_two c e =
    let both = and_parts _ _ e in
    let low : 0xFFFE ≤ c = leb-true 0xFFFE c both.0 in
    let high : c ≤ 0xFFFF = leb-true c 0xFFFF both.1 in
    at (c == 0xFFFE) refl low high
  where
    at : (b : Bool) → (c == 0xFFFE) ≡ b → 0xFFFE ≤ c → c ≤ 0xFFFF → (c ≡ 0xFFFE) ⊎ (c ≡ 0xFFFF)
    at true f low high = inl (eqb-true c 0xFFFE f)
    at false f low high = inr (grind arith)

written : (c : ℕ) (rest : List ℕ) → (c == 32) ≡ false → Written c (escaped c) rest
written c rest sp = quote ((c == 34) || (c == 92)) refl
  where
    other : (c == 34) ≡ false → (c == 92) ≡ false → (c == 13) ≡ false → (c == 9) ≡ false → (c == 10) ≡ false → Written c (c ∷ []) rest
    other a b d t n =
        let w : white c ≡ false = rw (sp, t, n) refl in
        record { piece = DoubleOther c a b d w; no_white = cond-false (white c) _ _ w }

    noncharacter : (v : Bool) → within 0xFFFE 0xFFFF c ≡ v → (c == 34) ≡ false → (c == 92) ≡ false → (c == 13) ≡ false → (c == 9) ≡ false → (c == 10) ≡ false →
        Written c (cond v (92 ∷ 117 ∷ 102 ∷ 102 ∷ 102 ∷ hex_of (c % 16) ∷ []) (c ∷ [])) rest
    noncharacter true e a b d t n =
        let P : ℕ → Type 0 = λ x. Written x (92 ∷ 117 ∷ 102 ∷ 102 ∷ 102 ∷ hex_of (x % 16) ∷ []) rest in
        elim (last_two c e) [
          | inl h ↦ subst P (sym h) (record { piece = Numbered 117 0xFFFE (102 ∷ 102 ∷ 102 ∷ 101 ∷ []) refl refl refl refl refl; no_white = refl })
          | inr h ↦ subst P (sym h) (record { piece = Numbered 117 0xFFFF (102 ∷ 102 ∷ 102 ∷ 102 ∷ []) refl refl refl refl refl; no_white = refl })
        ]
    noncharacter false e a b d t n = other a b d t n

    control : (v : Bool) → (nat_lt c 32 || within 0x7F 0x9F c) ≡ v → (c == 34) ≡ false → (c == 92) ≡ false → (c == 13) ≡ false → (c == 9) ≡ false → (c == 10) ≡ false →
        Written c (cond v (92 ∷ 120 ∷ hex_of (c / 16) ∷ hex_of (c % 16) ∷ []) (cond (within 0xFFFE 0xFFFF c) (92 ∷ 117 ∷ 102 ∷ 102 ∷ 102 ∷ hex_of (c % 16) ∷ []) (c ∷ []))) rest
    control true e a b d t n =
        let lt = controls c e in
        record { piece = Numbered 120 c (hex_of (c / 16) ∷ hex_of (c % 16) ∷ []) refl refl refl (two_digits c lt) (small_character c lt); no_white = refl }
    control false e a b d t n = noncharacter (within 0xFFFE 0xFFFF c) refl a b d t n

    quote : (v : Bool) → ((c == 34) || (c == 92)) ≡ v →
        Written c (cond v (92 ∷ c ∷ []) (cond (c == 10) (92 ∷ 110 ∷ []) (cond (c == 9) (92 ∷ 116 ∷ []) (cond (c == 13) (92 ∷ 114 ∷ []) (cond (nat_lt c 32 || within 0x7F 0x9F c) (92 ∷ 120 ∷ hex_of (c / 16) ∷ hex_of (c % 16) ∷ []) (cond (within 0xFFFE 0xFFFF c) (92 ∷ 117 ∷ 102 ∷ 102 ∷ 102 ∷ hex_of (c % 16) ∷ []) (c ∷ []))))))) rest
    quote true e =
        let P : ℕ → Type 0 = λ x. Written x (92 ∷ x ∷ []) rest in
        elim (or_cases _ _ e) [
          | inl h ↦ subst P (sym (eqb-true c 34 h)) (record { piece = Simple 34 34 refl refl refl; no_white = refl })
          | inr h ↦ subst P (sym (eqb-true c 92 h)) (record { piece = Simple 92 92 refl refl refl; no_white = refl })
        ]
    quote false e = feed (or_parts _ _ e) (c == 10) refl
      where
        back : ((c == 34) ≡ false) × ((c == 92) ≡ false) → (c == 10) ≡ false → (c == 9) ≡ false → (v : Bool) → (c == 13) ≡ v →
            Written c (cond v (92 ∷ 114 ∷ []) (cond (nat_lt c 32 || within 0x7F 0x9F c) (92 ∷ 120 ∷ hex_of (c / 16) ∷ hex_of (c % 16) ∷ []) (cond (within 0xFFFE 0xFFFF c) (92 ∷ 117 ∷ 102 ∷ 102 ∷ 102 ∷ hex_of (c % 16) ∷ []) (c ∷ [])))) rest
        back q n t true f = escape_at c 13 (92 ∷ 114 ∷ []) rest f (record { piece = Simple 114 13 refl refl refl; no_white = refl })
        back q n t false f = control (nat_lt c 32 || within 0x7F 0x9F c) refl q.0 q.1 f t n

        tab : ((c == 34) ≡ false) × ((c == 92) ≡ false) → (c == 10) ≡ false → (v : Bool) → (c == 9) ≡ v →
            Written c (cond v (92 ∷ 116 ∷ []) (cond (c == 13) (92 ∷ 114 ∷ []) (cond (nat_lt c 32 || within 0x7F 0x9F c) (92 ∷ 120 ∷ hex_of (c / 16) ∷ hex_of (c % 16) ∷ []) (cond (within 0xFFFE 0xFFFF c) (92 ∷ 117 ∷ 102 ∷ 102 ∷ 102 ∷ hex_of (c % 16) ∷ []) (c ∷ []))))) rest
        tab q n true f = escape_at c 9 (92 ∷ 116 ∷ []) rest f (record { piece = Simple 116 9 refl refl refl; no_white = refl })
        tab q n false f = back q n f (c == 13) refl

        feed : ((c == 34) ≡ false) × ((c == 92) ≡ false) → (v : Bool) → (c == 10) ≡ v →
            Written c (cond v (92 ∷ 110 ∷ []) (cond (c == 9) (92 ∷ 116 ∷ []) (cond (c == 13) (92 ∷ 114 ∷ []) (cond (nat_lt c 32 || within 0x7F 0x9F c) (92 ∷ 120 ∷ hex_of (c / 16) ∷ hex_of (c % 16) ∷ []) (cond (within 0xFFFE 0xFFFF c) (92 ∷ 117 ∷ 102 ∷ 102 ∷ 102 ∷ hex_of (c % 16) ∷ []) (c ∷ [])))))) rest
        feed q true f = escape_at c 10 (92 ∷ 110 ∷ []) rest f (record { piece = Simple 110 10 refl refl refl; no_white = refl })
        feed q false f = tab q f (c == 9) refl

-- spaces in a row
spaces_white : (w : List ℕ) → Each is_space w → Each white w
spaces_white [] h = tt
spaces_white (c ∷ w) h = (subst (λ x. white x ≡ true) (sym (eqb-true c 32 h.0)) refl, spaces_white w h.1)

no_feeds : (w : List ℕ) → Each is_space w → count_of is_feed w ≡ 0
no_feeds [] h = refl
no_feeds (c ∷ w) h = cond-false (is_feed c) _ _ (subst (λ x. is_feed x ≡ false) (sym (eqb-true c 32 h.0)) refl) ∙ no_feeds w h.1

flushed : (w text value rest : List ℕ) → Each is_space w → white_front text ≡ [] → Double text value rest → Double (w ++ text) (w ++ value) rest
flushed [] text value rest h e d = d
flushed (c ∷ w) text value rest h e d =
    More (c ∷ w) (c ∷ w) text value rest (DoubleBlanks c w (record { each = spaces_white (c ∷ w) h; no_more = e }) (no_feeds (c ∷ w) h)) d

space_pushed : (w : List ℕ) (c : ℕ) → Each is_space w → is_space c ≡ true → Each is_space (w ++ c ∷ [])
space_pushed [] c h e = (e, tt)
space_pushed (x ∷ w) c h e = (h.0, space_pushed w c h.1 e)

read_back : (w cs rest : List ℕ) → Each is_space w → Double (w ++ (flat_map escaped cs ++ (34 ∷ rest))) (w ++ cs) rest
read_back w [] rest h = flushed w (34 ∷ rest) [] rest h refl (Close rest refl)
read_back w (c ∷ cs) rest h = at (λ v k. read_back v cs rest k) (c == 32) refl
  where
    text : List ℕ
    text = flat_map escaped cs ++ (34 ∷ rest)

    at : ((v : List ℕ) → Each is_space v → Double (v ++ (flat_map escaped cs ++ (34 ∷ rest))) (v ++ cs) rest) → (b : Bool) → (c == 32) ≡ b → Double (w ++ ((escaped c ++ flat_map escaped cs) ++ (34 ∷ rest))) (w ++ (c ∷ cs)) rest
    at ih true e =
        let c_is = eqb-true c 32 e in
        let one : Double (w ++ (32 ∷ text)) (w ++ (32 ∷ cs)) rest =
        subst (λ xs. Double xs (w ++ (32 ∷ cs)) rest) (append_assoc w (32 ∷ []) text) (subst (λ ys. Double ((w ++ (32 ∷ [])) ++ text) ys rest) (append_assoc w (32 ∷ []) cs) (ih (w ++ 32 ∷ []) (space_pushed w 32 h refl))) in
        subst (λ x. Double (w ++ ((escaped x ++ flat_map escaped cs) ++ (34 ∷ rest))) (w ++ (x ∷ cs)) rest) (sym c_is) one
    at ih false e =
        let p = written c text e in
        let more : Double (escaped c ++ text) (c ∷ cs) rest = More (escaped c) (c ∷ []) text cs rest p.piece (ih [] tt) in
        subst (λ xs. Double (w ++ xs) (w ++ (c ∷ cs)) rest) (sym (append_assoc (escaped c) (flat_map escaped cs) (34 ∷ rest))) (flushed w (escaped c ++ text) (c ∷ cs) rest h p.no_white more)

pub reads_back : (cs rest : List ℕ) → Double (flat_map escaped cs ++ (34 ∷ rest)) cs rest
reads_back cs rest = read_back [] cs rest tt
