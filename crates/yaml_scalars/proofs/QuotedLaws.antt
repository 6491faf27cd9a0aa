-- Quoted scalars: the function gives what the relation says, and nothing else.
use Rattle.std.proofs.Common.{◌≡◌, ℕ, zero, suc, ◌+◌, ◌*◌, List, [], ◌∷◌, ◌++◌, length, take, drop, Bool, true, false, refl, sym, ap, ◌∙◌, subst, inl, inr, ◌⊎◌, Option, Some, None, arith, ◌==◌, ◌||◌, not}
use Rattle.std.proofs.lemmas.Bool.{cond-true, cond-false, eqb-true, not-true}
use Rattle.std.proofs.lemmas.List.{take-append-drop}
use Rattle.yaml_lines.specs.Chunks.{Each, ◌>>=◌}
use Rattle.yaml_lines.specs.Marks.{begins_with, breaks, folded, count_of}
use Rattle.yaml_scalars.specs.Quoted.{is_feed, white, white_front, white_stands, Step, Refused, Closed, Stands, white_step, single_step, simple, digits_of, digit, number, is_character, if_character, if_simple, escape, double_step, on_step, quoted, White, SinglePiece, SingleOther, SingleQuote, SingleBlanks, SingleFold, DoublePiece, DoubleOther, DoubleBlanks, DoubleFold, Simple, Numbered, Joined, Inside, Close, More, Double, Single}
use Rattle.yaml_lines.proofs.Parts.{chosen, bind_some}
use Rattle.std.proofs.lemmas.Option.{same_Some}

-- a value behind so many characters, and behind what one step gives
abbrev moved : ℕ → Option (List ℕ × ℕ) → Option (List ℕ × ℕ)
moved n None = None
moved n (Some r) = Some (r.0, n + r.1)

abbrev stepped_on : List ℕ → Option (List ℕ × ℕ) → Option (List ℕ × ℕ)
stepped_on v o = o >>= λ r. Some (v ++ r.0, suc r.1)

abbrev passed_on : Option (List ℕ × ℕ) → Option (List ℕ × ℕ)
passed_on o = o >>= λ r. Some (r.0, suc r.1)

-- so many characters are passed over
skipped : (step : ℕ → List ℕ → Step) (front rest : List ℕ) → quoted step (length front) (front ++ rest) ≡ moved (length front) (quoted step 0 rest)
skipped step [] rest = at (quoted step 0 rest)
  where
    at : (o : Option (List ℕ × ℕ)) → o ≡ moved 0 o
    at None = refl
    at (Some r) = let same : r.1 ≡ 0 + r.1 = omega arith in ap (λ (n : ℕ). Some (r.0, n)) same
skipped step (c ∷ front) rest = ap passed_on (skipped step front rest) ∙ at (quoted step 0 rest)
  where
    at : (o : Option (List ℕ × ℕ)) → passed_on (moved (length front) o) ≡ moved (suc (length front)) o
    at None = refl
    at (Some r) = let same : suc (length front + r.1) ≡ suc (length front) + r.1 = omega arith in ap (λ (n : ℕ). Some (r.0, n)) same

drop_front : (front rest : List ℕ) (n : ℕ) → drop (length front + n) (front ++ rest) ≡ drop n rest
drop_front [] rest n = ap (λ k. drop k rest) (let same : 0 + n ≡ n = omega arith in same)
drop_front (c ∷ front) rest n = ap (λ k. drop k (c ∷ (front ++ rest))) (let same : suc (length front) + n ≡ suc (length front + n) = omega arith in same) ∙ drop_front front rest n

-- what a value within quotes is: its text, and how many characters it takes
pub record Found (step : ℕ → List ℕ → Step) (text value rest : List ℕ) : Type 0 where
  pub count : ℕ
  pub is : quoted step 0 text ≡ Some (value, count)
  pub left : drop count text ≡ rest

module _ (quote : ℕ) (closes : List ℕ → Bool) (Piece : List ℕ → List ℕ → List ℕ → Type 0) (step : ℕ → List ℕ → Step) where
  module _ (closed_is : (c : ℕ) (cs : List ℕ) → step c cs ≡ Closed → (c ≡ quote) × (closes cs ≡ true)) (stands_is : (c : ℕ) (cs v : List ℕ) (k : ℕ) → step c cs ≡ Stands v k → Piece (drop k cs) (c ∷ take k cs) v) where
    inside_sound : (k : ℕ) (text : List ℕ) (r : List ℕ × ℕ) → quoted step k text ≡ Some r → Inside quote closes Piece (drop k text) r.0 (drop r.1 text)
    inside_sound k [] r e = absurd (cc)
    inside_sound (suc k) (c ∷ cs) r e =
        let q = bind_some (quoted step k cs) _ r e in
        let same : (q.0.0, suc q.0.1) ≡ r = same_Some _ _ q.2 in
        subst (λ (p : List ℕ × ℕ). Inside quote closes Piece (drop k cs) p.0 (drop p.1 (c ∷ cs))) same (inside_sound k cs q.0 q.1)
    inside_sound zero (c ∷ cs) r e = at (λ k q f. inside_sound k cs q f) (step c cs) refl e
      where
        at : ((k : ℕ) (q : List ℕ × ℕ) → quoted step k cs ≡ Some q → Inside quote closes Piece (drop k cs) q.0 (drop q.1 cs)) → (s : Step) → step c cs ≡ s → on_step s (λ k. quoted step k cs) ≡ Some r →
            Inside quote closes Piece (c ∷ cs) r.0 (drop r.1 (c ∷ cs))
        at ih Refused f g = absurd (cc)
        at ih Closed f g =
            let same : ([], 1) ≡ r = same_Some _ _ g in
            let h = closed_is c cs f in
            subst (λ (p : List ℕ × ℕ). Inside quote closes Piece (c ∷ cs) p.0 (drop p.1 (c ∷ cs))) same (subst (λ x. Inside quote closes Piece (x ∷ cs) [] cs) (sym h.0) (Close cs h.1))
        at ih (Stands v k) f g =
            let q = bind_some (quoted step k cs) _ r g in
            let same : (v ++ q.0.0, suc q.0.1) ≡ r = same_Some _ _ q.2 in
            let one : Inside quote closes Piece (c ∷ (take k cs ++ drop k cs)) (v ++ q.0.0) (drop q.0.1 cs) = More (c ∷ take k cs) v (drop k cs) q.0.0 (drop q.0.1 cs) (stands_is c cs v k f) (ih k q.0 q.1) in
            subst (λ (p : List ℕ × ℕ). Inside quote closes Piece (c ∷ cs) p.0 (drop p.1 (c ∷ cs))) same (subst (λ xs. Inside quote closes Piece (c ∷ xs) (v ++ q.0.0) (drop q.0.1 cs)) (take-append-drop k cs) one)

  module _ (closed_back : (cs : List ℕ) → closes cs ≡ true → step quote cs ≡ Closed)
      (stands_back : (rest spelled meant : List ℕ) → Piece rest spelled meant → (c : ℕ) × (cs : List ℕ) × (spelled ≡ c ∷ cs) × (step c (cs ++ rest) ≡ Stands meant (length cs))) where
    inside_complete : (text value rest : List ℕ) → Inside quote closes Piece text value rest → Found step text value rest
    inside_complete _ _ _ (Close rest h) = record { count = 1; is = ap (λ s. on_step s (λ k. quoted step k rest)) (closed_back rest h); left = refl }
    inside_complete _ _ _ (More spelled meant text value rest p i) = at (stands_back text spelled meant p) (inside_complete text value rest i)
      where
        at : ((c : ℕ) × (cs : List ℕ) × (spelled ≡ c ∷ cs) × (step c (cs ++ text) ≡ Stands meant (length cs))) → Found step text value rest → Found step (spelled ++ text) (meant ++ value) rest
        at w f =
            let c = w.0 in
            let cs = w.1 in
            let found : quoted step 0 (c ∷ (cs ++ text)) ≡ Some (meant ++ value, suc (length cs + f.count)) =
            ap (λ s. on_step s (λ k. quoted step k (cs ++ text))) w.3 ∙ ap (stepped_on meant) (skipped step cs text)
            ∙ ap (λ (o : Option (List ℕ × ℕ)). stepped_on meant (moved (length cs) o)) f.is in
            subst (λ xs. Found step (xs ++ text) (meant ++ value) rest) (sym w.2)
            (record { count = suc (length cs + f.count); is = found; left = drop_front cs text f.count ∙ f.left })

-- white space
white_all : (cs : List ℕ) → Each white (white_front cs) × (take (length (white_front cs)) cs ≡ white_front cs) × (white_front (drop (length (white_front cs)) cs) ≡ [])
white_all [] = (tt, refl, refl)
white_all (c ∷ cs) = at (white_all cs) (white c) refl
  where
    at : Each white (white_front cs) × (take (length (white_front cs)) cs ≡ white_front cs) × (white_front (drop (length (white_front cs)) cs) ≡ []) → (b : Bool) → white c ≡ b →
        Each white (white_front (c ∷ cs)) × (take (length (white_front (c ∷ cs))) (c ∷ cs) ≡ white_front (c ∷ cs)) × (white_front (drop (length (white_front (c ∷ cs))) (c ∷ cs)) ≡ [])
    at h true e =
        let same : c ∷ white_front cs ≡ white_front (c ∷ cs) = sym (cond-true (white c) _ _ e) in
        subst (λ w. Each white w × (take (length w) (c ∷ cs) ≡ w) × (white_front (drop (length w) (c ∷ cs)) ≡ [])) same ((e, h.0), ap (λ xs. c ∷ xs) h.1, h.2)
    at h false e =
        let same : [] ≡ white_front (c ∷ cs) = sym (cond-false (white c) _ _ e) in
        subst (λ w. Each white w × (take (length w) (c ∷ cs) ≡ w) × (white_front (drop (length w) (c ∷ cs)) ≡ [])) same (tt, refl, sym same)

white_again : (w rest : List ℕ) → Each white w → white_front rest ≡ [] → white_front (w ++ rest) ≡ w
white_again [] rest h e = e
white_again (c ∷ w) rest h e = cond-true (white c) _ _ h.0 ∙ ap (λ xs. c ∷ xs) (white_again w rest h.1 e)

white_space : (c : ℕ) (cs : List ℕ) → white c ≡ true → White (c ∷ take (length (white_front cs)) cs) (drop (length (white_front cs)) cs)
white_space c cs e =
    let w = white_all cs in
    record { each = (e, subst (Each white) (sym w.1) w.0); no_more = w.2 }

white_is : (c : ℕ) → white c ≡ true → (c ≡ 32) ⊎ ((c ≡ 9) ⊎ (c ≡ 10))
white_is c e = at (c == 32) refl (c == 9) refl
  where
    at : (a : Bool) → (c == 32) ≡ a → (b : Bool) → (c == 9) ≡ b → (c ≡ 32) ⊎ ((c ≡ 9) ⊎ (c ≡ 10))
    at true f b g = inl (eqb-true c 32 f)
    at false f true g = inr (inl (eqb-true c 9 g))
    at false f false g =
        let last : (c == 10) ≡ true = sym (ap (λ x. (x || (c == 9)) || (c == 10)) f ∙ ap (λ x. (false || x) || (c == 10)) g) ∙ e in
        inr (inr (eqb-true c 10 last))

-- a property of white space holds where it holds of these three
by_white : (P : ℕ → Type 0) (c : ℕ) → white c ≡ true → P 32 → P 9 → P 10 → P c
by_white P c e x y z =
    elim (white_is c e) [ inl h ↦ subst P (sym h) x | inr h ↦ elim h [ inl g ↦ subst P (sym g) y | inr g ↦ subst P (sym g) z ] ]

-- what white space stands for, as a step
white_stands_is : (c : ℕ) (w rest meant : List ℕ) → White (c ∷ w) rest → white_stands (c ∷ w) (count_of is_feed (c ∷ w)) ≡ meant → white_step c (w ++ rest) ≡ Stands meant (length w)
white_stands_is c w rest meant h e =
    ap (λ xs. Stands (white_stands (c ∷ xs) (count_of is_feed (c ∷ xs))) (length xs)) (white_again w rest h.each.1 h.no_more) ∙ ap (λ xs. Stands xs (length w)) e

-- digits
digits_taken : (n v : ℕ) (cs : List ℕ) (x : ℕ) → number n v cs ≡ Some x → (length (take n cs) ≡ n) × (number n v (take n cs) ≡ Some x)
digits_taken zero v cs x e = (refl, e)
digits_taken (suc n) v [] x e = absurd (cc)
digits_taken (suc n) v (c ∷ cs) x e =
    let d = bind_some (digit c) _ x e in
    let h = digits_taken n (16 * v + d.0) cs x d.2 in
    (ap suc h.0, ap (λ (o : Option ℕ). o >>= λ y. number n (16 * v + y) (take n cs)) d.1 ∙ h.1)

digits_before : (n v : ℕ) (ds rest : List ℕ) (x : ℕ) → length ds ≡ n → number n v ds ≡ Some x → number n v (ds ++ rest) ≡ Some x
digits_before zero v ds rest x l e = e
digits_before (suc n) v [] rest x l e = absurd (cc)
digits_before (suc n) v (c ∷ ds) rest x l e =
    let d = bind_some (digit c) _ x e in
    let m : length ds ≡ n = omega (arith, l) in
    ap (λ (o : Option ℕ). o >>= λ y. number n (16 * v + y) (ds ++ rest)) d.1 ∙ digits_before n (16 * v + d.0) ds rest x m d.2

stands_same : (v w : List ℕ) (k l : ℕ) → Stands v k ≡ Stands w l → (v ≡ w) × (k ≡ l)
stands_same v w k l e = (cc, cc)

-- between double quotes
simple_stands : (o : Option ℕ) (v : List ℕ) (k : ℕ) → if_simple o ≡ Stands v k → (x : ℕ) × (o ≡ Some x) × (x ∷ [] ≡ v) × (1 ≡ k)
simple_stands None v k e = absurd (cc)
simple_stands (Some x) v k e = let s = stands_same (x ∷ []) v 1 k e in (x, refl, s.0, s.1)

character_stands : (o : Option ℕ) (m : ℕ) (v : List ℕ) (k : ℕ) → if_character o m ≡ Stands v k → (x : ℕ) × (o ≡ Some x) × (is_character x ≡ true) × (x ∷ [] ≡ v) × (m ≡ k)
character_stands None m v k e = absurd (cc)
character_stands (Some x) m v k e =
    elim (chosen (is_character x) _ _ (Stands v k) e) [ inl h ↦ let s = stands_same (x ∷ []) v m k h.1 in (x, refl, h.0, s.0, s.1) | inr h ↦ absurd (cc) ]

simple_open : (o : Option ℕ) → if_simple o ≡ Closed → ⊥
simple_open None e = absurd (cc)
simple_open (Some x) e = absurd (cc)

character_open : (o : Option ℕ) (m : ℕ) → if_character o m ≡ Closed → ⊥
character_open None m e = absurd (cc)
character_open (Some x) m e = elim (chosen (is_character x) _ _ Closed e) [ inl h ↦ absurd (cc) | inr h ↦ absurd (cc) ]

escape_open : (cs : List ℕ) → escape cs ≡ Closed → ⊥
escape_open [] e = absurd (cc)
escape_open (c ∷ cs) e =
    elim (chosen (c == 10) _ _ Closed e) [
      | inl h ↦ absurd (cc)
      | inr h ↦ elim (chosen (digits_of c == 0) _ _ Closed h.1) [ inl g ↦ simple_open (simple c) g.1 | inr g ↦ character_open (number (digits_of c) 0 cs) (suc (digits_of c)) g.1 ]
    ]

double_closed : (c : ℕ) (cs : List ℕ) → double_step c cs ≡ Closed → (c ≡ 34) × (true ≡ true)
double_closed c cs e =
    elim (chosen (c == 34) _ _ Closed e) [
      | inl h ↦ (eqb-true c 34 h.0, refl)
      | inr h ↦ elim (chosen (c == 92) _ _ Closed h.1) [
        | inl g ↦ absurd (escape_open cs g.1)
        | inr g ↦ elim (chosen (c == 13) _ _ Closed g.1) [ inl w ↦ absurd (cc) | inr w ↦ elim (chosen (white c) _ _ Closed w.1) [ inl v ↦ absurd (cc) | inr v ↦ absurd (cc) ] ]
      ]
    ]

escape_stands : (cs v : List ℕ) (k : ℕ) → escape cs ≡ Stands v k → DoublePiece (drop k cs) (92 ∷ take k cs) v
escape_stands [] v k e = absurd (cc)
escape_stands (c ∷ cs) v k e =
    elim (chosen (c == 10) _ _ (Stands v k) e) [
      | inl h ↦
          let s = stands_same (breaks (count_of is_feed (white_front cs))) v (suc (length (white_front cs))) k h.1 in
          let w = white_all cs in
          let c_is = eqb-true c 10 h.0 in
          let space : White (take (length (white_front cs)) cs) (drop (length (white_front cs)) cs) = record { each = subst (Each white) (sym w.1) w.0; no_more = w.2 } in
          let one : DoublePiece (drop (length (white_front cs)) cs) (92 ∷ 10 ∷ take (length (white_front cs)) cs) (breaks (count_of is_feed (take (length (white_front cs)) cs))) = Joined (take (length (white_front cs)) cs) space in
          let two : DoublePiece (drop (length (white_front cs)) cs) (92 ∷ c ∷ take (length (white_front cs)) cs) (breaks (count_of is_feed (white_front cs))) =
          subst (λ x. DoublePiece (drop (length (white_front cs)) cs) (92 ∷ x ∷ take (length (white_front cs)) cs) (breaks (count_of is_feed (white_front cs)))) (sym c_is)
          (subst (λ xs. DoublePiece (drop (length (white_front cs)) cs) (92 ∷ 10 ∷ take (length (white_front cs)) cs) (breaks (count_of is_feed xs))) w.1 one) in
          subst (λ n. DoublePiece (drop n (c ∷ cs)) (92 ∷ take n (c ∷ cs)) v) s.1 (subst (DoublePiece (drop (length (white_front cs)) cs) (92 ∷ c ∷ take (length (white_front cs)) cs)) s.0 two)
      | inr h ↦ elim (chosen (digits_of c == 0) _ _ (Stands v k) h.1) [
        | inl g ↦
            let s = simple_stands (simple c) v k g.1 in
            subst (λ n. DoublePiece (drop n (c ∷ cs)) (92 ∷ take n (c ∷ cs)) v) s.3 (subst (DoublePiece cs (92 ∷ c ∷ [])) s.2 (Simple c s.0 h.0 g.0 s.1))
        | inr g ↦
            let s = character_stands (number (digits_of c) 0 cs) (suc (digits_of c)) v k g.1 in
            let t = digits_taken (digits_of c) 0 cs s.0 s.1 in
            subst (λ n. DoublePiece (drop n (c ∷ cs)) (92 ∷ take n (c ∷ cs)) v) s.4
            (subst (DoublePiece (drop (digits_of c) cs) (92 ∷ c ∷ take (digits_of c) cs)) s.3 (Numbered c s.0 (take (digits_of c) cs) h.0 g.0 t.0 t.1 s.2))
      ]
    ]

double_stands : (c : ℕ) (cs v : List ℕ) (k : ℕ) → double_step c cs ≡ Stands v k → DoublePiece (drop k cs) (c ∷ take k cs) v
double_stands c cs v k e =
    elim (chosen (c == 34) _ _ (Stands v k) e) [
      | inl h ↦ absurd (cc)
      | inr h ↦ elim (chosen (c == 92) _ _ (Stands v k) h.1) [
        | inl g ↦ subst (λ x. DoublePiece (drop k cs) (x ∷ take k cs) v) (sym (eqb-true c 92 g.0)) (escape_stands cs v k g.1)
        | inr g ↦ elim (chosen (c == 13) _ _ (Stands v k) g.1) [
          | inl w ↦ absurd (cc)
          | inr w ↦ elim (chosen (white c) _ _ (Stands v k) w.1) [
            | inl y ↦ let s = stands_same _ v (length (white_front cs)) k y.1 in
                subst (λ n. DoublePiece (drop n cs) (c ∷ take n cs) v) s.1 (at (white_space c cs y.0) (white_all cs).1 s.0 (count_of is_feed (c ∷ white_front cs)) refl)
            | inr y ↦ let s = stands_same (c ∷ []) v 0 k y.1 in
                subst (λ n. DoublePiece (drop n cs) (c ∷ take n cs) v) s.1 (subst (DoublePiece cs (c ∷ [])) s.0 (DoubleOther c h.0 g.0 w.0 y.0))
          ]
        ]
      ]
    ]
  where
    m : ℕ
    m = length (white_front cs)

    at : White (c ∷ take m cs) (drop m cs) → take m cs ≡ white_front cs → white_stands (c ∷ white_front cs) (count_of is_feed (c ∷ white_front cs)) ≡ v → (n : ℕ) → count_of is_feed (c ∷ white_front cs) ≡ n →
        DoublePiece (drop m cs) (c ∷ take m cs) v
    at w t s zero f =
        subst (DoublePiece (drop m cs) (c ∷ take m cs)) (ap (λ xs. c ∷ xs) t ∙ sym (ap (white_stands (c ∷ white_front cs)) f) ∙ s)
        (DoubleBlanks c (take m cs) w (ap (λ xs. count_of is_feed (c ∷ xs)) t ∙ f))
    at w t s (suc j) f =
        subst (DoublePiece (drop m cs) (c ∷ take m cs)) (sym (ap (white_stands (c ∷ white_front cs)) f) ∙ s)
        (DoubleFold c j (take m cs) w (ap (λ xs. count_of is_feed (c ∷ xs)) t ∙ f))

double_white : (c : ℕ) (cs : List ℕ) → white c ≡ true → double_step c cs ≡ white_step c cs
double_white c cs e = by_white (λ x. double_step x cs ≡ white_step x cs) c e refl refl refl

double_back : (rest spelled meant : List ℕ) → DoublePiece rest spelled meant → (c : ℕ) × (cs : List ℕ) × (spelled ≡ c ∷ cs) × (double_step c (cs ++ rest) ≡ Stands meant (length cs))
double_back rest _ _ (DoubleOther c a b d w) =
    (c, [], refl, cond-false (c == 34) _ _ a ∙ cond-false (c == 92) _ _ b ∙ cond-false (c == 13) _ _ d ∙ cond-false (white c) _ _ w)
double_back rest _ _ (DoubleBlanks c w h z) = (c, w, refl, double_white c (w ++ rest) h.each.0 ∙ white_stands_is c w rest (c ∷ w) h (ap (white_stands (c ∷ w)) z))
double_back rest _ _ (DoubleFold c k w h z) = (c, w, refl, double_white c (w ++ rest) h.each.0 ∙ white_stands_is c w rest (folded k) h (ap (white_stands (c ∷ w)) z))
double_back rest _ _ (Simple e c n d s) = (92, e ∷ [], refl, cond-false (e == 10) _ _ n ∙ cond-true (digits_of e == 0) _ _ d ∙ ap if_simple s)
double_back rest _ _ (Numbered e v ds n d l x i) = (
  92,
  e ∷ ds,
  refl,
  cond-false (e == 10) _ _ n ∙ cond-false (digits_of e == 0) _ _ d ∙ ap (λ o. if_character o (suc (digits_of e))) (digits_before (digits_of e) 0 ds rest v l x)
      ∙ cond-true (is_character v) _ _ i ∙ ap (λ k. Stands (v ∷ []) (suc k)) (sym l),
)
double_back rest _ _ (Joined w h) = (92, 10 ∷ w, refl, ap (λ xs. Stands (breaks (count_of is_feed xs)) (suc (length xs))) (white_again w rest h.each h.no_more))

pub double_sound : (text : List ℕ) (r : List ℕ × ℕ) → quoted double_step 0 text ≡ Some r → Double text r.0 (drop r.1 text)
double_sound text r e = inside_sound 34 (λ _. true) DoublePiece double_step double_closed double_stands 0 text r e

pub double_complete : (text value rest : List ℕ) → Double text value rest → Found double_step text value rest
double_complete text value rest h = inside_complete 34 (λ _. true) DoublePiece double_step (λ cs e. refl) double_back text value rest h

-- between single quotes
single_closed : (c : ℕ) (cs : List ℕ) → single_step c cs ≡ Closed → (c ≡ 39) × (not (begins_with 39 cs) ≡ true)
single_closed c cs e =
    elim (chosen (c == 39) _ _ Closed e) [
      | inl h ↦ elim (chosen (begins_with 39 cs) _ _ Closed h.1) [ inl g ↦ absurd (cc) | inr g ↦ (eqb-true c 39 h.0, ap not g.0) ]
      | inr h ↦ elim (chosen (c == 13) _ _ Closed h.1) [ inl w ↦ absurd (cc) | inr w ↦ elim (chosen (white c) _ _ Closed w.1) [ inl v ↦ absurd (cc) | inr v ↦ absurd (cc) ] ]
    ]

two_quotes : (c : ℕ) (cs : List ℕ) → c ≡ 39 → begins_with 39 cs ≡ true → SinglePiece (drop 1 cs) (c ∷ take 1 cs) (39 ∷ [])
two_quotes c [] e f = absurd (cc)
two_quotes c (d ∷ cs) e f = subst (λ x. SinglePiece cs (x ∷ d ∷ []) (39 ∷ [])) (sym e) (subst (λ x. SinglePiece cs (39 ∷ x ∷ []) (39 ∷ [])) (sym (eqb-true d 39 f)) SingleQuote)

single_stands : (c : ℕ) (cs v : List ℕ) (k : ℕ) → single_step c cs ≡ Stands v k → SinglePiece (drop k cs) (c ∷ take k cs) v
single_stands c cs v k e =
    elim (chosen (c == 39) _ _ (Stands v k) e) [
      | inl h ↦ elim (chosen (begins_with 39 cs) _ _ (Stands v k) h.1) [
        | inl g ↦ let s = stands_same (39 ∷ []) v 1 k g.1 in
            subst (λ n. SinglePiece (drop n cs) (c ∷ take n cs) v) s.1 (subst (SinglePiece (drop 1 cs) (c ∷ take 1 cs)) s.0 (two_quotes c cs (eqb-true c 39 h.0) g.0))
        | inr g ↦ absurd (cc)
      ]
      | inr h ↦ elim (chosen (c == 13) _ _ (Stands v k) h.1) [
        | inl w ↦ absurd (cc)
        | inr w ↦ elim (chosen (white c) _ _ (Stands v k) w.1) [
          | inl y ↦ let s = stands_same _ v (length (white_front cs)) k y.1 in
              subst (λ n. SinglePiece (drop n cs) (c ∷ take n cs) v) s.1 (at (white_space c cs y.0) (white_all cs).1 s.0 (count_of is_feed (c ∷ white_front cs)) refl)
          | inr y ↦ let s = stands_same (c ∷ []) v 0 k y.1 in
              subst (λ n. SinglePiece (drop n cs) (c ∷ take n cs) v) s.1 (subst (SinglePiece cs (c ∷ [])) s.0 (SingleOther c h.0 w.0 y.0))
        ]
      ]
    ]
  where
    m : ℕ
    m = length (white_front cs)

    at : White (c ∷ take m cs) (drop m cs) → take m cs ≡ white_front cs → white_stands (c ∷ white_front cs) (count_of is_feed (c ∷ white_front cs)) ≡ v → (n : ℕ) → count_of is_feed (c ∷ white_front cs) ≡ n →
        SinglePiece (drop m cs) (c ∷ take m cs) v
    at w t s zero f =
        subst (SinglePiece (drop m cs) (c ∷ take m cs)) (ap (λ xs. c ∷ xs) t ∙ sym (ap (white_stands (c ∷ white_front cs)) f) ∙ s)
        (SingleBlanks c (take m cs) w (ap (λ xs. count_of is_feed (c ∷ xs)) t ∙ f))
    at w t s (suc j) f =
        subst (SinglePiece (drop m cs) (c ∷ take m cs)) (sym (ap (white_stands (c ∷ white_front cs)) f) ∙ s)
        (SingleFold c j (take m cs) w (ap (λ xs. count_of is_feed (c ∷ xs)) t ∙ f))

single_white : (c : ℕ) (cs : List ℕ) → white c ≡ true → single_step c cs ≡ white_step c cs
single_white c cs e = by_white (λ x. single_step x cs ≡ white_step x cs) c e refl refl refl

single_back : (rest spelled meant : List ℕ) → SinglePiece rest spelled meant → (c : ℕ) × (cs : List ℕ) × (spelled ≡ c ∷ cs) × (single_step c (cs ++ rest) ≡ Stands meant (length cs))
single_back rest _ _ (SingleOther c a b w) = (c, [], refl, cond-false (c == 39) _ _ a ∙ cond-false (c == 13) _ _ b ∙ cond-false (white c) _ _ w)
single_back rest _ _ SingleQuote = (39, 39 ∷ [], refl, refl)
single_back rest _ _ (SingleBlanks c w h z) = (c, w, refl, single_white c (w ++ rest) h.each.0 ∙ white_stands_is c w rest (c ∷ w) h (ap (white_stands (c ∷ w)) z))
single_back rest _ _ (SingleFold c k w h z) = (c, w, refl, single_white c (w ++ rest) h.each.0 ∙ white_stands_is c w rest (folded k) h (ap (white_stands (c ∷ w)) z))

pub single_sound : (text : List ℕ) (r : List ℕ × ℕ) → quoted single_step 0 text ≡ Some r → Single text r.0 (drop r.1 text)
single_sound text r e = inside_sound 39 (λ rest. not (begins_with 39 rest)) SinglePiece single_step single_closed single_stands 0 text r e

pub single_complete : (text value rest : List ℕ) → Single text value rest → Found single_step text value rest
single_complete text value rest h =
    inside_complete 39 (λ rest. not (begins_with 39 rest)) SinglePiece single_step (λ cs e. cond-false (begins_with 39 cs) _ _ (not-true _ e)) single_back text value rest h
