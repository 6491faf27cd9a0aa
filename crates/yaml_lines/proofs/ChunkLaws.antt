-- Chunks, quiet lines and blanks: the functions and the relations agree.
use Rattle.std.proofs.Common.{◌≡◌, ℕ, List, [], ◌∷◌, ◌++◌, Bool, true, false, refl, sym, ap, ◌∙◌, subst, inl, inr, ◌⊎◌, append-nil, Option, Some}
use Rattle.yaml_lines.specs.Chunks.{NoneOf, Each, Pairwise, unchunked, AreChunks, onto, chunked, collected}
use Rattle.yaml_lines.specs.Marks.{blank, trimmed, gap, quiet, Quiet, Trimmed, ahead}
use Rattle.yaml_lines.specs.Line.{Line}
use Rattle.yaml_lines.proofs.Parts.{bind_some}

module _ {X : Type 0} (head : X → Bool) where
  onto_whole : (b : Bool) (x : X) (r : List X × List (X × List X)) → (onto b x r).0 ++ unchunked (onto b x r).1 ≡ x ∷ (r.0 ++ unchunked r.1)
  onto_whole true x r = refl
  onto_whole false x r = refl

  pub chunked_whole : (xs : List X) → (chunked head xs).0 ++ unchunked (chunked head xs).1 ≡ xs
  chunked_whole [] = refl
  chunked_whole (x ∷ xs) = onto_whole (head x) x (chunked head xs) ∙ ap (λ ys. x ∷ ys) (chunked_whole xs)

  onto_chunks : (b : Bool) (x : X) (r : List X × List (X × List X)) → head x ≡ b → NoneOf head r.0 × AreChunks head r.1 → NoneOf head (onto b x r).0 × AreChunks head (onto b x r).1
  onto_chunks true x r e h = (tt, (e, h.0, h.1))
  onto_chunks false x r e h = ((e, h.0), h.1)

  pub chunked_chunks : (xs : List X) → NoneOf head (chunked head xs).0 × AreChunks head (chunked head xs).1
  chunked_chunks [] = (tt, tt)
  chunked_chunks (x ∷ xs) = onto_chunks (head x) x (chunked head xs) refl (chunked_chunks xs)

  -- nothing stands before a first head
  pub chunked_front : (x : X) (xs : List X) → head x ≡ true → (chunked head (x ∷ xs)).0 ≡ []
  chunked_front x xs e = rw e refl

  pub chunked_head : (x : X) (xs : List X) → head x ≡ true → x ∷ xs ≡ unchunked (chunked head (x ∷ xs)).1
  chunked_head x xs e = sym (chunked_whole (x ∷ xs)) ∙ ap (λ f. f ++ unchunked (chunked head (x ∷ xs)).1) (chunked_front x xs e)

  chunked_body : (body zs : List X) → NoneOf head body → chunked head (body ++ zs) ≡ (body ++ (chunked head zs).0, (chunked head zs).1)
  chunked_body [] zs h = refl
  chunked_body (x ∷ body) zs h = rw (h.0, chunked_body body zs h.1) refl

  pub chunked_again : (cs : List (X × List X)) → AreChunks head cs → chunked head (unchunked cs) ≡ ([], cs)
  chunked_again [] h = refl
  chunked_again (c ∷ cs) h = rw (h.0, chunked_body c.1 (unchunked cs) h.1, chunked_again cs h.2, append-nil c.1) refl

-- lists of results
module _ {A B : Type 0} (f : A → Option B) (R : A → B → Type 0) where
  pub collected_sound : ((x : A) (y : B) → f x ≡ Some y → R x y) → (xs : List A) (ys : List B) → collected f xs ≡ Some ys → Pairwise R xs ys
  collected_sound h [] [] e = tt
  collected_sound h [] (y ∷ ys) e = absurd (cc)
  collected_sound h (x ∷ xs) ys e =
      let one = bind_some (f x) _ ys e in
      let others = bind_some (collected f xs) _ ys one.2 in
      let same : one.0 ∷ others.0 ≡ ys = cc in
      subst (λ zs. Pairwise R (x ∷ xs) zs) same (h x one.0 one.1, collected_sound h xs others.0 others.1)

  pub collected_complete : ((x : A) (y : B) → R x y → f x ≡ Some y) → (xs : List A) (ys : List B) → Pairwise R xs ys → collected f xs ≡ Some ys
  collected_complete h [] [] p = refl
  collected_complete h [] (y ∷ ys) p = absurd p
  collected_complete h (x ∷ xs) [] p = absurd p
  collected_complete h (x ∷ xs) (y ∷ ys) p = rw (h x y p.0, collected_complete h xs ys p.1) refl

-- quiet lines
pub record Ahead (ls : List Line) : Type 0 where
  pub before : List Line
  pub first : Line
  pub others : List Line
  pub whole : ls ≡ before ++ (first ∷ others)
  pub skipped : Quiet before
  pub loud : quiet first.text ≡ false
  pub is : ahead ls ≡ first ∷ others

pub ahead_cases : (ls : List Line) → (Quiet ls × (ahead ls ≡ [])) ⊎ Ahead ls
ahead_cases [] = inl (tt, refl)
ahead_cases (l ∷ ls) = at_line (ahead_cases ls) (quiet l.text) refl
  where
    more : quiet l.text ≡ true → (Quiet ls × (ahead ls ≡ [])) ⊎ Ahead ls → (Quiet (l ∷ ls) × (ahead (l ∷ ls) ≡ [])) ⊎ Ahead (l ∷ ls)
    more q (inl h) = inl ((q, h.0), rw q h.1)
    more q (inr a) = inr (record { before = l ∷ a.before; first = a.first; others = a.others; whole = ap (λ xs. l ∷ xs) a.whole; skipped = (q, a.skipped); loud = a.loud; is = rw q a.is })

    at_line : (Quiet ls × (ahead ls ≡ [])) ⊎ Ahead ls → (b : Bool) → quiet l.text ≡ b → (Quiet (l ∷ ls) × (ahead (l ∷ ls) ≡ [])) ⊎ Ahead (l ∷ ls)
    at_line h true q = more q h
    at_line h false q = inr (record { before = []; first = l; others = ls; whole = refl; skipped = tt; loud = q; is = rw q refl })

pub ahead_quiet : (ls : List Line) → Quiet ls → ahead ls ≡ []
ahead_quiet [] h = refl
ahead_quiet (l ∷ ls) h = rw h.0 (ahead_quiet ls h.1)

pub ahead_loud : (before : List Line) (first : Line) (others : List Line) → Quiet before → quiet first.text ≡ false → ahead (before ++ (first ∷ others)) ≡ first ∷ others
ahead_loud [] first others h q = rw q refl
ahead_loud (l ∷ before) first others h q = rw h.0 (ahead_loud before first others h.1 q)

-- blanks
pub gap_whole : (bs : List ℕ) → bs ≡ gap bs ++ trimmed bs
gap_whole [] = refl
gap_whole (b ∷ bs) = at_byte (gap_whole bs) (blank b) refl
  where
    at_byte : bs ≡ gap bs ++ trimmed bs → (v : Bool) → blank b ≡ v → b ∷ bs ≡ gap (b ∷ bs) ++ trimmed (b ∷ bs)
    at_byte h true e = rw e (ap (λ xs. b ∷ xs) h)
    at_byte h false e = rw e refl

pub gap_blanks : (bs : List ℕ) → Each blank (gap bs) × Trimmed (trimmed bs)
gap_blanks [] = (tt, tt)
gap_blanks (b ∷ bs) = at_byte (gap_blanks bs) (blank b) refl
  where
    at_byte : Each blank (gap bs) × Trimmed (trimmed bs) → (v : Bool) → blank b ≡ v → Each blank (gap (b ∷ bs)) × Trimmed (trimmed (b ∷ bs))
    at_byte h true e = rw e ((e, h.0), h.1)
    at_byte h false e = rw e (tt, e)

pub gap_again : (g text : List ℕ) → Each blank g → Trimmed text → (gap (g ++ text) ≡ g) × (trimmed (g ++ text) ≡ text)
gap_again [] [] h t = (refl, refl)
gap_again [] (b ∷ bs) h t = (rw t refl, rw t refl)
gap_again (b ∷ g) text h t =
    let more = gap_again g text h.1 t in
    (rw h.0 (ap (λ xs. b ∷ xs) more.0), rw h.0 more.1)
