-- Laws of the list of live cells, and of lists that are the same but for some objects' cells.
use Rattle.std.proofs.Common.{◌≡◌, ◌⊎◌, ◌+◌, ℕ, suc, ℤ, pos, Bool, true, false, not, ◌&&◌, ◌||◌, nat_eq, IsTrue, List, [], ◌∷◌, ◌++◌, length, take, refl, sym, ap, ◌∙◌, subst, inl, inr, ⊎_elim, arith, true≢false}
use Rattle.std.proofs.lemmas.Bool.{cases_Bool, or_right, or_parts, and_parts}
use Rattle.std.proofs.lemmas.Bool.Decides.{nat_tests}
use Rattle.std.proofs.lemmas.List.{map-append}
use Rattle.c_core.specs.Tree.{Program}
use Rattle.c_meaning.specs.Cells.{Key, Cell, same_key, live, read, put}
use Rattle.c_meaning.specs.Parts.{is_in}
use Rattle.c_meaning.specs.Fitting.{keys}
use Rattle.c_frames.specs.Frames.{IsCellOf, SameBut}

pub same_number : (a b : ℕ) → nat_eq a b ≡ true → a ≡ b
same_number a b h = grind (arith, nat_tests)

pub same_itself : (n : ℕ) → nat_eq n n ≡ true
same_itself n = grind (arith, nat_tests)

pub same_name : (a b : Key) → same_key a b ≡ true → a ≡ b
same_name a b e = let q = and_parts (nat_eq a.object b.object) (nat_eq a.index b.index) e in
    let o = same_number _ _ q.0 in let i = same_number _ _ q.1 in λ x. record { object = o x; index = i x }

and_true : (a b : Bool) → a ≡ true → b ≡ true → (a && b) ≡ true
and_true true b p q = q
and_true false b p q = p

pub name_same : (a b : Key) → a ≡ b → same_key a b ≡ true
name_same a b e = subst (λ k. same_key a k ≡ true) e (and_true _ _ (same_itself a.object) (same_itself a.index))

-- such a name among names
abbrev pub among : Key → List Key → Bool
among k [] = false
among k (x ∷ xs) = same_key x k || among k xs

pub live_among : (k : Key) (cs : List Cell) → live k cs ≡ among k (keys cs)
live_among k [] = refl
live_among k (c ∷ cs) = ap (λ b. same_key c.key k || b) (live_among k cs)

or_assoc : (p q r : Bool) → (p || (q || r)) ≡ ((p || q) || r)
or_assoc true q r = refl
or_assoc false q r = refl

or_false : (p : Bool) → (p || false) ≡ p
or_false true = refl
or_false false = refl

pub among-append : (k : Key) (xs ys : List Key) → among k (xs ++ ys) ≡ (among k xs || among k ys)
among-append k [] ys = refl
among-append k (x ∷ xs) ys = ap (λ b. same_key x k || b) (among-append k xs ys) ∙ or_assoc (same_key x k) (among k xs) (among k ys)

pub live-append : (k : Key) (a b : List Cell) → live k (a ++ b) ≡ (live k a || live k b)
live-append k [] b = refl
live-append k (x ∷ a) b = ap (λ t. same_key x.key k || t) (live-append k a b) ∙ or_assoc (same_key x.key k) (live k a) (live k b)

live_low : (k : Key) (a b : List Cell) → live k b ≡ false → live k (a ++ b) ≡ live k a
live_low k a b l = live-append k a b ∙ ap (λ t. live k a || t) l ∙ or_false (live k a)

-- where a name's innermost cell stands among cells: behind the first, it is the first, or nowhere
pub data Place (k : Key) (x : Cell) (xs : List Cell) : Type 0 where
  Behind : live k xs ≡ true → Place k x xs
  Here : live k xs ≡ false → same_key x.key k ≡ true → Place k x xs
  Absent : live k xs ≡ false → same_key x.key k ≡ false → Place k x xs

pub place : (k : Key) (x : Cell) (xs : List Cell) → Place k x xs
place k x xs = ⊎_elim Behind (λ l. ⊎_elim (Here l) (Absent l) (cases_Bool (same_key x.key k))) (cases_Bool (live k xs))

pub put_behind : (k : Key) (v : ℤ) (x : Cell) (xs : List Cell) → live k xs ≡ true → put k v (x ∷ xs) ≡ x ∷ put k v xs
put_behind k v x xs l = rw l refl

pub put_here : (k : Key) (v : ℤ) (x : Cell) (xs : List Cell) → live k xs ≡ false → same_key x.key k ≡ true → put k v (x ∷ xs) ≡ record { key = x.key; value = v } ∷ xs
put_here k v x xs l e = rw (l, e) refl

pub put_absent : (k : Key) (v : ℤ) (x : Cell) (xs : List Cell) → live k xs ≡ false → same_key x.key k ≡ false → put k v (x ∷ xs) ≡ x ∷ xs
put_absent k v x xs l e = rw (l, e) refl

pub read_behind : (k : Key) (x : Cell) (xs : List Cell) → live k xs ≡ true → read k (x ∷ xs) ≡ read k xs
read_behind k x xs l = rw l refl

pub read_here : (k : Key) (x : Cell) (xs : List Cell) → live k xs ≡ false → same_key x.key k ≡ true → read k (x ∷ xs) ≡ x.value
read_here k x xs l e = rw (l, e) refl

pub read_absent : (k : Key) (x : Cell) (xs : List Cell) → live k xs ≡ false → same_key x.key k ≡ false → read k (x ∷ xs) ≡ pos 0
read_absent k x xs l e = rw (l, e) refl

-- what lives nowhere isn't written
pub put_dead : (k : Key) (v : ℤ) (cs : List Cell) → live k cs ≡ false → put k v cs ≡ cs
put_dead k v [] e = refl
put_dead k v (x ∷ xs) e = let q = or_parts (same_key x.key k) (live k xs) e in put_absent k v x xs q.1 q.0

pub put_high : (k : Key) (v : ℤ) (a b : List Cell) → live k b ≡ true → put k v (a ++ b) ≡ a ++ put k v b
put_high k v [] b l = refl
put_high k v (x ∷ a) b l = put_behind k v x (a ++ b) (live-append k a b ∙ or_right _ _ l) ∙ ap (λ r. x ∷ r) (put_high k v a b l)

pub put_low : (k : Key) (v : ℤ) (a b : List Cell) → live k b ≡ false → put k v (a ++ b) ≡ put k v a ++ b
put_low k v [] b l = put_dead k v b l
put_low k v (x ∷ a) b l = by_place (place k x a) (put_low k v a b l)
  where
    by_place : Place k x a → put k v (a ++ b) ≡ put k v a ++ b → put k v (x ∷ (a ++ b)) ≡ put k v (x ∷ a) ++ b
    by_place (Behind p) ih = put_behind k v x (a ++ b) (live_low k a b l ∙ p) ∙ ap (λ r. x ∷ r) ih ∙ ap (λ r. r ++ b) (sym (put_behind k v x a p))
    by_place (Here p e) ih = put_here k v x (a ++ b) (live_low k a b l ∙ p) e ∙ ap (λ r. r ++ b) (sym (put_here k v x a p e))
    by_place (Absent p e) ih = put_absent k v x (a ++ b) (live_low k a b l ∙ p) e ∙ ap (λ r. r ++ b) (sym (put_absent k v x a p e))

pub keys_put : (k : Key) (v : ℤ) (cs : List Cell) → keys (put k v cs) ≡ keys cs
keys_put k v [] = refl
keys_put k v (x ∷ xs) = by_place (place k x xs) (keys_put k v xs)
  where
    by_place : Place k x xs → keys (put k v xs) ≡ keys xs → keys (put k v (x ∷ xs)) ≡ keys (x ∷ xs)
    by_place (Behind p) ih = ap keys (put_behind k v x xs p) ∙ ap (λ r. x.key ∷ r) ih
    by_place (Here p e) ih = ap keys (put_here k v x xs p e)
    by_place (Absent p e) ih = ap keys (put_absent k v x xs p e)

pub keys-append : (a b : List Cell) → keys (a ++ b) ≡ keys a ++ keys b
keys-append a b = map-append (λ c. c.key) a b

-- the old cells and the first of the new ones
pub take_over : (a b : List Cell) (n : ℕ) → take (length a + n) (a ++ b) ≡ a ++ take n b
take_over [] b n = ap (λ i. take i b) (omega arith)
take_over (x ∷ a) b n = let e : suc (length a) + n ≡ suc (length a + n) = omega arith in ap (λ i. take i (x ∷ (a ++ b))) e ∙ ap (λ r. x ∷ r) (take_over a b n)

pub keys_length : (cs : List Cell) → length (keys cs) ≡ length cs
keys_length [] = refl
keys_length (x ∷ xs) = ap suc (keys_length xs)

abbrev first_key : Key → List Key → Key
first_key k [] = k
first_key k (x ∷ xs) = x

abbrev other_keys : List Key → List Key
other_keys [] = []
other_keys (x ∷ xs) = xs

pub names_take : (ks more : List Key) (cs : List Cell) → keys cs ≡ ks ++ more → keys (take (length ks) cs) ≡ ks
names_take [] more cs e = refl
names_take (k ∷ ks) more [] e = absurd (cc)
names_take (k ∷ ks) more (x ∷ cs) e = ap (λ y. y ∷ keys (take (length ks) cs)) (ap (first_key k) e) ∙ ap (λ ys. k ∷ ys) (names_take ks more cs (ap other_keys e))

module _ (p : Program) (os : List ℕ) where
  abbrev Same : List Cell → List Cell → Type 0
  Same cs ds = SameBut p os cs ds

  pub same_refl : (cs : List Cell) → Same cs cs
  same_refl [] = tt
  same_refl (c ∷ cs) = (refl, inl refl, same_refl cs)

  pub same_live : (k : Key) (cs ds : List Cell) → Same cs ds → live k ds ≡ live k cs
  same_live k [] [] h = refl
  same_live k [] (d ∷ ds) h = absurd h
  same_live k (c ∷ cs) [] h = absurd h
  same_live k (c ∷ cs) (d ∷ ds) h = ap (λ n. same_key n k || live k ds) h.0 ∙ ap (λ b. same_key c.key k || b) (same_live k cs ds h.2)

  pub same_length : (cs ds : List Cell) → Same cs ds → length ds ≡ length cs
  same_length [] [] h = refl
  same_length [] (d ∷ ds) h = absurd h
  same_length (c ∷ cs) [] h = absurd h
  same_length (c ∷ cs) (d ∷ ds) h = ap suc (same_length cs ds h.2)

  pub same_keys : (cs ds : List Cell) → Same cs ds → keys ds ≡ keys cs
  same_keys [] [] h = refl
  same_keys [] (d ∷ ds) h = absurd h
  same_keys (c ∷ cs) [] h = absurd h
  same_keys (c ∷ cs) (d ∷ ds) h = ap (λ k. k ∷ keys ds) h.0 ∙ ap (λ ks. c.key ∷ ks) (same_keys cs ds h.2)

  abbrev May : Key → List Cell → Type 0
  May k cs = IsCellOf p os k × (live k cs ≡ false)

  pub same_trans : (cs ds es : List Cell) → Same cs ds → Same ds es → Same cs es
  same_trans [] [] [] h g = tt
  same_trans [] [] (e ∷ es) h g = absurd g
  same_trans [] (d ∷ ds) es h g = absurd h
  same_trans (c ∷ cs) [] es h g = absurd h
  same_trans (c ∷ cs) (d ∷ ds) [] h g = absurd g
  same_trans (c ∷ cs) (d ∷ ds) (e ∷ es) h g = (g.0 ∙ h.0, value h.1 g.1, same_trans cs ds es h.2 g.2)
    where
      value : (d.value ≡ c.value) ⊎ May c.key cs → (e.value ≡ d.value) ⊎ May d.key ds → (e.value ≡ c.value) ⊎ May c.key cs
      value (inr m) q = inr m
      value (inl i) (inl j) = inl (j ∙ i)
      value (inl i) (inr m) = inr (subst (λ k. IsCellOf p os k) h.0 m.0, sym (same_live c.key cs ds h.2) ∙ subst (λ k. live k ds ≡ false) h.0 m.1)

  pub same_put : (k : Key) (v : ℤ) (cs : List Cell) → IsCellOf p os k → Same cs (put k v cs)
  same_put k v [] m = tt
  same_put k v (x ∷ xs) m = by_place (place k x xs) (same_put k v xs m)
    where
      by_place : Place k x xs → Same xs (put k v xs) → Same (x ∷ xs) (put k v (x ∷ xs))
      by_place (Behind l) ih = subst (λ cs. Same (x ∷ xs) cs) (sym (put_behind k v x xs l)) (refl, inl refl, ih)
      by_place (Here l e) ih =
          let q : k ≡ x.key = sym (same_name x.key k e) in
          subst (λ cs. Same (x ∷ xs) cs) (sym (put_here k v x xs l e)) (refl, inr (subst (λ n. IsCellOf p os n) q m, subst (λ n. live n xs ≡ false) q l), same_refl xs)
      by_place (Absent l e) ih = subst (λ cs. Same (x ∷ xs) cs) (sym (put_absent k v x xs l e)) (same_refl (x ∷ xs))

  -- the one part of the cells, and the other
  pub record Split (a b c : List Cell) : Type 0 where
    pub low : List Cell
    pub high : List Cell
    pub is : c ≡ low ++ high
    pub same : Same a low
    pub names : keys high ≡ keys b

  pub same_split : (a b c : List Cell) → Same (a ++ b) c → Split a b c
  same_split [] b c h = record { low = []; high = c; is = refl; same = tt; names = same_keys b c h }
  same_split (x ∷ a) b [] h = absurd h
  same_split (x ∷ a) b (y ∷ c) h =
      let r = same_split a b c h.2 in
      record {
        low = y ∷ r.low;
        high = r.high;
        is = ap (λ l. y ∷ l) r.is;
        same = (h.0, ⊎_elim inl (λ m. inr (m.0, (or_parts _ _ (sym (live-append x.key a b) ∙ m.1)).0)) h.1, r.same);
        names = r.names;
      }

  -- another cell's value is the same
  pub same_read : (k : Key) (cs ds : List Cell) → (is_in k.object os ≡ false) → Same cs ds → read k ds ≡ read k cs
  same_read k [] [] n h = refl
  same_read k [] (d ∷ ds) n h = absurd h
  same_read k (c ∷ cs) [] n h = absurd h
  same_read k (c ∷ cs) (d ∷ ds) n h = by_place (place k c cs) (same_read k cs ds n h.2)
    where
      live_too : (b : Bool) → live k cs ≡ b → live k ds ≡ b
      live_too b e = same_live k cs ds h.2 ∙ e

      name_too : (b : Bool) → same_key c.key k ≡ b → same_key d.key k ≡ b
      name_too b e = ap (λ n. same_key n k) h.0 ∙ e

      by_place : Place k c cs → read k ds ≡ read k cs → read k (d ∷ ds) ≡ read k (c ∷ cs)
      by_place (Behind l) ih = read_behind k d ds (live_too true l) ∙ ih ∙ sym (read_behind k c cs l)
      by_place (Here l e) ih =
          let q = same_name c.key k e in
          read_here k d ds (live_too false l) (name_too true e) ∙ ⊎_elim (λ v. v) (λ m. absurd (true≢false (sym (subst (λ x. is_in x.object os ≡ true) q m.0.0) ∙ n))) h.1 ∙ sym (read_here k c cs l e)
      by_place (Absent l e) ih = read_absent k d ds (live_too false l) (name_too false e) ∙ sym (read_absent k c cs l e)

not_in : (b : Bool) → IsTrue (not b) → b ≡ false
not_in true h = absurd (true≢false (sym h))
not_in false h = refl

pub others_read : (p : Program) (os : List ℕ) (cs ds : List Cell) → SameBut p os cs ds → (k : Key) → IsTrue (not (is_in k.object os)) → read k ds ≡ read k cs
others_read p os cs ds h k n = same_read p os k cs ds (not_in (is_in k.object os) n) h
