-- What a table holds after a number was put in or taken out.
use Rattle.std.proofs.Common.{◌≡◌, ◌≢◌, ◌∙◌, ℕ, ◌<◌, inl, inr, List, [], ◌∷◌, ◌++◌, length, get_or, slice_set, ℤ, pos, neg_ℤ, unsigned_abs, map, ap, sym, refl, subst, arith}
use Rattle.std.proofs.lemmas.Bool.{cases_lt}
use Rattle.std.proofs.lemmas.List.{get_or-set_same, get_or-set_other, get_or_past, length-set, append_assoc, append-nil}
use Rattle.std.proofs.lemmas.List.Elements.{Contains-append_left, Contains-push, Contains-push_cases}
use Rattle.std.specs.List.{Contains}
use Rattle.clauses.specs.Table.{cell, IsIn, Holds, written}
use Rattle.clauses.proofs.Members.{here, there}
use Rattle.clauses.proofs.Integers.{same_or_opposite, same_place}
use Rattle.clauses.proofs.Without.{without, in_without, to_without}

pub filled_within : (cells : List ℤ) (n : ℕ) → get_or cells n (pos 0) ≢ pos 0 → n < length cells
filled_within cells n h = elim (cases_lt n (length cells)) [ inl l ↦ l | inr g ↦ absurd (h (get_or_past cells n (pos 0) g)) ]

pub in_filled : (cells : List ℤ) (x : ℤ) → IsIn cells x → cell cells x ≢ pos 0
in_filled cells x i e = let z : unsigned_abs x ≡ 0 = ap unsigned_abs (sym i.1 ∙ e) in omega (arith, i.0)

pub in_within : (cells : List ℤ) (x : ℤ) → IsIn cells x → unsigned_abs x < length cells
in_within cells x i = filled_within cells (unsigned_abs x) (in_filled cells x i)

-- a variable has one number in the table
pub one_each : (cells : List ℤ) (x y : ℤ) → IsIn cells x → IsIn cells y → unsigned_abs x ≡ unsigned_abs y → x ≡ y
one_each cells x y i j e = sym i.1 ∙ ap (λ n. get_or cells n (pos 0)) e ∙ j.1

changed : (cells : List ℤ) (i j : ℕ) (v : ℤ) → i < length cells → j ≡ i → get_or (slice_set cells i v) j (pos 0) ≡ v
changed cells i j v lt e = ap (λ k. get_or (slice_set cells i v) k (pos 0)) e ∙ get_or-set_same cells i v (pos 0) lt

other : (cells : List ℤ) (i j : ℕ) (v : ℤ) → j ≢ i → get_or (slice_set cells i v) j (pos 0) ≡ get_or cells j (pos 0)
other cells i j v n = get_or-set_other cells i j v (pos 0) n

-- ---- a number taken out
taken_numbers : (cells : List ℤ) (touched : List ℕ) (now : List ℤ) (x : ℤ) (n : ℕ) → Holds cells touched now → IsIn cells x → unsigned_abs x ≡ n → (y : ℤ) → IsIn (slice_set cells n (pos 0)) y → Contains (without x now) y
taken_numbers cells touched now x n h ix e y i = elim (same_place (unsigned_abs y) n) [
  | inl q ↦ absurd (in_filled (slice_set cells n (pos 0)) y i (changed cells n (unsigned_abs y) (pos 0) (let w = in_within cells x ix in omega arith) q))
  | inr d ↦ to_without x now y ((h.numbers y).0 (i.0, sym (other cells n (unsigned_abs y) (pos 0) d) ∙ i.1)) (λ q. d (ap unsigned_abs q ∙ e))
]

left_numbers : (cells : List ℤ) (touched : List ℕ) (now : List ℤ) (x : ℤ) (n : ℕ) → Holds cells touched now → IsIn cells x → unsigned_abs x ≡ n → (y : ℤ) → Contains (without x now) y → IsIn (slice_set cells n (pos 0)) y
left_numbers cells touched now x n h ix e y i =
    let was = (h.numbers y).1 (in_without x now y i).0 in
    let d : unsigned_abs y ≢ n = λ q. (in_without x now y i).1 (one_each cells y x was ix (q ∙ sym e)) in
    (was.0, other cells n (unsigned_abs y) (pos 0) d ∙ was.1)

still_filled : (cells : List ℤ) (x : ℤ) (n k : ℕ) → IsIn cells x → unsigned_abs x ≡ n → get_or (slice_set cells n (pos 0)) k (pos 0) ≢ pos 0 → get_or (slice_set cells n (pos 0)) k (pos 0) ≡ get_or cells k (pos 0)
still_filled cells x n k ix e f = elim (same_place k n) [
  | inl q ↦ absurd (f (changed cells n k (pos 0) (let w = in_within cells x ix in omega arith) q))
  | inr d ↦ other cells n k (pos 0) d
]

pub taken_out : (cells : List ℤ) (touched : List ℕ) (now : List ℤ) (x : ℤ) (n : ℕ) → Holds cells touched now → IsIn cells x → unsigned_abs x ≡ n → Holds (slice_set cells n (pos 0)) touched (without x now)
taken_out cells touched now x n h ix e = record {
  numbers = λ y. (taken_numbers cells touched now x n h ix e y, left_numbers cells touched now x n h ix e y);
  covered = λ k f. h.covered k (λ z. f (still_filled cells x n k ix e f ∙ z));
  own = λ k f. let s = still_filled cells x n k ix e f in ap unsigned_abs s ∙ h.own k (λ z. f (s ∙ z));
}

-- ---- a number put in
put_numbers : (cells : List ℤ) (touched : List ℕ) (now : List ℤ) (y : ℤ) → Holds cells touched now → unsigned_abs y < length cells → (z : ℤ) → IsIn (slice_set cells (unsigned_abs y) y) z → Contains (now ++ y ∷ []) z
put_numbers cells touched now y h lt z i = elim (same_place (unsigned_abs z) (unsigned_abs y)) [
  | inl q ↦ subst (λ w. Contains (now ++ y ∷ []) w) (sym (changed cells (unsigned_abs y) (unsigned_abs z) y lt q) ∙ i.1) (Contains-push now y)
  | inr d ↦ Contains-append_left now (y ∷ []) z ((h.numbers z).0 (i.0, sym (other cells (unsigned_abs y) (unsigned_abs z) y d) ∙ i.1))
]

had_numbers : (cells : List ℤ) (touched : List ℕ) (now : List ℤ) (y : ℤ) → Holds cells touched now → 0 < unsigned_abs y → unsigned_abs y < length cells → (cell cells y ≡ neg_ℤ y → ⊥) → (z : ℤ) → Contains (now ++ y ∷ []) z → IsIn (slice_set cells (unsigned_abs y) y) z
had_numbers cells touched now y h real lt apart z i =
    let same : (y ≡ z → IsIn (slice_set cells (unsigned_abs y) y) z) =
    λ e. subst (λ w. IsIn (slice_set cells (unsigned_abs y) y) w) e (real, changed cells (unsigned_abs y) (unsigned_abs y) y lt refl) in
    elim (Contains-push_cases now y z i) [
      | inl j ↦
          let was = (h.numbers z).1 j in
          elim (same_place (unsigned_abs z) (unsigned_abs y)) [
            | inl q ↦ elim (same_or_opposite z y q) [
              | inl e ↦ same (sym e)
              | inr e ↦ absurd (apart (ap (λ n. get_or cells n (pos 0)) (sym q) ∙ was.1 ∙ e))
            ]
            | inr d ↦ (was.0, other cells (unsigned_abs y) (unsigned_abs z) y d ∙ was.1)
          ]
      | inr e ↦ same e
    ]

put_covered : (cells : List ℤ) (touched : List ℕ) (now : List ℤ) (y : ℤ) → Holds cells touched now → (k : ℕ) → get_or (slice_set cells (unsigned_abs y) y) k (pos 0) ≢ pos 0 → Contains (touched ++ unsigned_abs y ∷ []) k
put_covered cells touched now y h k f = elim (same_place k (unsigned_abs y)) [
  | inl q ↦ subst (λ w. Contains (touched ++ unsigned_abs y ∷ []) w) (sym q) (Contains-push touched (unsigned_abs y))
  | inr d ↦ Contains-append_left touched (unsigned_abs y ∷ []) k (h.covered k (λ z. f (other cells (unsigned_abs y) k y d ∙ z)))
]

put_own : (cells : List ℤ) (touched : List ℕ) (now : List ℤ) (y : ℤ) → Holds cells touched now → unsigned_abs y < length cells → (k : ℕ) → get_or (slice_set cells (unsigned_abs y) y) k (pos 0) ≢ pos 0 → unsigned_abs (get_or (slice_set cells (unsigned_abs y) y) k (pos 0)) ≡ k
put_own cells touched now y h lt k f = elim (same_place k (unsigned_abs y)) [
  | inl q ↦ ap unsigned_abs (changed cells (unsigned_abs y) k y lt q) ∙ sym q
  | inr d ↦ let s = other cells (unsigned_abs y) k y d in ap unsigned_abs s ∙ h.own k (λ z. f (s ∙ z))
]

pub put_in : (cells : List ℤ) (touched : List ℕ) (now : List ℤ) (y : ℤ) → Holds cells touched now → 0 < unsigned_abs y → unsigned_abs y < length cells → (cell cells y ≡ neg_ℤ y → ⊥) → Holds (slice_set cells (unsigned_abs y) y) (touched ++ unsigned_abs y ∷ []) (now ++ y ∷ [])
put_in cells touched now y h real lt apart = record {
  numbers = λ z. (put_numbers cells touched now y h lt z, had_numbers cells touched now y h real lt apart z);
  covered = put_covered cells touched now y h;
  own = put_own cells touched now y h lt;
}

-- a number that may be put in: it has a cell, which doesn't hold its opposite
pub record CanPut (cells : List ℤ) (y : ℤ) : Type 0 where
  pub real : 0 < unsigned_abs y
  pub within : unsigned_abs y < length cells
  pub free : cell cells y ≢ neg_ℤ y

can_later : (cells : List ℤ) (y z : ℤ) → CanPut cells z → (y ≡ neg_ℤ z → ⊥) → CanPut (slice_set cells (unsigned_abs y) y) z
can_later cells y z c apart = record {
  real = c.real;
  within = omega (arith, length-set cells (unsigned_abs y) y, c.within);
  free = λ e. elim (same_place (unsigned_abs z) (unsigned_abs y)) [
    | inl q ↦ apart (sym (changed cells (unsigned_abs y) (unsigned_abs z) y (let w = c.within in omega arith) q) ∙ e)
    | inr d ↦ c.free (sym (other cells (unsigned_abs y) (unsigned_abs z) y d) ∙ e)
  ];
}

-- a clause put in
pub all_put : (clause cells : List ℤ) (touched : List ℕ) (now : List ℤ) → Holds cells touched now → ((y : ℤ) → Contains clause y → CanPut cells y) → ((y : ℤ) → Contains clause y → Contains clause (neg_ℤ y) → ⊥)
    → Holds (written cells clause) (touched ++ map unsigned_abs clause) (now ++ clause)
all_put [] cells touched now h can apart = subst (λ t. Holds cells t (now ++ [])) (sym (append-nil touched)) (subst (Holds cells touched) (sym (append-nil now)) h)
all_put (y ∷ ys) cells touched now h can apart =
    let first = can y (here y ys) in
    let next = put_in cells touched now y h first.real first.within first.free in
    let later = all_put ys (slice_set cells (unsigned_abs y) y) (touched ++ unsigned_abs y ∷ []) (now ++ y ∷ []) next
    (λ z i. can_later cells y z (can z (there y ys z i)) (λ e. apart z (there y ys z i) (0, omega arith, e)))
    (λ z i j. apart z (there y ys z i) (there y ys (neg_ℤ z) j)) in
    subst (λ t. Holds (written (slice_set cells (unsigned_abs y) y) ys) t (now ++ y ∷ ys)) (append_assoc touched (unsigned_abs y ∷ []) (map unsigned_abs ys))
    (subst (Holds (written (slice_set cells (unsigned_abs y) y) ys) ((touched ++ unsigned_abs y ∷ []) ++ map unsigned_abs ys)) (append_assoc now (y ∷ []) ys) later)
