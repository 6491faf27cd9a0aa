-- Laws of lists of truth values of which one is true.
use Rattle.std.proofs.Common.{◌≡◌, ℕ, zero, suc, ◌+◌, ◌*◌, ◌<◌, ◌≤◌, Bool, true, false, not, ◌&&◌, nat_eq, List, [], ◌∷◌, ◌++◌, get_or, take, refl, sym, ◌∙◌, ap, arith}
use Rattle.std.proofs.Math.Dec.{eqb-suc-suc, eqb-suc-zero, eqb-zero-suc}
use Rattle.circuits.specs.Numbers.{digit}
use Rattle.sym_state.specs.Standing.{marks}
use Rattle.sym_elements.specs.Marks.{pairs, none_true, first_true}

-- one mark more
pub marks_more : (k n : ℕ) → marks k (suc n) ≡ marks k n ++ nat_eq k (suc n) ∷ []
marks_more zero zero = ap (λ z. z ∷ []) (sym (eqb-zero-suc 0))
marks_more zero (suc n) = ap (λ z. false ∷ z) (marks_more zero n) ∙ ap (λ z. marks zero (suc n) ++ z ∷ []) (eqb-zero-suc n ∙ sym (eqb-zero-suc (suc n)))
marks_more (suc zero) zero = refl
marks_more (suc zero) (suc n) = ap (λ z. true ∷ z) (marks_more zero n) ∙ ap (λ z. marks 1 (suc n) ++ z ∷ []) (sym (eqb-suc-suc 0 (suc n)))
marks_more (suc (suc k)) zero = ap (λ z. z ∷ []) (sym (eqb-suc-suc (suc k) 0 ∙ eqb-suc-zero k))
marks_more (suc (suc k)) (suc n) = ap (λ z. false ∷ z) (marks_more (suc k) n) ∙ ap (λ z. marks (suc (suc k)) (suc n) ++ z ∷ []) (sym (eqb-suc-suc (suc k) (suc n)))

-- a number of this many digits more
abbrev pub next : Bool → ℕ → ℕ
next d zero = zero
next d (suc k) = suc (digit d + 2 * k)

pub pairs_none : (d : Bool) (n m : ℕ) → n ≤ 2 * m → take n (pairs d (marks zero m)) ≡ marks zero n
pairs_none d zero m h = refl
pairs_none d (suc n) zero h = absurd (omega (arith, h))
pairs_none d (suc zero) (suc m) h = refl
pairs_none d (suc (suc n)) (suc m) h = ap (λ z. false ∷ false ∷ z) (pairs_none d n m (omega (arith, h)))

pub pairs_marks : (d : Bool) (k n m : ℕ) → n ≤ 2 * m → take n (pairs d (marks k m)) ≡ marks (next d k) n
pairs_marks d zero n m h = pairs_none d n m h
pairs_marks d (suc k) zero m h = refl
pairs_marks d (suc k) (suc n) zero h = absurd (omega (arith, h))
pairs_marks true (suc zero) (suc zero) (suc m) h = refl
pairs_marks false (suc zero) (suc zero) (suc m) h = refl
pairs_marks true (suc zero) (suc (suc n)) (suc m) h = ap (λ z. false ∷ true ∷ z) (pairs_none true n m (omega (arith, h)))
pairs_marks false (suc zero) (suc (suc n)) (suc m) h = ap (λ z. true ∷ false ∷ z) (pairs_none false n m (omega (arith, h)))
pairs_marks d (suc (suc k)) (suc zero) (suc m) h =
    let e : next d (suc (suc k)) ≡ suc (suc (suc (digit d + 2 * k))) = omega arith in
    sym (ap (λ z. marks z 1) e)
pairs_marks d (suc (suc k)) (suc (suc n)) (suc m) h =
    let e : next d (suc (suc k)) ≡ suc (suc (suc (digit d + 2 * k))) = omega arith in
    ap (λ z. false ∷ false ∷ z) (pairs_marks d (suc k) n m (omega (arith, h))) ∙ sym (ap (λ z. marks z (suc (suc n))) e)

pub pairs_snoc : (d : Bool) (bs : List Bool) (b : Bool) → pairs d (bs ++ b ∷ []) ≡ pairs d bs ++ (b && not d) ∷ (b && d) ∷ []
pairs_snoc d [] b = refl
pairs_snoc d (x ∷ bs) b = ap (λ z. (x && not d) ∷ (x && d) ∷ z) (pairs_snoc d bs b)

and_true : (a : Bool) → (a && true) ≡ a
and_true true = refl
and_true false = refl

and_assoc : (a b c : Bool) → ((a && b) && c) ≡ (a && (b && c))
and_assoc true b c = refl
and_assoc false b c = refl

pub none_snoc : (bs : List Bool) (b : Bool) → none_true (bs ++ b ∷ []) ≡ (none_true bs && not b)
none_snoc [] b = and_true (not b)
none_snoc (x ∷ bs) b = ap (λ z. not x && z) (none_snoc bs b) ∙ sym (and_assoc (not x) (none_true bs) (not b))

pub none_of_none : (n : ℕ) → none_true (marks zero n) ≡ true
none_of_none zero = refl
none_of_none (suc n) = none_of_none n

pub none_inside : (k n : ℕ) → k < n → none_true (marks (suc k) n) ≡ false
none_inside k zero h = absurd (omega (arith, h))
none_inside zero (suc n) h = refl
none_inside (suc k) (suc n) h = none_inside k n (omega (arith, h))

-- beyond the last there is none
pub marks_outside : (k n : ℕ) → n ≤ k → marks (suc k) n ≡ marks zero n
marks_outside k zero h = refl
marks_outside zero (suc n) h = absurd (omega (arith, h))
marks_outside (suc k) (suc n) h = ap (λ z. false ∷ z) (marks_outside k n (omega (arith, h)))

pub first_of_marks : (k n : ℕ) → k < n → first_true (marks (suc k) n) ≡ k
first_of_marks k zero h = absurd (omega (arith, h))
first_of_marks zero (suc n) h = refl
first_of_marks (suc k) (suc n) h = ap suc (first_of_marks k n (omega (arith, h)))

pub none_at : (n i : ℕ) → get_or (marks zero n) i false ≡ false
none_at zero i = refl
none_at (suc n) zero = refl
none_at (suc n) (suc i) = none_at n i

pub mark_at : (k n i : ℕ) → k < n → get_or (marks (suc k) n) i false ≡ nat_eq k i
mark_at k zero i h = absurd (omega (arith, h))
mark_at zero (suc n) zero h = refl
mark_at zero (suc n) (suc i) h = none_at n i ∙ sym (eqb-zero-suc i)
mark_at (suc k) (suc n) zero h = sym (eqb-suc-zero k)
mark_at (suc k) (suc n) (suc i) h = mark_at k n i (omega (arith, h)) ∙ sym (eqb-suc-suc k i)
