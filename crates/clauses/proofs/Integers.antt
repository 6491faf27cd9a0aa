-- Numbers and their opposites.
use Rattle.std.proofs.Common.{◌≡◌, ◌≢◌, ℕ, zero, suc, ◌<◌, ◌⊎◌, inl, inr, ℤ, pos, negsuc, neg_ℤ, unsigned_abs, ap, refl, arith}
use Rattle.std.proofs.lemmas.Bool.{cases_lt}

pub size_neg : (x : ℤ) → unsigned_abs (neg_ℤ x) ≡ unsigned_abs x
size_neg (pos zero) = refl
size_neg (pos (suc n)) = refl
size_neg (negsuc n) = refl

pub opposite_twice : (x : ℤ) → neg_ℤ (neg_ℤ x) ≡ x
opposite_twice (pos zero) = refl
opposite_twice (pos (suc n)) = refl
opposite_twice (negsuc n) = refl

-- two numbers of one variable are the same or opposites
pub same_or_opposite : (x y : ℤ) → unsigned_abs x ≡ unsigned_abs y → (x ≡ y) ⊎ (x ≡ neg_ℤ y)
same_or_opposite (pos n) (pos m) e = inl (ap pos e)
same_or_opposite (pos n) (negsuc m) e = inr (ap pos e)
same_or_opposite (negsuc n) (pos zero) e = absurd (omega arith)
same_or_opposite (negsuc n) (pos (suc m)) e = let i : n ≡ m = omega arith in inr (ap negsuc i)
same_or_opposite (negsuc n) (negsuc m) e = let i : n ≡ m = omega arith in inl (ap negsuc i)

pub no_own_opposite : (x : ℤ) → 0 < unsigned_abs x → x ≡ neg_ℤ x → ⊥
no_own_opposite (pos zero) h e = omega arith
no_own_opposite (pos (suc n)) h e = cc
no_own_opposite (negsuc n) h e = cc

nat_decide : (n m : ℕ) → (n ≡ m) ⊎ (n ≢ m)
nat_decide n m = elim (cases_lt n m) [
  | inl less ↦ inr (λ e. omega arith)
  | inr most ↦ elim (cases_lt m n) [ inl less ↦ inr (λ e. omega arith) | inr least ↦ inl (omega arith) ]
]

pub same_place : (n m : ℕ) → (n ≡ m) ⊎ (n ≢ m)
same_place = nat_decide

pub int_decide : (x y : ℤ) → (x ≡ y) ⊎ (x ≢ y)
int_decide (pos n) (pos m) = elim (nat_decide n m) [ inl e ↦ inl (ap pos e) | inr d ↦ inr (λ e. d (ap unsigned_abs e)) ]
int_decide (pos n) (negsuc m) = inr (λ e. cc)
int_decide (negsuc n) (pos m) = inr (λ e. cc)
int_decide (negsuc n) (negsuc m) = elim (nat_decide n m) [ inl e ↦ inl (ap negsuc e) | inr d ↦ inr (λ e. d (let s : suc n ≡ suc m = ap unsigned_abs e in omega arith)) ]

pub zero_size : (x : ℤ) → unsigned_abs x ≡ 0 → x ≡ pos 0
zero_size (pos n) e = ap pos e
zero_size (negsuc n) e = absurd (omega arith)

pub sized : (x : ℤ) → x ≢ pos 0 → 0 < unsigned_abs x
sized x h = elim (cases_lt 0 (unsigned_abs x)) [ inl l ↦ l | inr g ↦ absurd (h (zero_size x (omega arith))) ]
