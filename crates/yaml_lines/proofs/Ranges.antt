-- Which way a test went, and characters by ranges.
use Rattle.std.proofs.Common.{◌≡◌, ℕ, ◌<◌, ◌≤◌, Bool, true, false, ◌==◌, nat_lt, refl, sym, ap, ◌∙◌, cond, inl, inr, ◌⊎◌, true≢false}
use Rattle.std.proofs.lemmas.Bool.{eqb-true, ltb-true, ltb-false, leb-true, le-leb, false_from_ne_true, and_parts, and_from}
use Rattle.yaml_lines.specs.Lines.{within}

-- a value that depends on a test
pub either : {X : Type 0} (P : X → Type 0) (b : Bool) (x y : X) → (b ≡ true → P x) → (b ≡ false → P y) → P (cond b x y)
either P true x y f g = f refl
either P false x y f g = g refl

-- a character that passes a test is none that fails it
pub differs : (p : ℕ → Bool) (c k : ℕ) → p c ≡ true → p k ≡ false → (c == k) ≡ false
differs p c k e f = false_from_ne_true (c == k) (λ h. true≢false (sym e ∙ ap p (eqb-true c k h) ∙ f))

pub within_range : (low high c : ℕ) → within low high c ≡ true → (low ≤ c) × (c ≤ high)
within_range low high c e = let both = and_parts _ _ e in (leb-true low c both.0, leb-true c high both.1)

pub range_within : (low high c : ℕ) → low ≤ c → c ≤ high → within low high c ≡ true
range_within low high c l h = and_from _ _ (le-leb low c l) (le-leb c high h)

pub order : (m n : ℕ) → (m < n) ⊎ (n ≤ m)
order m n = at (nat_lt m n) refl
  where
    at : (b : Bool) → nat_lt m n ≡ b → (m < n) ⊎ (n ≤ m)
    at true e = inl (ltb-true m n e)
    at false e = inr (ltb-false m n e)

pub beyond : (low high c : ℕ) → within low high c ≡ false → low ≤ c → high < c
beyond low high c e l = elim (order high c) [ inl h ↦ h | inr h ↦ absurd (true≢false (sym (range_within low high c l h) ∙ e)) ]
