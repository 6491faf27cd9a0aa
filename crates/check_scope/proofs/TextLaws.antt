-- Texts that differ, and texts that are the same.
use Rattle.std.proofs.Common.{◌≡◌, ℕ, Bool, true, false, List, refl, sym, subst, ◌∙◌}
use Rattle.std.specs.Str.{bytes_eq}
use Rattle.std.proofs.lemmas.Slice.Eq.{bytes_eq-Decides}

pub other_text : (s t : List ℕ) → (t ≡ s → ⊥) → bytes_eq s t ≡ false
other_text s t h = elim (bytes_eq s t) as (λ (b : Bool). bytes_eq s t ≡ b → bytes_eq s t ≡ false) [
  | true ↦ (λ e. absurd (h (sym ((bytes_eq-Decides s t).0 e))))
  | false ↦ (λ e. e)
] refl

abbrev IsFalse : Bool → Type 0
IsFalse true = ⊥
IsFalse false = Unit {0}

pub same_both_ways : (s t : List ℕ) → bytes_eq s t ≡ bytes_eq t s
same_both_ways s t = by_test (bytes_eq s t) refl
  where
    by_test : (b : Bool) → bytes_eq s t ≡ b → bytes_eq s t ≡ bytes_eq t s
    by_test true e = e ∙ sym ((bytes_eq-Decides t s).1 (sym ((bytes_eq-Decides s t).0 e)))
    by_test false e = e ∙ sym (other_text t s (λ h. subst IsFalse (sym e ∙ (bytes_eq-Decides s t).1 h) tt))
