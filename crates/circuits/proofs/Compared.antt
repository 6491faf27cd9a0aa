-- Comparisons as values of type `int`.
use Rattle.std.proofs.Common.{◌≡◌, ℕ, Bool, true, false, not, nat_le, nat_lt, ℤ, pos, negsuc, int_lt, int_le, List, inl, inr, refl, sym, ◌∙◌, ap}
use Rattle.std.proofs.lemmas.Bool.{lt-ltb, le-ltb}
use Rattle.std.proofs.lemmas.Bool.Decides.{leb_tells}
use Rattle.c_core.specs.Operators.{truth}
use Rattle.c_core.specs.declared.number.DataModel.{DataModel}
use Rattle.c_core.specs.declared.number.IntType.TheVariants.{Int}
use Rattle.circuits.specs.declared.net.Bit.{Bit}
use Rattle.circuits.specs.declared.net.NetNode.{NetNode}
use Rattle.circuits.specs.declared.bits.Outcome.{Outcome}
use Rattle.circuits.specs.Net.{holds, Means}
use Rattle.circuits.specs.Outcome.{Gives}
use Rattle.circuits.proofs.Judged.{gives_same}

pub not_not : (b : Bool) → not (not b) ≡ b
not_not true = refl
not_not false = refl

nat_turned : (m n : ℕ) → not (nat_lt n m) ≡ nat_le m n
nat_turned m n = elim (leb_tells m n) as (λ _. not (nat_lt n m) ≡ nat_le m n) [
  | inl t ↦ ap not (le-ltb n m t.1) ∙ sym t.0
  | inr t ↦ ap not (lt-ltb n m t.1) ∙ sym t.0
]

turned : (x y : ℤ) → not (int_lt y x) ≡ int_le x y
turned (pos m) (pos n) = nat_turned m n
turned (pos m) (negsuc n) = refl
turned (negsuc m) (pos n) = refl
turned (negsuc m) (negsuc n) = nat_turned n m

-- the value of a bit, whatever says the same
pub truth_means : {m : DataModel} {net : List NetNode} {o : Outcome} {x : Bit} {f g : (ℕ → Bool) → Bool}
    → Means net x f → Gives m Int net o (λ v. truth (holds v net x)) → ((v : ℕ → Bool) → f v ≡ g v) → Gives m Int net o (λ v. truth (g v))
truth_means {m} {net} {o} {x} {f} {g} means gives e = gives_same gives (λ v. ap truth (means.is v ∙ e v))

pub at_most_gives : {m : DataModel} {net : List NetNode} {o : Outcome} {x : Bit} (f g : (ℕ → Bool) → ℤ)
    → Means net x (λ v. not (int_lt (g v) (f v))) → Gives m Int net o (λ v. truth (holds v net x)) → Gives m Int net o (λ v. truth (int_le (f v) (g v)))
at_most_gives {m} {net} {o} {x} f g means gives = truth_means means gives (λ v. turned (f v) (g v))
