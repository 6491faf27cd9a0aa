-- A matcher before all events.
use Rattle.std.proofs.Common.{◌≡◌, ℕ, zero, suc, ◌≤◌, List, [], ◌∷◌, get_or, length, ◌+◌, replicate, Option, Some, None, refl, sym, ◌∙◌, ap, subst, arith}
use Rattle.std.proofs.lemmas.List.{length-replicate}
use Rattle.way_match.specs.declared.states.Node.{Node}
use Rattle.way_match.specs.inside.Arena.{ways_of, AreHeld, IsBlank}

nones_held : (ns : List Node) (k n : ℕ) → AreHeld ns k (replicate n None)
nones_held ns k zero = tt
nones_held ns k (suc n) = (tt, nones_held ns (suc k) n)

nones_ways : (ns : List Node) (k n : ℕ) → ways_of ns k (replicate n None) ≡ replicate n None
nones_ways ns k zero = refl
nones_ways ns k (suc n) = ap (λ (t : List (Option (List ℕ))). None ∷ t) (nones_ways ns (suc k) n)

nones_at : (n k : ℕ) → ◌≡◌ {A = Option ℕ} (get_or (replicate n None) k None) None
nones_at zero k = refl
nones_at (suc n) zero = refl
nones_at (suc n) (suc k) = nones_at n k

nones_blank : (n k : ℕ) → 1 ≤ k → get_or {A = Option ℕ} (Some 0 ∷ replicate n None) k None ≡ None
nones_blank n zero h = absurd (omega arith)
nones_blank n (suc k) h = nones_at n k

pub begins_held : (ns : List Node) (live : List (Option ℕ)) (n : ℕ) → live ≡ Some 0 ∷ replicate n None → AreHeld ns 0 live
begins_held ns live n e = subst (AreHeld ns 0) (sym e) (tt, nones_held ns 1 n)

pub begins_blank : (live : List (Option ℕ)) (n : ℕ) → live ≡ Some 0 ∷ replicate n None → IsBlank 1 live
begins_blank live n e k h = subst (λ (xs : List (Option ℕ)). get_or xs k None ≡ None) (sym e) (nones_blank n k h)

pub begins_ways : (ns : List Node) (live : List (Option ℕ)) (n m : ℕ) → live ≡ Some 0 ∷ replicate n None → n ≡ m → ways_of ns 0 live ≡ Some [] ∷ replicate m None
begins_ways ns live n m e l = ap (ways_of ns 0) e ∙ ap (λ (t : List (Option (List ℕ))). Some [] ∷ t) (nones_ways ns 1 n ∙ ap (λ (j : ℕ). replicate j None) l)

pub begins_each : (live : List (Option ℕ)) (n m : ℕ) → live ≡ Some 0 ∷ replicate n None → n ≡ m → length live ≡ m + 1
begins_each live n m e l = let z : suc m ≡ m + 1 = omega arith in ap length e ∙ ap suc (length-replicate n None ∙ l) ∙ z
