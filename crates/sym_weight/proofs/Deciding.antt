-- The total of main, with calls unfolded as deep as matters, decides whether the program is too big.
use Rattle.std.proofs.Common.{◌≡◌, ℕ, ◌-◌, ◌<◌, ◌≤◌, ◌⊎◌, inl, inr, min, Bool, true, false, cond, ◌&&◌, List, Some, None, refl, sym, ◌∙◌, subst, arith}
use Rattle.std.proofs.Math.Nat.{eq-or-lt_of_le}
use Rattle.std.proofs.lemmas.Bool.{leb-true, leb-false}
use Rattle.std.specs.Prelude.{nat_le}
use Rattle.std.specs.BTreeMap.{BTreeMap}
use Rattle.c_core.specs.Tree.{Program}
use Rattle.c_core.specs.declared.number.Spot.{Spot}
use Rattle.c_meaning.specs.Duties.{Placed}
use Rattle.sym_weight.specs.declared.totals.Total.{Total}
use Rattle.sym_weight.specs.Tally.{capped, placed_by, weight_at}
use Rattle.sym_weight.specs.Weight.{placed_weight, weight_in, bits_in, chain_in, most_active, IsTooBig}
use Rattle.sym_weight.specs.Weighed.{IsWeighed, Weighs, judged}
use Rattle.sym_weight.proofs.Light.{bits_are_light}
use Rattle.sym_weight.proofs.Rounds.{total_of}
use Rattle.sym_weight.proofs.Tallied.{AreWeights}
use Rattle.sym_weight.proofs.Unfolding.{AreSame, settled, deeper, deeper_is_more, chain_is_longer}

-- the depth at which calls are unfolded
abbrev pub depth : Program → ℕ
depth p = min (most_active p) 33

whole_depth : (p : Program) → deeper (most_active p - depth p) (depth p) ≡ most_active p
whole_depth p = let h = deeper_is_more (most_active p - depth p) (depth p) in omega arith

chain_is_told : (p : Program) → chain_in p (depth p) p.main ≤ chain_in p (most_active p) p.main
chain_is_told p = subst (λ n. chain_in p (depth p) p.main ≤ chain_in p n p.main) (whole_depth p) (chain_is_longer p (most_active p - depth p) (depth p) p.main)

same_below : (p : Program) (I : List Placed) → chain_in p (depth p) p.main < depth p → AreSame p I (most_active p) (depth p) p.main
same_below p I l = subst (λ n. AreSame p I n (depth p) p.main) (whole_depth p) (settled p I (most_active p - depth p) (depth p) p.main l)

same_here : (p : Program) (I : List Placed) (n : ℕ) → n ≡ most_active p → AreSame p I (most_active p) n p.main
same_here p I n e = subst (λ m. AreSame p I m n p.main) e (record { weight = refl; bits = refl; chain = refl })

deep_enough : (p : Program) → depth p < most_active p → depth p ≡ 33
deep_enough p l = omega (arith, l)

shorter : (a d : ℕ) → a ≤ 32 → d ≡ 33 → a < d
shorter a d l e = omega arith

same_by : (p : Program) (I : List Placed) → chain_in p (depth p) p.main ≤ 32 → (depth p ≡ most_active p) ⊎ (depth p < most_active p) → AreSame p I (most_active p) (depth p) p.main
same_by p I l (inl e) = same_here p I (depth p) e
same_by p I l (inr m) = same_below p I (shorter (chain_in p (depth p) p.main) (depth p) l (deep_enough p m))

depth_at_most : (p : Program) → depth p ≤ most_active p
depth_at_most p = omega arith

same : (p : Program) (I : List Placed) → chain_in p (depth p) p.main ≤ 32 → AreSame p I (most_active p) (depth p) p.main
same p I l = same_by p I l (eq-or-lt_of_le (depth_at_most p))

uncapped : (a n : ℕ) → n ≤ 2000000 → capped a ≤ n → capped a ≡ a
uncapped a n l m = omega arith

over : (a b n : ℕ) → a ≤ b → n < capped a → n < b
over a b n l m = omega arith

small : (a b : ℕ) → b ≤ a → a ≤ 2000000 → capped b ≡ b
small a b l m = omega arith

below : (a n : ℕ) → n < 18446744073709551615 → capped a ≤ n → a ≤ n
below a n m l = omega arith

not_over : (a b n : ℕ) → a ≡ b → a ≤ n → n < b → ⊥
not_over a b n e l m = omega arith

not_too_big : (p : Program) (I : List Placed) → AreSame p I (most_active p) (depth p) p.main → chain_in p (depth p) p.main ≤ 32 → weight_in p I (depth p) p.main ≤ 2000000 → IsTooBig p I → ⊥
not_too_big p I s l m (inl h) = not_over (chain_in p (depth p) p.main) (chain_in p (most_active p) p.main) 32 (sym s.chain) l h
not_too_big p I s l m (inr h) = not_over (weight_in p I (depth p) p.main) (weight_in p I (most_active p) p.main) 2000000 (sym s.weight) m h

weighed : (p : Program) (I : List Placed) → capped (chain_in p (depth p) p.main) ≤ 32 → capped (weight_in p I (depth p) p.main) ≤ 2000000 → IsWeighed p I (total_of p I (depth p) p.main)
weighed p I l m =
    let chain = chain_in p (depth p) p.main in
    let weight = weight_in p I (depth p) p.main in
    let c : chain ≤ 32 = below chain 32 (omega arith) l in
    let w : weight ≤ 2000000 = below weight 2000000 (omega arith) m in
    let s = same p I c in
    record {
      fits = not_too_big p I s c w;
      weight = uncapped weight 2000000 (omega arith) m ∙ sym s.weight;
      bits = small weight (bits_in p (depth p) p.main) (bits_are_light p I (depth p) p.main) w ∙ sym s.bits;
      chain = uncapped chain 32 (omega arith) l ∙ sym s.chain;
    }

heavy : (p : Program) (I : List Placed) → capped (chain_in p (depth p) p.main) ≤ 32 → 2000000 < capped (weight_in p I (depth p) p.main) → IsTooBig p I
heavy p I l m =
    let s = same p I (below (chain_in p (depth p) p.main) 32 (omega arith) l) in
    inr (subst (λ w. 2000000 < w) (sym s.weight) (over (weight_in p I (depth p) p.main) (weight_in p I (depth p) p.main) 2000000 (omega arith) m))

long : (p : Program) (I : List Placed) → 32 < capped (chain_in p (depth p) p.main) → IsTooBig p I
long p I l = inl (over (chain_in p (depth p) p.main) (chain_in p (most_active p) p.main) 32 (chain_is_told p) l)

decided_by : (p : Program) (I : List Placed) (a b : Bool) → nat_le (capped (chain_in p (depth p) p.main)) 32 ≡ a → nat_le (capped (weight_in p I (depth p) p.main)) 2000000 ≡ b
    → Weighs p I (cond (a && b) (Some (total_of p I (depth p) p.main)) None)
decided_by p I true true e f = weighed p I (leb-true _ _ e) (leb-true _ _ f)
decided_by p I true false e f = heavy p I (leb-true _ _ e) (leb-false _ _ f)
decided_by p I false b e f = long p I (leb-false _ _ e)

pub decided : (p : Program) (I : List Placed) (t : Total) → t ≡ total_of p I (depth p) p.main → Weighs p I (judged t)
decided p I t e = subst (λ t. Weighs p I (judged t)) (sym e) (decided_by p I (nat_le (capped (chain_in p (depth p) p.main)) 32) (nat_le (capped (weight_in p I (depth p) p.main)) 2000000) refl refl)

-- two maps hold the weights of the invariants
pub maps_are_weights : (p : Program) (I : List Placed) (loops statements : BTreeMap (ℕ × ℕ) ℕ) → ((q : Spot) → weight_at loops q ≡ capped (placed_weight p I true q))
    → ((q : Spot) → weight_at statements q ≡ capped (placed_weight p I false q)) → AreWeights p I (placed_by loops statements)
maps_are_weights p I loops statements h k true q = h q
maps_are_weights p I loops statements h k false q = k q
