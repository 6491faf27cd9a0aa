-- What a bit of a net is depends on the inputs that stand before it.
use Rattle.std.proofs.Common.{◌≡◌, ℕ, ◌+◌, ◌<◌, ◌≤◌, Bool, true, List, [], ◌∷◌, ◌++◌, length, get_or, drop, refl, sym, ◌∙◌, ap, subst, arith}
use Rattle.circuits.specs.declared.net.Bit.{Bit}
use Rattle.circuits.specs.declared.net.NetNode.{NetNode}
use Rattle.circuits.specs.declared.net.NetNode.TheVariants.{Constant, Input, And}
use Rattle.circuits.specs.Net.{bit_in, node_in, values_from, holds, count_inputs, AreFine, IsNet, IsIn}
use Rattle.circuits.proofs.Nets.{holds-append}
use Rattle.sym_whole.proofs.Numbers.{Agree}

-- the values of further nodes
values_agree : (v u : ℕ → Bool) (vs : List Bool) (ns : List NetNode) (at before n : ℕ) → AreFine at before ns → before + count_inputs ns ≤ n → Agree n v u → values_from u vs ns ≡ values_from v vs ns
unfolding values_from count_inputs AreFine
values_agree v u vs [] at before n h c g = refl
values_agree v u vs (Constant b ∷ xs) at before n h c g = absurd h.0
values_agree v u vs (Input k ∷ xs) at before n h c g =
    ap (λ b. values_from u (vs ++ b ∷ []) xs) (g k (omega (arith, h.0, c))) ∙ values_agree v u (vs ++ v k ∷ []) xs (at + 1) (count_inputs (Input k ∷ []) + before) n h.1 (omega (arith, c)) g
values_agree v u vs (And a b ∷ xs) at before n h c g = values_agree v u (vs ++ node_in v vs (And a b) ∷ []) xs (at + 1) (count_inputs (And a b ∷ []) + before) n h.1 (omega (arith, c)) g

-- behind the constant
bits_agree : (v u : ℕ → Bool) (rest : List NetNode) (b : Bit) → AreFine 1 0 rest → Agree (count_inputs (Constant true ∷ rest)) v u → holds u (Constant true ∷ rest) b ≡ holds v (Constant true ∷ rest) b
unfolding holds values_from count_inputs
bits_agree v u rest b h g = ap (λ vs. bit_in vs b) (values_agree v u (true ∷ []) rest 1 0 (count_inputs rest) h (omega arith) g)

pub holds_agree : (v u : ℕ → Bool) (net : List NetNode) (b : Bit) → IsNet net → Agree (count_inputs net) v u → holds u net b ≡ holds v net b
holds_agree v u net b h g =
    ap (λ z. holds u z b) h.1 ∙ bits_agree v u h.0 b h.2 (subst (λ z. Agree (count_inputs z) v u) h.1 g) ∙ ap (λ z. holds v z b) (sym h.1)

-- the first nodes of a net are one
front_fine : (at before : ℕ) (xs ys : List NetNode) → AreFine at before (xs ++ ys) → AreFine at before xs
unfolding AreFine
front_fine at before [] ys h = tt
front_fine at before (x ∷ xs) ys h = (h.0, front_fine (at + 1) (count_inputs (x ∷ []) + before) xs ys h.1)

front_net : (xs ys : List NetNode) → 0 < length xs → IsNet (xs ++ ys) → IsNet xs
front_net [] ys h n = absurd (omega (arith, h))
front_net (x ∷ xs) ys h n =
    let first : x ≡ Constant true = ap (λ l. get_or l 0 (Constant true)) n.1 in
    let rest : xs ++ ys ≡ n.0 = ap (drop 1) n.1 in
    (xs, ap (λ z. z ∷ xs) first, front_fine 1 0 xs ys (subst (AreFine 1 0) (sym rest) n.2))

-- a bit of the first nodes, under inputs that agree on theirs
pub early_agree : (v u : ℕ → Bool) (net before after : List NetNode) (b : Bit) → net ≡ before ++ after → IsNet net → IsIn before b → Agree (count_inputs before) v u → holds u net b ≡ holds v net b
early_agree v u net before after b e n i g =
    let fine : IsNet before = front_net before after (omega (arith, i)) (subst IsNet e n) in
    ap (λ z. holds u z b) e ∙ holds-append u before after b i ∙ holds_agree v u before b fine g ∙ sym (holds-append v before after b i) ∙ ap (λ z. holds v z b) (sym e)
