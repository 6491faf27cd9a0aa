-- The nodes of a net: the value of each from those before it.
use Rattle.std.proofs.Common.{◌≡◌, ◌≢◌, ℕ, zero, suc, ◌+◌, ◌<◌, Bool, true, false, ◌&&◌, List, [], ◌∷◌, length, get_or, take, drop, refl, sym, ◌∙◌, ap, subst, arith}
use Rattle.std.specs.Prelude.{Some, slice_get, slice_index_or}
use Rattle.std.proofs.lemmas.List.{take_more, length-take-le, take-append-drop}
use Rattle.circuits.specs.declared.net.Bit.{Bit}
use Rattle.circuits.specs.declared.net.NetNode.{NetNode}
use Rattle.circuits.specs.declared.net.NetNode.TheVariants.{Constant, And}
use Rattle.circuits.specs.Net.{holds, bit_in, node_in, values_from, count_inputs, IsFine, AreFine, IsNet, Means}
use Rattle.circuits.proofs.Nets.{inputs-append, holds-append, holds-pushed}

fine_from : (at before : ℕ) (ns : List NetNode) → AreFine at before ns → (k : ℕ) (d : NetNode) → k < length ns → (p q : ℕ) → p ≡ at + k → q ≡ before + count_inputs (take k ns) → IsFine p q (get_or ns k d)
unfolding AreFine count_inputs
fine_from at before [] h k d lt p q e f = absurd (omega arith)
fine_from at before (n ∷ ns) h zero d lt p q e f =
    let ep : at ≡ p = omega arith in
    let eq : before ≡ q = omega arith in
    subst (λ (i : ℕ). IsFine i q n) ep (subst (λ (j : ℕ). IsFine at j n) eq h.0)
fine_from at before (n ∷ ns) h (suc k) d lt p q e f =
    fine_from (at + 1) (count_inputs (n ∷ []) + before) ns h.1 k d (omega arith) p q (omega arith) (omega (arith, f, inputs-append (n ∷ []) (take k ns)))

-- the constant comes first
pub first_is : (net : List NetNode) → IsNet net → slice_index_or net 0 (Constant true) ≡ Constant true
first_is net h = rw h.1 refl

fine_behind : (rest : List NetNode) → AreFine 1 0 rest → (k : ℕ) → k < length rest → IsFine (suc k) (count_inputs (take (suc k) (Constant true ∷ rest))) (slice_index_or (Constant true ∷ rest) (suc k) (Constant true))
unfolding count_inputs
fine_behind rest h k lt = fine_from 1 0 rest h k (Constant true) lt (suc k) (count_inputs (take k rest)) (omega arith) (omega arith)

pub node_fine : (net : List NetNode) → IsNet net → (at : ℕ) → 0 < at → at < length net → IsFine at (count_inputs (take at net)) (slice_index_or net at (Constant true))
node_fine net h zero p lt = absurd (omega arith)
node_fine net h (suc k) p lt = rw h.1 (fine_behind h.0 h.2 k (omega (arith, ap length h.1)))

-- the arguments of an and-node
pub record Arguments (at : ℕ) (a b : Bit) : Type 0 where
  pub left : (0 < a.node) × (a.node < at)
  pub right : (0 < b.node) × (b.node < at)
  pub two : a.node ≢ b.node

pub and_arguments : (net : List NetNode) → IsNet net → (at : ℕ) (a b : Bit) → at < length net → slice_index_or net at (Constant true) ≡ And a b → Arguments at a b
and_arguments net h zero a b lt q = let e = sym (first_is net h) ∙ q in cc
and_arguments net h (suc k) a b lt q =
    let f = subst (λ n. IsFine (suc k) (count_inputs (take (suc k) net)) n) q (node_fine net h (suc k) (omega arith) lt) in
    record { left = (f.2, f.0); right = (f.3, f.1); two = f.4 }

-- the value of a node, from the values of those before it
pub here : (x : ℕ → Bool) (net : List NetNode) (at : ℕ) → at < length net → holds x net (record { node = at; negated = false }) ≡ node_in x (values_from x [] (take at net)) (slice_index_or net at (Constant true))
here x net at lt =
    let b : Bit = record { node = at; negated = false } in
    let long : length (take (at + 1) net) ≡ at + 1 = length-take-le (at + 1) net (omega arith) in
    ap (λ l. holds x l b) (sym (take-append-drop (at + 1) net))
    ∙ holds-append x (take (at + 1) net) (drop (at + 1) net) b (omega arith)
    ∙ ap (λ l. holds x l b) (take_more net at (Constant true) lt)
    ∙ holds-pushed x (take at net) (slice_index_or net at (Constant true)) at (sym (length-take-le at net (omega arith)))

earlier : (x : ℕ → Bool) (net : List NetNode) (at : ℕ) (b : Bit) → at < length net → b.node < at → bit_in (values_from x [] (take at net)) b ≡ holds x net b
unfolding holds
earlier x net at b lt h =
    sym (holds-append x (take at net) (drop at net) b (omega (arith, length-take-le at net (omega arith)))) ∙ ap (λ l. holds x l b) (take-append-drop at net)

pub and_value : (x : ℕ → Bool) (net : List NetNode) → IsNet net → (at : ℕ) (a b : Bit) → at < length net → slice_index_or net at (Constant true) ≡ And a b → holds x net (record { node = at; negated = false }) ≡ (holds x net a && holds x net b)
and_value x net h at a b lt q =
    let r = and_arguments net h at a b lt q in
    here x net at lt ∙ ap (node_in x (values_from x [] (take at net))) q
    ∙ ap (λ i. i && bit_in (values_from x [] (take at net)) b) (earlier x net at a lt r.left.1)
    ∙ ap (λ i. holds x net a && i) (earlier x net at b lt r.right.1)

-- what is at an index is within the list, and is what any default gives there
pub found : (net : List NetNode) (at : ℕ) (n d : NetNode) → Some n ≡ slice_get net at → (at < length net) × (slice_index_or net at d ≡ n)
found [] at n d e = cc
found (x ∷ net) zero n d e = (omega arith, cc)
found (x ∷ net) (suc at) n d e = let f = found net at n d e in (omega (arith, f.0), f.1)

-- a node that stands already
pub means_found : (net : List NetNode) (a b : Bit) (at : ℕ) → IsNet net → Some (And a b) ≡ slice_get net at → Means net (record { node = at; negated = false }) (λ v. holds v net a && holds v net b)
means_found net a b at h e =
    let f = found net at (And a b) (Constant true) e in
    record { inside = f.0; is = λ v. and_value v net h at a b f.0 f.1 }

pub and_swapped : (a b : Bool) → (b && a) ≡ (a && b)
and_swapped true true = refl
and_swapped true false = refl
and_swapped false true = refl
and_swapped false false = refl

-- a conjunction in the other order
pub means_swapped : {new : List NetNode} {r : Bit} (old : List NetNode) (a b : Bit) → Means new r (λ v. holds v old b && holds v old a) → Means new r (λ v. holds v old a && holds v old b)
means_swapped {new} {r} old a b m = record { inside = m.inside; is = λ v. m.is v ∙ and_swapped (holds v old a) (holds v old b) }
