-- What a part weighs and draws without the functions that it calls, and how sums with calls come of it.
use Rattle.std.proofs.Common.{◌≡◌, ℕ, suc, ◌+◌, max, List, [], ◌∷◌, ◌++◌, refl, sym, arith}
use Rattle.std.proofs.Math.Nat.{add-zero}
use Rattle.c_core.specs.Tree.{Program}
use Rattle.c_meaning.specs.Duties.{Placed}
use Rattle.sym_weight.specs.Sum.{Sum, function}
use Rattle.sym_weight.specs.Totals.{sum_over, longest_over}
use Rattle.sym_weight.specs.Weight.{weighing, drawing, chaining, nowhere, placed_weight, weight_in, bits_in, chain_in}
use Rattle.sym_weight.proofs.Relating.{Relates, related_function}

pub record Own : Type 0 where
  pub weight : ℕ
  pub bits : ℕ
  pub calls : List ℕ

abbrev pub owning : Sum
owning = record {
  Amount = Own;
  none = record { weight = 0; bits = 0; calls = [] };
  both = λ a b. record { weight = a.weight + b.weight; bits = a.bits + b.bits; calls = a.calls ++ b.calls };
  part = λ weight bits. record { weight = weight; bits = bits; calls = [] };
  body = λ f. record { weight = 0; bits = 0; calls = f ∷ [] };
}

regrouped : (a b c d : ℕ) → b ≡ c + d → a + b ≡ (a + c) + d
regrouped a b c d h = omega arith

sum_both : (amount : ℕ → ℕ) (xs ys : List ℕ) → sum_over amount (xs ++ ys) ≡ sum_over amount xs + sum_over amount ys
sum_both amount [] ys = omega arith
sum_both amount (x ∷ xs) ys = regrouped (amount x) (sum_over amount (xs ++ ys)) (sum_over amount xs) (sum_over amount ys) (sum_both amount xs ys)

longer : (a b c d : ℕ) → b ≡ max c d → max a b ≡ max (max a c) d
longer a b c d h = omega arith

longest_both : (chain : ℕ → ℕ) (xs ys : List ℕ) → longest_over chain (xs ++ ys) ≡ max (longest_over chain xs) (longest_over chain ys)
longest_both chain [] ys = omega arith
longest_both chain (x ∷ xs) ys = longer (suc (chain x)) (longest_over chain (xs ++ ys)) (longest_over chain xs) (longest_over chain ys) (longest_both chain xs ys)

both_sums : (w v s t u a b : ℕ) → u ≡ s + t → w + s ≡ a → v + t ≡ b → (w + v) + u ≡ a + b
both_sums w v s t u a b e h k = omega arith

both_longest : (s t u a b : ℕ) → u ≡ max s t → s ≡ a → t ≡ b → u ≡ max a b
both_longest s t u a b e h k = omega arith

one_call : (a : ℕ) → 0 + (a + 0) ≡ a
one_call a = omega arith

one_chain : (a : ℕ) → max (suc a) 0 ≡ suc a
one_chain a = omega arith

pub weight_relates : (call : ℕ → ℕ) → Relates owning (weighing call) (λ o a. o.weight + sum_over call o.calls ≡ a)
weight_relates call = record {
  none = refl;
  both = λ a b c d h k. both_sums a.weight b.weight (sum_over call a.calls) (sum_over call b.calls) (sum_over call (a.calls ++ b.calls)) c d (sum_both call a.calls b.calls) h k;
  part = λ weight bits l. add-zero weight;
  body = λ f. one_call (call f);
}

bits_relates : (call : ℕ → ℕ) → Relates owning (drawing call) (λ o a. o.bits + sum_over call o.calls ≡ a)
bits_relates call = record {
  none = refl;
  both = λ a b c d h k. both_sums a.bits b.bits (sum_over call a.calls) (sum_over call b.calls) (sum_over call (a.calls ++ b.calls)) c d (sum_both call a.calls b.calls) h k;
  part = λ weight bits l. add-zero bits;
  body = λ f. one_call (call f);
}

chain_relates : (call : ℕ → ℕ) → Relates owning (chaining call) (λ o a. longest_over call o.calls ≡ a)
chain_relates call = record {
  none = refl;
  both = λ a b c d h k. both_longest (longest_over call a.calls) (longest_over call b.calls) (longest_over call (a.calls ++ b.calls)) c d (longest_both call a.calls b.calls) h k;
  part = λ weight bits l. refl;
  body = λ f. one_chain (call f);
}

abbrev pub own_of : Program → List Placed → ℕ → Own
own_of p I f = function p owning (placed_weight p I) f

pub weight_step : (p : Program) (I : List Placed) (n f : ℕ) → weight_in p I (suc n) f ≡ (own_of p I f).weight + sum_over (weight_in p I n) (own_of p I f).calls
weight_step p I n f =
    sym (related_function p owning (weighing (weight_in p I n)) (λ o a. o.weight + sum_over (weight_in p I n) o.calls ≡ a) (weight_relates (weight_in p I n))
    (placed_weight p I) (placed_weight p I) (λ at. add-zero _) (λ at bits. add-zero _) f)

pub bits_step : (p : Program) (I : List Placed) (n f : ℕ) → bits_in p (suc n) f ≡ (own_of p I f).bits + sum_over (bits_in p n) (own_of p I f).calls
bits_step p I n f =
    sym (related_function p owning (drawing (bits_in p n)) (λ o a. o.bits + sum_over (bits_in p n) o.calls ≡ a) (bits_relates (bits_in p n))
    (placed_weight p I) nowhere (λ at. refl) (λ at bits. add-zero bits) f)

pub chain_step : (p : Program) (I : List Placed) (n f : ℕ) → chain_in p (suc n) f ≡ longest_over (chain_in p n) (own_of p I f).calls
chain_step p I n f =
    sym (related_function p owning (chaining (chain_in p n)) (λ o a. longest_over (chain_in p n) o.calls ≡ a) (chain_relates (chain_in p n))
    (placed_weight p I) nowhere (λ at. refl) (λ at bits. refl) f)
