-- Once calls are unfolded as deep as chains are long, a larger depth changes nothing.
use Rattle.std.proofs.Common.{◌≡◌, ℕ, zero, suc, ◌+◌, ◌<◌, ◌≤◌, max, List, [], ◌∷◌, refl, sym, ap, ◌∙◌, subst, arith}
use Rattle.c_core.specs.Tree.{Program}
use Rattle.c_meaning.specs.Duties.{Placed}
use Rattle.sym_weight.specs.Totals.{sum_over, longest_over}
use Rattle.sym_weight.specs.Weight.{weight_in, bits_in, chain_in}
use Rattle.sym_weight.proofs.Owning.{own_of, weight_step, bits_step, chain_step}

first_below : (a l m : ℕ) → max (suc a) l < suc m → a < m
first_below a l m h = omega arith

others_below : (a l m : ℕ) → max (suc a) l < suc m → l < suc m
others_below a l m h = omega arith

same_sum : (new old chain : ℕ → ℕ) (m : ℕ) (fs : List ℕ) → ((g : ℕ) → chain g < m → new g ≡ old g) → longest_over chain fs < suc m → sum_over new fs ≡ sum_over old fs
same_sum new old chain m [] same l = refl
same_sum new old chain m (f ∷ fs) same l =
    ap (λ x. x + sum_over new fs) (same f (first_below (chain f) (longest_over chain fs) m l))
    ∙ ap (λ x. old f + x) (same_sum new old chain m fs same (others_below (chain f) (longest_over chain fs) m l))

same_longest : (new chain : ℕ → ℕ) (m : ℕ) (fs : List ℕ) → ((g : ℕ) → chain g < m → new g ≡ chain g) → longest_over chain fs < suc m → longest_over new fs ≡ longest_over chain fs
same_longest new chain m [] same l = refl
same_longest new chain m (f ∷ fs) same l =
    ap (λ x. max (suc x) (longest_over new fs)) (same f (first_below (chain f) (longest_over chain fs) m l))
    ∙ ap (λ x. max (suc (chain f)) x) (same_longest new chain m fs same (others_below (chain f) (longest_over chain fs) m l))

-- unfolded deeper it is the same
pub record AreSame (p : Program) (I : List Placed) (m n f : ℕ) : Type 0 where
  pub weight : weight_in p I m f ≡ weight_in p I n f
  pub bits : bits_in p m f ≡ bits_in p n f
  pub chain : chain_in p m f ≡ chain_in p n f

stable : (p : Program) (I : List Placed) (n f : ℕ) → chain_in p n f < n → AreSame p I (suc n) n f
stable p I zero f l = record { weight = omega (arith, l); bits = omega (arith, l); chain = omega (arith, l) }
stable p I (suc n) f l =
    let o = own_of p I f in
    let c : longest_over (chain_in p n) o.calls < suc n = subst (λ x. x < suc n) (chain_step p I n f) l in
    record {
      weight = weight_step p I (suc n) f
          ∙ ap (λ s. o.weight + s) (same_sum (weight_in p I (suc n)) (weight_in p I n) (chain_in p n) n o.calls (λ g b. (stable p I n g b).weight) c)
          ∙ sym (weight_step p I n f);
      bits = bits_step p I (suc n) f
          ∙ ap (λ s. o.bits + s) (same_sum (bits_in p (suc n)) (bits_in p n) (chain_in p n) n o.calls (λ g b. (stable p I n g b).bits) c)
          ∙ sym (bits_step p I n f);
      chain = chain_step p I (suc n) f
          ∙ same_longest (chain_in p (suc n)) (chain_in p n) n o.calls (λ g b. (stable p I n g b).chain) c
          ∙ sym (chain_step p I n f);
    }

-- n and k more
abbrev pub deeper : ℕ → ℕ → ℕ
deeper zero n = n
deeper (suc k) n = suc (deeper k n)

pub deeper_is_more : (k n : ℕ) → deeper k n ≡ k + n
deeper_is_more zero n = omega arith
deeper_is_more (suc k) n = let h = deeper_is_more k n in omega arith

still_below : (a b n k m : ℕ) → a ≡ b → b < n → m ≡ k + n → a < m
still_below a b n k m e l d = omega arith

pub settled : (p : Program) (I : List Placed) (k n f : ℕ) → chain_in p n f < n → AreSame p I (deeper k n) n f
settled p I zero n f l = record { weight = refl; bits = refl; chain = refl }
settled p I (suc k) n f l =
    let h = settled p I k n f l in
    let s = stable p I (deeper k n) f (still_below (chain_in p (deeper k n) f) (chain_in p n f) n k (deeper k n) h.chain l (deeper_is_more k n)) in
    record { weight = s.weight ∙ h.weight; bits = s.bits ∙ h.bits; chain = s.chain ∙ h.chain }

longest_grows : (old new : ℕ → ℕ) (fs : List ℕ) → ((g : ℕ) → old g ≤ new g) → longest_over old fs ≤ longest_over new fs
longest_grows old new [] h = omega arith
longest_grows old new (f ∷ fs) h = let a = h f in let b = longest_grows old new fs h in omega arith

chain_grows : (p : Program) (n f : ℕ) → chain_in p n f ≤ chain_in p (suc n) f
chain_grows p zero f = omega arith
chain_grows p (suc n) f =
    let h = longest_grows (chain_in p n) (chain_in p (suc n)) (own_of p [] f).calls (chain_grows p n) in
    let a = chain_step p [] n f in
    let b = chain_step p [] (suc n) f in
    omega arith

pub chain_is_longer : (p : Program) (k n f : ℕ) → chain_in p n f ≤ chain_in p (deeper k n) f
chain_is_longer p zero n f = omega arith
chain_is_longer p (suc k) n f = let a = chain_is_longer p k n f in let b = chain_grows p (deeper k n) f in omega arith
