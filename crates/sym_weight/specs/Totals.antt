-- Totals with calls unfolded, round by round: each round takes what the functions came to in the round before.
use Rattle.std.specs.Prelude.{ℕ, zero, suc, ◌+◌, max, List, [], ◌∷◌, Option, Some, None, slice_get, map}
use Rattle.sym_weight.specs.declared.totals.Total.{Total}
use Rattle.sym_weight.specs.Tally.{Tally, capped}

-- over functions, each as often as it stands there
abbrev pub sum_over : (ℕ → ℕ) → List ℕ → ℕ
sum_over amount [] = 0
sum_over amount (f ∷ fs) = amount f + sum_over amount fs

-- the longest chain that begins with a call of one of these functions
abbrev pub longest_over : (ℕ → ℕ) → List ℕ → ℕ
longest_over chain [] = 0
longest_over chain (f ∷ fs) = max (suc (chain f)) (longest_over chain fs)

abbrev pub total_in : Option Total → Total
total_in None = record { weight = 0; bits = 0; chain = 0 }
total_in (Some t) = t

abbrev pub total_at : List Total → ℕ → Total
total_at totals f = total_in (slice_get totals f)

abbrev pub called_weight : List Total → List ℕ → ℕ
called_weight totals fs = sum_over (λ f. (total_at totals f).weight) fs

abbrev pub called_bits : List Total → List ℕ → ℕ
called_bits totals fs = sum_over (λ f. (total_at totals f).bits) fs

abbrev pub called_chain : List Total → List ℕ → ℕ
called_chain totals fs = longest_over (λ f. (total_at totals f).chain) fs

-- of a function, with its calls by these totals
abbrev pub next_total : List Total → Tally → Total
next_total totals t = record {
  weight = capped (t.cost.weight + capped (called_weight totals t.calls));
  bits = capped (t.cost.bits + capped (called_bits totals t.calls));
  chain = capped (called_chain totals t.calls);
}

abbrev pub totals_after : List Tally → ℕ → List Total
totals_after tallies zero = []
totals_after tallies (suc n) = map (next_total (totals_after tallies n)) tallies
