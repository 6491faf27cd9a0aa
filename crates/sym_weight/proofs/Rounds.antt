-- After n rounds each function's total is that of its calls unfolded n deep.
use Rattle.std.proofs.Common.{◌≡◌, ℕ, zero, suc, ◌+◌, max, List, [], ◌∷◌, Bool, Option, Some, None, slice_get, refl, sym, ap, ◌∙◌, arith}
use Rattle.std.proofs.lemmas.Option.{slice_get-map}
use Rattle.std.specs.Option.{option_map}
use Rattle.c_core.specs.Tree.{Function, Program}
use Rattle.c_core.specs.declared.number.Spot.{Spot}
use Rattle.c_meaning.specs.Duties.{Placed}
use Rattle.sym_weight.specs.declared.totals.Total.{Total}
use Rattle.sym_weight.specs.Sum.{function_of}
use Rattle.sym_weight.specs.Tally.{Tally, all_tallies, capped, tallying}
use Rattle.sym_weight.specs.Totals.{sum_over, longest_over, total_at, total_in, called_weight, called_bits, called_chain, next_total, totals_after}
use Rattle.sym_weight.specs.Weight.{placed_weight, weight_in, bits_in, chain_in}
use Rattle.sym_weight.proofs.Owning.{Own, owning, weight_step, bits_step, chain_step}
use Rattle.sym_weight.proofs.Tallied.{Tells, AreWeights, function_told}

more_capped : (a b s t : ℕ) → a ≡ capped b → capped s ≡ capped t → capped (a + s) ≡ capped (b + t)
more_capped a b s t e h = omega arith

sum_capped : (got want : ℕ → ℕ) (fs : List ℕ) → ((g : ℕ) → got g ≡ capped (want g)) → capped (sum_over got fs) ≡ capped (sum_over want fs)
sum_capped got want [] same = refl
sum_capped got want (f ∷ fs) same = more_capped (got f) (want f) (sum_over got fs) (sum_over want fs) (same f) (sum_capped got want fs same)

longer_capped : (a b s t : ℕ) → a ≡ capped b → capped s ≡ capped t → capped (max (suc a) s) ≡ capped (max (suc b) t)
longer_capped a b s t e h = omega arith

longest_capped : (got want : ℕ → ℕ) (fs : List ℕ) → ((g : ℕ) → got g ≡ capped (want g)) → capped (longest_over got fs) ≡ capped (longest_over want fs)
longest_capped got want [] same = refl
longest_capped got want (f ∷ fs) same = longer_capped (got f) (want f) (longest_over got fs) (longest_over want fs) (same f) (longest_capped got want fs same)

with_own : (o s t : ℕ) → capped s ≡ capped t → capped (capped o + capped s) ≡ capped (o + t)
with_own o s t h = omega arith

pub total_is : (w v b d c e : ℕ) → w ≡ v → b ≡ d → c ≡ e → ◌≡◌ {A = Total} (record { weight = w; bits = b; chain = c }) (record { weight = v; bits = d; chain = e })
total_is w v b d c e h k l =
    ap (λ x. record { weight = x; bits = b; chain = c }) h ∙ ap (λ x. record { weight = v; bits = x; chain = c }) k ∙ ap (λ x. record { weight = v; bits = d; chain = x }) l

-- with calls unfolded n deep
abbrev pub total_of : Program → List Placed → ℕ → ℕ → Total
total_of p I n f = record { weight = capped (weight_in p I n f); bits = capped (bits_in p n f); chain = capped (chain_in p n f) }

abbrev stepped : Program → List Placed → ℕ → Own → Total
stepped p I n o = record {
  weight = capped (o.weight + sum_over (weight_in p I n) o.calls);
  bits = capped (o.bits + sum_over (bits_in p n) o.calls);
  chain = capped (longest_over (chain_in p n) o.calls);
}

told : (p : Program) (I : List Placed) (n : ℕ) (totals : List Total) → ((g : ℕ) → total_at totals g ≡ total_of p I n g) → (t : Tally) (o : Own) → Tells t o → next_total totals t ≡ stepped p I n o
told p I n totals same t o h =
    total_is (capped (t.cost.weight + capped (called_weight totals t.calls))) (capped (o.weight + sum_over (weight_in p I n) o.calls))
    (capped (t.cost.bits + capped (called_bits totals t.calls))) (capped (o.bits + sum_over (bits_in p n) o.calls))
    (capped (called_chain totals t.calls)) (capped (longest_over (chain_in p n) o.calls))
    (ap (λ c. capped (c.weight + capped (called_weight totals t.calls))) h.0 ∙ ap (λ fs. capped (capped o.weight + capped (called_weight totals fs))) h.1
    ∙ with_own o.weight (called_weight totals o.calls) (sum_over (weight_in p I n) o.calls)
    (sum_capped (λ g. (total_at totals g).weight) (weight_in p I n) o.calls (λ g. ap (λ x. x.weight) (same g))))
    (ap (λ c. capped (c.bits + capped (called_bits totals t.calls))) h.0 ∙ ap (λ fs. capped (capped o.bits + capped (called_bits totals fs))) h.1
    ∙ with_own o.bits (called_bits totals o.calls) (sum_over (bits_in p n) o.calls)
    (sum_capped (λ g. (total_at totals g).bits) (bits_in p n) o.calls (λ g. ap (λ x. x.bits) (same g))))
    (ap (λ fs. capped (called_chain totals fs)) h.1
    ∙ longest_capped (λ g. (total_at totals g).chain) (chain_in p n) o.calls (λ g. ap (λ x. x.chain) (same g)))

next_of : (p : Program) (I : List Placed) (at_place : Bool → Spot → ℕ) → AreWeights p I at_place → (n : ℕ) (totals : List Total) → ((g : ℕ) → total_at totals g ≡ total_of p I n g) → (f : Option Function)
    → total_in (option_map (next_total totals) (option_map (λ f. function_of p tallying at_place (Some f)) f)) ≡ stepped p I n (function_of p owning (placed_weight p I) f)
next_of p I at_place weights n totals same None = refl
next_of p I at_place weights n totals same (Some f) =
    told p I n totals same (function_of p tallying at_place (Some f)) (function_of p owning (placed_weight p I) (Some f)) (function_told p I at_place weights (Some f))

pub after_rounds : (p : Program) (I : List Placed) (at_place : Bool → Spot → ℕ) → AreWeights p I at_place → (n f : ℕ)
    → total_at (totals_after (all_tallies p at_place) n) f ≡ total_of p I n f
after_rounds p I at_place weights zero f = refl
after_rounds p I at_place weights (suc n) f =
    let totals = totals_after (all_tallies p at_place) n in
    ap total_in (slice_get-map (next_total totals) (all_tallies p at_place) f
    ∙ ap (option_map (next_total totals)) (slice_get-map (λ f. function_of p tallying at_place (Some f)) p.functions f))
    ∙ next_of p I at_place weights n totals (after_rounds p I at_place weights n) (slice_get p.functions f)
    ∙ total_is _ _ _ _ _ _ (ap capped (sym (weight_step p I n f))) (ap capped (sym (bits_step p I n f))) (ap capped (sym (chain_step p I n f)))
