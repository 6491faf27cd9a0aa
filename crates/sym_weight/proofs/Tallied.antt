-- What the code tallies is what a part weighs and draws by itself, as far as numbers go.
use Rattle.std.proofs.Common.{◌≡◌, ℕ, ◌+◌, ◌*◌, List, [], ◌∷◌, ◌++◌, Bool, true, false, Option, refl, ap, ◌∙◌, arith}
use Rattle.c_core.specs.Tree.{Exp, Function, Program}
use Rattle.c_core.specs.declared.number.Spot.{Spot}
use Rattle.c_meaning.specs.Duties.{Placed}
use Rattle.sym_weight.specs.declared.cost.Cost.{Cost}
use Rattle.sym_weight.specs.Sum.{expression, function_of}
use Rattle.sym_weight.specs.Table.{statement_weight, tested}
use Rattle.sym_weight.specs.Tally.{Tally, capped, cost, plus, tallying}
use Rattle.sym_weight.specs.Totals.{sum_over}
use Rattle.sym_weight.specs.Weight.{evaluation, placed_weight, weighing}
use Rattle.sym_weight.proofs.Owning.{Own, owning, weight_relates}
use Rattle.sym_weight.proofs.Relating.{Relates, related_expression, related_function_of}

capped_both : (a b : ℕ) → capped (capped a + capped b) ≡ capped (a + b)
capped_both a b = omega arith

costs_both : (w v b d : ℕ) → plus (cost w b) (cost v d) ≡ cost (w + v) (b + d)
costs_both w v b d =
    ap (λ x. record { weight = x; bits = capped (capped b + capped d) }) (capped_both w v) ∙ ap (λ x. record { weight = capped (w + v); bits = x }) (capped_both b d)

abbrev pub Tells : Tally → Own → Type 0
Tells t o = (t.cost ≡ cost o.weight o.bits) × (t.calls ≡ o.calls)

tells_both : (a b : Tally) (c d : Own) → Tells a c → Tells b d → Tells (tallying.both a b) (owning.both c d)
tells_both a b c d h k = (
  ap (λ x. plus x b.cost) h.0 ∙ ap (λ x. plus (cost c.weight c.bits) x) k.0 ∙ costs_both c.weight d.weight c.bits d.bits,
  ap (λ x. x ++ b.calls) h.1 ∙ ap (λ x. c.calls ++ x) k.1,
)

tally_relates : Relates tallying owning Tells
tally_relates = record {
  none = (refl, refl);
  both = tells_both;
  part = λ weight bits l. (refl, refl);
  body = λ f. (refl, refl);
}

capped_more : (k q p : ℕ) → q ≡ capped p → capped (k + q) ≡ capped (k + p)
capped_more k q p e = omega arith

capped_thrice : (q p b : ℕ) → q ≡ capped p → capped (3 * q + 4 * b) ≡ capped (3 * p + 4 * b)
capped_thrice q p b e = omega arith

-- the weights of the invariants by place are those of the list
abbrev pub AreWeights : Program → List Placed → (Bool → Spot → ℕ) → Type 0
AreWeights p I at_place = (at_loop : Bool) (spot : Spot) → at_place at_loop spot ≡ capped (placed_weight p I at_loop spot)

pub function_told : (p : Program) (I : List Placed) (at_place : Bool → Spot → ℕ) → AreWeights p I at_place → (f : Option Function)
    → Tells (function_of p tallying at_place f) (function_of p owning (placed_weight p I) f)
function_told p I at_place same f =
    related_function_of p tallying owning Tells tally_relates at_place (placed_weight p I)
    (λ at. (ap (λ x. record { weight = x; bits = capped 0 }) (capped_more statement_weight (at_place false at) (placed_weight p I false at) (same false at)), refl))
    (λ at bits. (ap (λ x. record { weight = x; bits = capped bits }) (capped_thrice (at_place true at) (placed_weight p I true at) bits (same true at)), refl))
    f

nothing_called : (fs : List ℕ) → sum_over (λ f. 0) fs ≡ 0
nothing_called [] = refl
nothing_called (f ∷ fs) = let h = nothing_called fs in omega arith

without_calls : (o s w : ℕ) → s ≡ 0 → o + s ≡ w → o ≡ w
without_calls o s w a b = omega arith

test_weight : (p : Program) (e : Exp) → (expression p owning e).weight ≡ expression p (weighing (λ f. 0)) e
test_weight p e =
    without_calls (expression p owning e).weight (sum_over (λ f. 0) (expression p owning e).calls) (expression p (weighing (λ f. 0)) e) (nothing_called (expression p owning e).calls)
    (related_expression p owning (weighing (λ f. 0)) (λ o a. o.weight + sum_over (λ f. 0) o.calls ≡ a) (weight_relates (λ f. 0)) e)

-- an expression by itself
pub weighed : (p : Program) (e : Exp) (c : Cost) → c ≡ (expression p tallying e).cost → c.weight ≡ capped (expression p (weighing (λ f. 0)) e)
weighed p e c is =
    let told = related_expression p tallying owning Tells tally_relates e in
    ap (λ x. x.weight) is ∙ ap (λ x. x.weight) told.0 ∙ ap capped (test_weight p e)

-- an invariant's evaluation
pub evaluated : (c w t n : ℕ) → c ≡ capped w → n ≡ capped (c + (64 + t)) → n ≡ capped (64 + (w + t))
evaluated c w t n e h = omega arith
