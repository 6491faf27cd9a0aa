-- What the solver's answer says of a bit.
use Rattle.std.proofs.Common.{◌≡◌, ℕ, Bool, true, false, not, List, [], get_or, ℤ, refl, sym, ◌∙◌, ap}
use Rattle.std.proofs.lemmas.Bool.{false_from_ne_true}
use Rattle.circuits.specs.declared.net.Bit.{Bit}
use Rattle.circuits.specs.declared.net.NetNode.{NetNode}
use Rattle.circuits.specs.Net.{holds, values_from, xor, IsNet}
use Rattle.circuits.proofs.Nets.{first_true}
use Rattle.clauses.specs.Tseitin.{Fulfils}
use Rattle.clauses.specs.Log.{Refutes}
use Rattle.clauses.specs.Within.{AreOf}
use Rattle.clauses.specs.declared.log.Chain.{Chain}
use Rattle.clauses.proofs.Soundness.{refuted}
use Rattle.bit_answers.specs.Deciding.{IsNeverTrue}

pub clash : {b : Bool} → b ≡ true → b ≡ false → ⊥
clash {b} t f = let e : true ≡ false = sym t ∙ f in cc

flipped : (b : Bool) → xor b true ≡ not b
flipped true = refl
flipped false = refl

-- the constant, or its opposite
pub constant_is : (net : List NetNode) (b : Bit) (v : ℕ → Bool) → IsNet net → b.node ≡ 0 → holds v net b ≡ not b.negated
unfolding holds
constant_is net b v h e = ap (λ k. xor b.negated (get_or (values_from v [] net) k false)) e ∙ ap (xor b.negated) (first_true v net h) ∙ flipped b.negated

pub refuted_never : (net : List NetNode) (b : Bit) {variables : ℕ} {clauses : List (List ℤ)} {chains : List Chain} → Fulfils net b clauses → AreOf variables clauses → Refutes clauses chains → IsNeverTrue net b
refuted_never net b {variables} {clauses} {chains} f w r v = false_from_ne_true (holds v net b) (λ h.
    let made = f v h in
    clash made.2 (refuted variables clauses chains w r.accepted r.ends made.0))
